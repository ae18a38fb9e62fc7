use Rattle.std.proofs.Common.{◌≡◌, Bool, true, false, not, ◌&&◌, ◌||◌, sym, ap, ap₂, ◌∙◌}
use Rattle.plane_exact.specs.Looks.{is_free}
use Rattle.plane_exact.proofs.sights.shows_sight.Goals as goal

-- each test, where those before it have failed
odd : (s o n : Bool) → not s ≡ true → o ≡ true → o ≡ (not s && (o || n))
odd s o n e f = f ∙ sym (ap₂ (λ x y. x && (y || n)) e f)

near : (s o n : Bool) → not s ≡ true → o ≡ false → n ≡ (not s && (o || n))
near s o n e f = sym (ap₂ (λ x y. x && (y || n)) e f)

stopped : (s o n : Bool) → not s ≡ false → not s ≡ (not s && (o || n))
stopped s o n e = e ∙ sym (ap (λ x. x && (o || n)) e)

pub returns-then-look : goal.returns-then-look
unfolding is_free
returns-then-look c = odd c.args.look.stopped c.args.look.odd c.args.look.near c.if-not-look.true c.if-look.true

pub returns-else-look : goal.returns-else-look
unfolding is_free
returns-else-look c = near c.args.look.stopped c.args.look.odd c.args.look.near c.if-not-look.true c.if-look.false

pub returns-else-not-look : goal.returns-else-not-look
unfolding is_free
returns-else-not-look c = stopped c.args.look.stopped c.args.look.odd c.args.look.near c.if-not-look.false
