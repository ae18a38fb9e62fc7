use Rattle.std.proofs.Common.{◌≡◌, ◌∙◌, ℕ, Bool, true, false, ◌&&◌, ◌||◌, cond, eqb, refl, sym, ap}
use Rattle.std.specs.Ordering.{nat_cmp, is_eq}
use Rattle.std.specs.Cmp.{unsigned_ties, both_tied}
use Rattle.imdf_refs.specs.Index.{pair_cmp}
use Rattle.imdf_refs.proofs.known.Known.insert.Goals as goal

cond_or : (a b : Bool) → cond a true b ≡ (b || a)
cond_or true true = refl
cond_or true false = refl
cond_or false true = refl
cond_or false false = refl

-- a pair is equal by its order where its parts are
typed_or : (id file q f : ℕ) (was now : Bool) → now ≡ cond (is_eq (pair_cmp (id, file) (q, f))) true was → now ≡ (was || (eqb id q && eqb file f))
typed_or id file q f was now is =
    let tied = both_tied (eqb id q) (eqb file f) (nat_cmp id q) (nat_cmp file f) (unsigned_ties id q) (unsigned_ties file f) in
    is ∙ ap (λ (t : Bool). cond t true was) (sym tied) ∙ cond_or (eqb id q && eqb file f) was

pub returns-clause-typed : goal.returns-clause-typed
returns-clause-typed c = λ q f. typed_or c.args.id.0 c.args.file q f _ _ (c.in_ok-insert.ensures.updates.0 (q, f))
