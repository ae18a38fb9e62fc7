-- Who is joined in a unit: what the tests on features say, which nothing else unfolds.
use Rattle.std.proofs.Common.{◌≡◌, ◌≢◌, ℕ, Bool, true, false, cond, not, ◌==◌, List, [], ◌∷◌, ◌++◌, filter, flat_map, refl, sym, ap, ap₂, ◌∙◌, true≢false, eq-eqb}
use Rattle.std.specs.Prelude.{Contains, IsTrue}
use Rattle.std.proofs.lemmas.Bool.{ne_eqb}
use Rattle.venue_types.proofs.Items.{Contains-first, Contains-later}
use Rattle.venue_types.specs.declared.features.Features.{Features}
use Rattle.venue_types.specs.declared.features.UnitRow.{UnitRow}
use Rattle.venue_types.specs.declared.settings.Inside.{Inside}
use Rattle.venue_types.specs.declared.settings.Inside.TheVariants as insides
use Rattle.venue_types.specs.declared.settings.Settings.{Settings}
use Rattle.unit_sight.specs.Joined.{are_blind, is_joined}
use Rattle.unit_sight.proofs.HostLaws.{seeing_whole, blind_whole}
use Rattle.venue_nodes.specs.Members.{members}
use Rattle.link_graph.specs.Links.{are_joined, joined_by, sees, way}
use Rattle.link_graph.specs.Usable.{IsWhole}

apart_others : (a b : ℕ) → a ≢ b → IsTrue (not (a == b))
apart_others a b h = ap not (ne_eqb a b h)

-- ---- nobody is joined to itself

not_itself : (sees : ℕ → ℕ → Bool) (far : ℕ → ℕ → ℕ) (members : List ℕ) (a b : ℕ) → a ≡ b → is_joined sees far members a b ≡ false
unfolding is_joined
not_itself sees far members a b same = rw (eq-eqb a b same) refl

by_apart : (inside : Inside) (features : Features) (settings : Settings) (u : UnitRow) (a b : ℕ) → IsTrue (joined_by inside features settings u a b) → a ≢ b
by_apart insides.Straight features settings u a b h same = true≢false (sym h ∙ ap not (eq-eqb a b same))
by_apart insides.Clear features settings u a b h same = true≢false (sym h ∙ not_itself (sees features settings u) (way features settings) (members features settings u) a b same)

pub joined_apart : (features : Features) (settings : Settings) (u : UnitRow) (a b : ℕ) → IsTrue (are_joined features settings u a b) → a ≢ b
unfolding are_joined
joined_apart features settings u a b h = by_apart settings.inside features settings u a b h

-- ---- where any two are

by_whole : (inside : Inside) (features : Features) (settings : Settings) (u : UnitRow) (a b : ℕ)
    → (inside ≡ insides.Clear → is_joined (sees features settings u) (way features settings) (members features settings u) a b ≡ not (a == b))
    → a ≢ b → IsTrue (joined_by inside features settings u a b)
by_whole insides.Straight features settings u a b all apart = apart_others a b apart
by_whole insides.Clear features settings u a b all apart = all refl ∙ apart_others a b apart

by_straight : (inside : Inside) (features : Features) (settings : Settings) (u : UnitRow) (a b : ℕ) → inside ≡ insides.Straight → a ≢ b → IsTrue (joined_by inside features settings u a b)
by_straight inside features settings u a b straight apart = ap (λ (i : Inside). joined_by i features settings u a b) straight ∙ apart_others a b apart

pub whole_straight : (features : Features) (settings : Settings) (u : UnitRow) → settings.inside ≡ insides.Straight → IsWhole features settings u
unfolding are_joined
whole_straight features settings u straight = record { joined = λ a b h k apart. by_straight settings.inside features settings u a b straight apart }

pub whole_seeing : (features : Features) (settings : Settings) (u : UnitRow)
    → ((c d : ℕ) → Contains (members features settings u) c → Contains (members features settings u) d → c ≢ d → sees features settings u c d ≡ true) → IsWhole features settings u
unfolding are_joined
whole_seeing features settings u seeing = record {
  joined = λ a b h k apart. by_whole settings.inside features settings u a b
      (λ clear. seeing_whole (sees features settings u) (way features settings) (members features settings u) a b seeing h k) apart;
}

pub whole_blind : (features : Features) (settings : Settings) (u : UnitRow) → are_blind (sees features settings u) (members features settings u) ≡ true → IsWhole features settings u
unfolding are_joined
whole_blind features settings u blind = record {
  joined = λ a b h k apart. by_whole settings.inside features settings u a b
      (λ clear. blind_whole (sees features settings u) (way features settings) (members features settings u) a b blind) apart;
}

-- ---- what is the same for all items of a list

same_step : (s t : Bool) (x : ℕ) (xs ys : List ℕ) → s ≡ t → xs ≡ ys → cond s (x ∷ xs) xs ≡ cond t (x ∷ ys) ys
same_step s t x xs ys e rest = rw (e, rest) refl

pub filter_same : (s t : ℕ → Bool) (xs : List ℕ) → ((x : ℕ) → Contains xs x → s x ≡ t x) → filter s xs ≡ filter t xs
filter_same s t [] same = refl
filter_same s t (x ∷ xs) same = same_step (s x) (t x) x (filter s xs) (filter t xs) (same x (Contains-first x xs)) (filter_same s t xs (λ y h. same y (Contains-later x xs y h)))

pub flat_map_within : {Y : Type 0} (f g : ℕ → List Y) (xs : List ℕ) → ((x : ℕ) → Contains xs x → f x ≡ g x) → flat_map f xs ≡ flat_map g xs
flat_map_within f g [] same = refl
flat_map_within {Y} f g (x ∷ xs) same = ap₂ (λ (ys zs : List Y). ys ++ zs) (same x (Contains-first x xs)) (flat_map_within f g xs (λ y h. same y (Contains-later x xs y h)))
