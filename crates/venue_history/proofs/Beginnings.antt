-- Histories that are cut and lengthened.
use Rattle.std.proofs.Common.{◌≡◌, ◌≢◌, ◌∙◌, ◌+◌, List, [], ◌∷◌, ◌++◌, length, refl, sym, ap, arith, subst, Option, Some, None}
use Rattle.std.proofs.Math.Logic.{∥∥₁_map, ∥∥₁_elim}
use Rattle.std.proofs.lemmas.Option.{same_Some}
use mathlib.Core.HLevel.{⊥_prop}
use mathlib.Core.List.{IsPrefix}
use Rattle.venue_history.specs.declared.entry.Entry.{Entry}
use Rattle.venue_history.specs.declared.entry.Act.{Act}
use Rattle.venue_history.specs.declared.entry.Act.TheVariants.{Published, Closed, Reopened}
use Rattle.venue_history.specs.Closed.{Version}
use Rattle.venue_history.specs.Versions.{MayFollow, after}
use Rattle.venue_history.specs.Histories.{after_all, MayAllFollow, replay_from, replay, IsLegalFrom, KeepsTheRules, IsLegal, Replays}

-- each act makes one version
after_number : (v : Version) (a : Act) → (after v a).number ≡ v.number + 1
after_number v (Published venue) = refl
after_number v (Closed it) = refl
after_number v (Reopened it) = refl

all_number : (v : Version) (es : List Entry) → (after_all v es).number ≡ v.number + length es
all_number v [] = omega arith
all_number v (e ∷ es) =
    let mine = after_number v e.act in
    let others = all_number (after v e.act) es in
    omega arith

act_number : (a : Act) (es : List Entry) (v : Version) → replay_from a es ≡ Some v → v.number ≡ 1 + length es
act_number (Published venue) es v r = ap (λ (w : Version). w.number) (sym (same_Some (after_all _ es) v r)) ∙ all_number _ es
act_number (Closed it) es v r = absurd (cc r)
act_number (Reopened it) es v r = absurd (cc r)

-- the number of a version is the length of its history
pub replay_number : (h : List Entry) (v : Version) → Replays h v → v.number ≡ length h
replay_number [] v r = absurd (cc r.leads)
replay_number (e ∷ es) v r = let n = act_number e.act es v r.leads in omega arith

follow_push : (v : Version) (es : List Entry) (e : Entry) → MayAllFollow v es → MayFollow (after_all v es) e → MayAllFollow v (es ++ e ∷ [])
follow_push v [] e l s = (s, tt)
follow_push v (d ∷ es) e l s = (l.0, follow_push (after v d.act) es e l.1 s)

after_push : (v : Version) (es : List Entry) (e : Entry) → after_all v (es ++ e ∷ []) ≡ after (after_all v es) e.act
after_push v [] e = refl
after_push v (d ∷ es) e = after_push (after v d.act) es e

leads_push : (a : Act) (es : List Entry) (v : Version) (e : Entry) → replay_from a es ≡ Some v → replay_from a (es ++ e ∷ []) ≡ Some (after v e.act)
leads_push (Published venue) es v e r = ap Some (after_push _ es e ∙ ap (λ (u : Version). after u e.act) (same_Some (after_all _ es) v r))
leads_push (Closed it) es v e r = absurd (cc r)
leads_push (Reopened it) es v e r = absurd (cc r)

legal_push : (a : Act) (es : List Entry) (v : Version) (e : Entry) → replay_from a es ≡ Some v → MayFollow v e → IsLegalFrom a es → IsLegalFrom a (es ++ e ∷ [])
legal_push (Published venue) es v e r m l = (l.0, follow_push _ es e l.1 (subst (λ (u : Version). MayFollow u e) (sym (same_Some (after_all _ es) v r)) m))
legal_push (Closed it) es v e r m l = absurd l
legal_push (Reopened it) es v e r m l = absurd l

-- an entry more that may follow
pub replay_push : (h : List Entry) (v : Version) (e : Entry) → Replays h v → MayFollow v e → Replays (h ++ e ∷ []) (after v e.act)
replay_push [] v e r m = absurd (cc r.leads)
replay_push (d ∷ es) v e r m = record {
  leads = leads_push d.act es v e r.leads;
  legal = ∥∥₁_map r.legal (λ (k : KeepsTheRules (d ∷ es)). (k.0, legal_push d.act es v e r.leads m k.1));
}

follow_cut : (v : Version) (es fs : List Entry) → MayAllFollow v (es ++ fs) → MayAllFollow v es
follow_cut v [] fs l = tt
follow_cut v (e ∷ es) fs l = (l.0, follow_cut (after v e.act) es fs l.1)

legal_cut : (a : Act) (es fs : List Entry) → IsLegalFrom a (es ++ fs) → IsLegalFrom a es
legal_cut (Published venue) es fs l = (l.0, follow_cut _ es fs l.1)
legal_cut (Closed it) es fs l = absurd l
legal_cut (Reopened it) es fs l = absurd l

keeps_cut : (es fs : List Entry) → es ≢ [] → KeepsTheRules (es ++ fs) → KeepsTheRules es
keeps_cut [] fs some k = absurd (some refl)
keeps_cut (e ∷ es) fs some k = (k.0, legal_cut e.act es fs k.1)

-- a beginning that isn't empty
pub legal_beginning : (begin whole : List Entry) → IsPrefix begin whole → begin ≢ [] → IsLegal whole → IsLegal begin
legal_beginning begin whole p some legal =
    ∥∥₁_map legal (λ (k : KeepsTheRules whole). keeps_cut begin p.0 some (subst KeepsTheRules (sym p.1) k))

act_leads : (a : Act) (es : List Entry) → IsLegalFrom a es → (v : Version) × (replay_from a es ≡ Some v)
act_leads (Published venue) es l = (after_all _ es, refl)
act_leads (Closed it) es l = absurd l
act_leads (Reopened it) es l = absurd l

rules_lead : (h : List Entry) → KeepsTheRules h → (v : Version) × (replay h ≡ Some v)
rules_lead [] k = absurd k
rules_lead (e ∷ es) k = act_leads e.act es k.1

no_rules : (h : List Entry) → replay h ≡ None → KeepsTheRules h → ⊥
no_rules h none k = let led = rules_lead h k in absurd (cc (none, led.1))

led : (h : List Entry) (o : Option Version) → replay h ≡ o → IsLegal h → (v : Version) × Replays h v
led h None e legal = absurd (∥∥₁_elim legal ⊥_prop (no_rules h e))
led h (Some v) e legal = (v, record { leads = e; legal = legal })

-- a legal history leads to a version
pub legal_leads : (h : List Entry) → IsLegal h → (v : Version) × Replays h v
legal_leads h legal = led h (replay h) refl legal
