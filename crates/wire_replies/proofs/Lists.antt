-- The tokens of lists and of members that may be absent.
use Rattle.std.proofs.Common.{◌≡◌, ◌∙◌, ℕ, List, [], ◌∷◌, ◌++◌, Option, Some, None, map, flat_map, refl, ap, sym, append_assoc}
use Rattle.json.specs.Token.{Token}
use Rattle.json.specs.Print.{print}
use Rattle.json.specs.Written.{Written}
use Rattle.json.specs.Tree.{items_tokens, members_tokens}
use Rattle.serde_json.specs.Data.{Data, Members}
use Rattle.serde_json.specs.View.{items_of}
use Rattle.serde_json.specs.Written.{items_outline, members_outline}
use Rattle.wire_replies.specs.Bodies.{where_there}
use Rattle.wire_replies.specs.Tokens.{Adds, data_tokens, where_there_tokens}

-- the items' tokens one behind the other, and the end of the list
pub items_list : {A : Type 0} (f : A → Data) (xs : List A) → items_tokens (items_outline (items_of (map f xs))) ≡ flat_map (λ x. data_tokens (f x)) xs ++ Token.end_array ∷ []
items_list f [] = refl
items_list f (x ∷ xs) = ap (λ ts. data_tokens (f x) ++ ts) (items_list f xs) ∙ sym (append_assoc (data_tokens (f x)) _ _)

-- a member that may be absent, in front of others
pub where_there_front : (name : List ℕ) (value : Option Data) (others : Members)
    → members_tokens (members_outline (where_there name value others)) ≡ where_there_tokens name value ++ members_tokens (members_outline others)
where_there_front name None others = refl
where_there_front name (Some value) others = refl

-- what is written in two steps
pub after : {a b : List Token} {old now last : Written} → Adds a old now → Adds b now last → Adds (a ++ b) old last
after {a = a} {b = b} {old = old} first second = record {
  before = second.before ∙ first.before;
  adds = second.adds ∙ ap (λ (ts : List Token). ts ++ b) first.adds ∙ append_assoc old.tokens a b;
}

-- what stands in a writer that began with nothing
pub whole : {ts : List Token} {old now : Written} → old.tokens ≡ [] → old.before ≡ [] → Adds ts old now → now.before ++ print now.tokens ≡ print ts
whole {ts = ts} {now = now} none first w =
    ap (λ (b : List ℕ). b ++ print now.tokens) (w.before ∙ first) ∙ ap print (w.adds ∙ ap (λ (old : List Token). old ++ ts) none)
