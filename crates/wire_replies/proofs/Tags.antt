-- Texts by their tags, as members.
use Rattle.std.proofs.Common.{◌≡◌, ◌∙◌, List, [], ◌∷◌, ◌++◌, Ordering, Less, Equal, Greater, refl, ap, string_bytes, flat_map}
use Rattle.std.specs.Prelude.{String}
use Rattle.std.specs.Global.{Global}
use Rattle.std.specs.Ordering.{match_ordering}
use Rattle.std.specs.BTreeMap.{insert_entry}
use Rattle.std.specs.String.{string_cmp}
use Rattle.json.specs.Token.{Token}
use Rattle.json.specs.Tree.{members_tokens}
use Rattle.serde_json.specs.Data.{string, put}
use Rattle.serde_json.specs.Written.{members_outline}
use Rattle.wire_replies.specs.Tokens.{text_members, text_tokens}

chosen : (o : Ordering) (a b c : List (String Global × String Global)) → text_members (match_ordering o a b c) ≡ match_ordering o (text_members a) (text_members b) (text_members c)
chosen Less a b c = refl
chosen Equal a b c = refl
chosen Greater a b c = refl

-- an entry that is put in is a member that is put in
pub texts_put : (es : List (String Global × String Global)) (k v : String Global) → text_members (insert_entry string_cmp es k v) ≡ put (string_bytes k) (string (string_bytes v)) (text_members es)
texts_put [] k v = refl
texts_put (e ∷ es) k v = chosen (string_cmp k e.0) _ _ _ ∙ rw (texts_put es k v) refl

-- the members' tokens one behind the other, and the end of the object
pub texts_list : (es : List (String Global × String Global)) → members_tokens (members_outline (text_members es)) ≡ flat_map text_tokens es ++ Token.end_object ∷ []
texts_list [] = refl
texts_list (e ∷ es) = ap (λ ts. Token.key (string_bytes e.0) ∷ Token.string (string_bytes e.1) ∷ ts) (texts_list es)
