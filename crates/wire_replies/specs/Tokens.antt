-- A body as tokens of JSON, for private clauses.
use Rattle.std.specs.Prelude.{◌≡◌, ℕ, List, ◌∷◌, ◌++◌, [], Option, Some, None, String, string_bytes}
use Rattle.json.specs.Token.{Token}
use Rattle.json.specs.Tree.{json_tokens}
use Rattle.json.specs.Written as json
use Rattle.std.specs.declared.alloc.Global.{Global}
use Rattle.serde_json.specs.Data.{Data, string, Members, no_members, member}
use Rattle.serde_json.specs.Written.{outline}

-- the tokens of a value
abbrev pub data_tokens : Data → List Token
data_tokens value = json_tokens (outline value)

-- the tokens of a member, where there is a value for it
abbrev pub where_there_tokens : List ℕ → Option Data → List Token
where_there_tokens name None = []
where_there_tokens name (Some value) = Token.key name ∷ data_tokens value

-- a writer has written these tokens behind the earlier ones
pub record Adds (tokens : List Token) (old now : json.Written) : Type 0 where
  pub before : now.before ≡ old.before
  pub adds : now.tokens ≡ old.tokens ++ tokens

-- the members of texts by their tags
abbrev pub text_members : List (String Global × String Global) → Members
text_members [] = no_members
text_members (entry ∷ entries) = member (string_bytes entry.0) (string (string_bytes entry.1)) (text_members entries)

-- the tokens of a text by its tag
abbrev pub text_tokens : String Global × String Global → List Token
text_tokens entry = Token.key (string_bytes entry.0) ∷ Token.string (string_bytes entry.1) ∷ []
