-- The code's own way, and no promise: brackets.
use Rattle.std.specs.Prelude.{◌≡◌, ◌≢◌, ℕ, Option, Some, None}
use Rattle.exact_json.specs.declared.kinds.Kind.{Kind}
use Rattle.exact_json.specs.declared.kinds.Kind.TheVariants.{List as of_list, Object as of_object}

-- the bytes `[` and `{`
abbrev pub opening : Kind → ℕ
opening of_list = 91
opening of_object = 123

-- the bytes `]` and `}`
abbrev pub closing : Kind → ℕ
closing of_list = 93
closing of_object = 125

-- the kind of bracket that the byte opens, if it opens one
abbrev pub KindAt : ℕ → Option Kind → Type 0
KindAt c (Some k) = c ≡ opening k
KindAt c None = (c ≢ 91) × (c ≢ 123)
