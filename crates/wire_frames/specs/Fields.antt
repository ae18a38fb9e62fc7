-- What the fields of a head say of the message's frame (RFC 9112, sections 3.2, 6.1, 6.2 and 9.3; RFC 9110, section 5.6.1).
use Rattle.std.specs.Prelude.{◌≡◌, ℕ, ◌<◌, Bool, ◌&&◌, ◌||◌, List, [], ◌∷◌, length, map, codes, if◌then◌else◌, ◌==◌, nat_lt, nat_le, Option, Some, None, bytes_eq}
use Rattle.std.specs.Char.{is_ascii_digit}
use Rattle.std.specs.List.{list_all}
use Rattle.std.specs.Str.Parse.{digits_value}
use Rattle.httparse.specs.Grammar.{RequestHead}
use Rattle.httparse.specs.Spans.{name_and_value}
use Rattle.http1.specs.Fields.{values_named, elements_named, has_option}

-- the names and the values of a head's fields, in order, without the white space around the values
abbrev pub fields_of : RequestHead → List (List ℕ × List ℕ)
fields_of h = map name_and_value h.fields

-- 1 to 19 digits as a number
abbrev pub read_length : List ℕ → Option ℕ
read_length value =
    if nat_lt 0 (length value) && (nat_le (length value) 19 && list_all is_ascii_digit value)
    then Some (digits_value 10 value) else None

-- the length that these values give: 0 where there is no value, none where there are two or one that is no number
abbrev pub one_length : List (List ℕ) → Option ℕ
one_length [] = Some 0
one_length (value ∷ []) = read_length value
one_length (value ∷ other ∷ values) = None

-- the length of the body, by the `content-length` fields
abbrev pub body_length : List (List ℕ × List ℕ) → Option ℕ
body_length fields = one_length (values_named (codes "content-length") fields)

-- there is exactly one `host`
abbrev pub HasOneHost : RequestHead → Type 0
HasOneHost h = length (values_named (codes "host") (fields_of h)) ≡ 1

-- there is a `transfer-encoding`
abbrev pub HasCoding : RequestHead → Type 0
HasCoding h = 0 < length (values_named (codes "transfer-encoding") (fields_of h))

-- an element of some `connection` field is `close`, in any case; empty elements count for nothing
abbrev pub lists_close : List (List ℕ × List ℕ) → Bool
lists_close fields = has_option (codes "close") (elements_named (codes "connection") fields)

-- the method is HEAD, whose answer has no body (RFC 9110, section 9.3.2)
abbrev pub is_head : List ℕ → Bool
is_head method = bytes_eq method (codes "HEAD")

-- no message may follow: version 1.0, HEAD, or `close`
abbrev pub closes : RequestHead → Bool
closes h = (h.minor == 0) || (is_head h.method || lists_close (fields_of h))
