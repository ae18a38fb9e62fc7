-- A head of the grammar ends where the reading of lines says, and has a line for its start and for each field.
use Rattle.std.proofs.Common.{◌≡◌, ℕ, ◌+◌, ◌<◌, ◌≤◌, Bool, true, false, ◌==◌, List, [], ◌∷◌, ◌++◌, length, refl, sym, ap, ◌∙◌, arith, append_assoc, append-nil, length-append, Option, Some}
use Rattle.std.proofs.lemmas.List.Elements.{All-head, All-tail}
use Rattle.std.specs.Prelude.{All}
use Rattle.std.proofs.lemmas.Bool.{false≢true, ne_eqb}
use Rattle.std.specs.List.{flat_map}
use Rattle.httparse.specs.Grammar.{is_token_byte, is_uri_byte, is_value_byte, AllPass, LineEnd, crlf, lf, print_end, print_blank, print_version, Field, print_field, IsField, print_section, RequestHead, IsRequestHead, print_request}
use Rattle.httparse.proofs.PieceLemmas.{print_field-append}
use Rattle.httparse.proofs.GrammarLemmas.{print_request-append}
use Rattle.wire_frames.specs.declared.heads.Extent.{Extent}
use Rattle.wire_frames.specs.Heads.{front, line, fresh, extent_from, head_extent}

-- a byte that passes a test which that other fails isn't it
differs : (test : ℕ → Bool) (b stop : ℕ) → test stop ≡ false → test b ≡ true → (b == stop) ≡ false
differs test b stop fails passes = ne_eqb b stop (λ e. false≢true (sym fails ∙ ap test (sym e) ∙ passes))

abbrev pub extent_of : ℕ → ℕ → Option Extent
extent_of n k = Some (record { length = n; lines = k })

some_extent : {n m k j : ℕ} → n ≡ m → k ≡ j
    → extent_of n k ≡ extent_of m j
some_extent a b = λ i. extent_of (a i) (b i)

pub line_goes : (test : ℕ → Bool) (text rest : List ℕ) (n k m : ℕ) → test 10 ≡ false → AllPass test text
    → m ≡ n + length text → extent_from line n k (text ++ rest) ≡ extent_from line m k rest
line_goes test [] rest n k m stop all e = ap (λ (v : ℕ). extent_from line v k rest) (omega arith)
line_goes test (b ∷ text) rest n k m stop all e =
    let P : ℕ → Type 0 = λ v. test v ≡ true in
    let ne : (b == 10) ≡ false = differs test b 10 stop (All-head P b text all) in
    rw ne (line_goes test text rest (n + 1) k m stop (All-tail P b text all) (omega arith))

pub line_ends : (end : LineEnd) (rest : List ℕ) (n k m : ℕ) → m ≡ n + length (print_end end)
    → extent_from line n k (print_end end ++ rest) ≡ extent_from fresh m (k + 1) rest
line_ends crlf rest n k m e = ap (λ (v : ℕ). extent_from fresh v (k + 1) rest) (omega arith)
line_ends lf rest n k m e = ap (λ (v : ℕ). extent_from fresh v (k + 1) rest) (omega arith)

token_10 : is_token_byte 10 ≡ false
unfolding is_token_byte
token_10 = refl

token_13 : is_token_byte 13 ≡ false
unfolding is_token_byte
token_13 = refl

pub fresh_word : (word rest : List ℕ) (n k m : ℕ) → 0 < length word → AllPass is_token_byte word
    → m ≡ n + length word → extent_from fresh n k (word ++ rest) ≡ extent_from line m k rest
fresh_word [] rest n k m some all e = absurd (omega arith)
fresh_word (b ∷ word) rest n k m some all e =
    let P : ℕ → Type 0 = λ v. is_token_byte v ≡ true in
    let ne : (b == 10) ≡ false = differs is_token_byte b 10 token_10 (All-head P b word all) in
    let nr : (b == 13) ≡ false = differs is_token_byte b 13 token_13 (All-head P b word all) in
    rw (ne, nr) (line_goes is_token_byte word rest (n + 1) k m token_10 (All-tail P b word all) (omega arith))

pub front_word : (word rest : List ℕ) (n k m : ℕ) → 0 < length word → AllPass is_token_byte word
    → m ≡ n + length word → extent_from front n k (word ++ rest) ≡ extent_from line m k rest
front_word [] rest n k m some all e = absurd (omega arith)
front_word (b ∷ word) rest n k m some all e =
    let P : ℕ → Type 0 = λ v. is_token_byte v ≡ true in
    let ne : (b == 10) ≡ false = differs is_token_byte b 10 token_10 (All-head P b word all) in
    let nr : (b == 13) ≡ false = differs is_token_byte b 13 token_13 (All-head P b word all) in
    rw (ne, nr) (line_goes is_token_byte word rest (n + 1) k m token_10 (All-tail P b word all) (omega arith))

pub front_blank : (ends : List LineEnd) (rest : List ℕ) (n k m : ℕ) → m ≡ n + length (print_blank ends)
    → extent_from front n k (print_blank ends ++ rest) ≡ extent_from front m k rest
front_blank [] rest n k m e = ap (λ (v : ℕ). extent_from front v k rest) (omega arith)
front_blank (crlf ∷ ends) rest n k m e = front_blank ends rest (n + 1 + 1) k m (omega arith)
front_blank (lf ∷ ends) rest n k m e = front_blank ends rest (n + 1) k m (omega arith)

field_length : (a b c : List ℕ) → length (a ++ 58 ∷ b ++ c) ≡ length a + 1 + length b + length c
field_length a b c =
    let x = length-append (a ++ 58 ∷ b) c in
    let y = length-append a (58 ∷ b) in
    omega (arith, x, y)

regroup : (a b c r : List ℕ) → ((a ++ b) ++ c) ++ r ≡ a ++ ((b ++ c) ++ r)
regroup a b c r = simp append_assoc

-- a field line, from the start of a line to the start of the next
pub fresh_field : (f : Field) (rest : List ℕ) (n k m : ℕ) → IsField f → m ≡ n + length (print_field f)
    → extent_from fresh n k (print_field f ++ rest) ≡ extent_from fresh m (k + 1) rest
fresh_field f rest n k m is e =
    let size : length (print_field f) ≡ length f.name + 1 + length f.raw + length (print_end f.end)
    = field_length f.name f.raw (print_end f.end) in
    let word = fresh_word f.name (58 ∷ (f.raw ++ (print_end f.end ++ rest))) n k (n + length f.name) is.name.0 is.name.1 refl in
    let value = line_goes is_value_byte f.raw (print_end f.end ++ rest) (n + length f.name + 1) k
    (n + length f.name + 1 + length f.raw) refl is.raw refl in
    let end = line_ends f.end rest (n + length f.name + 1 + length f.raw) k m (omega (arith, size)) in
    rw (print_field-append f rest) (word ∙ value ∙ end)

pub fresh_section : (fields : List Field) (last : LineEnd) (rest : List ℕ) (n k m j : ℕ) → All IsField fields
    → m ≡ n + length (print_section fields last) → j ≡ k + length fields
    → extent_from fresh n k (print_section fields last ++ rest) ≡ Some (record { length = m; lines = j })
fresh_section [] crlf rest n k m j all e lines = some_extent (omega arith) (omega arith)
fresh_section [] lf rest n k m j all e lines = some_extent (omega arith) (omega arith)
fresh_section (f ∷ fields) last rest n k m j all e lines =
    let a = length-append (print_field f) (flat_map print_field fields) in
    let b = length-append (print_field f ++ flat_map print_field fields) (print_end last) in
    let c = length-append (flat_map print_field fields) (print_end last) in
    let group : print_section (f ∷ fields) last ++ rest ≡ print_field f ++ (print_section fields last ++ rest)
    = regroup (print_field f) (flat_map print_field fields) (print_end last) rest in
    let first = fresh_field f (print_section fields last ++ rest) n k (n + length (print_field f)) (All-head IsField f fields all) refl in
    let more = fresh_section fields last rest (n + length (print_field f)) (k + 1) m j (All-tail IsField f fields all)
    (omega (arith, a, b, c)) (omega arith) in
    rw group (first ∙ more)

-- the name and the number of a version
version_goes : (minor : ℕ) (rest : List ℕ) (n k m : ℕ) → minor ≤ 1 → m ≡ n + 8
    → extent_from line n k (print_version minor ++ rest) ≡ extent_from line m k rest
version_goes minor rest n k m le e =
    let ne : (48 + minor == 10) ≡ false = ne_eqb (48 + minor) 10 (λ x. absurd (omega arith)) in
    rw ne (ap (λ (v : ℕ). extent_from line v k rest) (omega arith))

request_length : (h : RequestHead) → length (print_request h)
    ≡ length (print_blank h.blank) + length h.method + 1 + length h.target + 1 + 8 + length (print_end h.line_end)
    + length (print_section h.fields h.last)
request_length h =
    let a = length-append (print_blank h.blank) (h.method ++ 32 ∷ (h.target ++ 32 ∷ (print_version h.minor ++ (print_end h.line_end ++ (print_section h.fields h.last ++ []))))) in
    let b = length-append h.method (32 ∷ (h.target ++ 32 ∷ (print_version h.minor ++ (print_end h.line_end ++ (print_section h.fields h.last ++ []))))) in
    let c = length-append h.target (32 ∷ (print_version h.minor ++ (print_end h.line_end ++ (print_section h.fields h.last ++ [])))) in
    let d = length-append (print_end h.line_end) (print_section h.fields h.last ++ []) in
    let e = ap (λ (t : List ℕ). length t) (append-nil (print_section h.fields h.last)) in
    let f = ap (λ (t : List ℕ). length t) (sym (append-nil (print_request h)) ∙ print_request-append h []) in
    omega (arith, a, b, c, d, e, f)

-- the head of the grammar at the front ends there
pub request_extent : (h : RequestHead) (rest : List ℕ) → IsRequestHead h
    → head_extent (print_request h ++ rest) ≡ Some (record { length = length (print_request h); lines = length h.fields + 1 })
request_extent h rest is =
    let section = print_section h.fields h.last in
    let end = print_end h.line_end in
    let version = print_version h.minor in
    let at_version = version ++ (end ++ (section ++ rest)) in
    let at_target = h.target ++ 32 ∷ at_version in
    let blank = length (print_blank h.blank) in
    let n1 = blank + length h.method in
    let n2 = n1 + 1 + length h.target in
    let n3 = n2 + 1 + 8 in
    let n4 = n3 + length end in
    let size : length (print_request h) ≡ n4 + length section = request_length h in
    rw (print_request-append h rest) (
    front_blank h.blank (h.method ++ 32 ∷ at_target) 0 0 blank (omega arith)
    ∙ front_word h.method (32 ∷ at_target) blank 0 n1 is.method.0 is.method.1 refl
    ∙ line_goes is_uri_byte h.target (32 ∷ at_version) (n1 + 1) 0 n2 refl is.target.1 refl
    ∙ version_goes h.minor (end ++ (section ++ rest)) (n2 + 1) 0 n3 is.minor refl
    ∙ line_ends h.line_end (section ++ rest) n3 0 n4 refl
    ∙ fresh_section h.fields h.last rest n4 (0 + 1) (length (print_request h)) (length h.fields + 1) is.fields size (omega arith)
    )
