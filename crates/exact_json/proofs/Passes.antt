-- Passing over the text of a string: a run of plain bytes, and then a quote, an escape or a fault.
use Rattle.std.proofs.Common.{◌≡◌, ◌≢◌, ℕ, ◌∙◌, List, [], drop, Option, Some, None, refl, sym, ap}
use Rattle.std.specs.List.{prefix_len}
use Rattle.exact_json.specs.Number.{head}
use Rattle.exact_json.specs.StringReading.{text_at, is_plain, prepend, escape}
use Rattle.exact_json.specs.Scanning.{rest_of}
use Rattle.exact_json.proofs.Texts.{whole_run, quoted, stopped, text_at-escape, text_at-no_escape}

pub rest_prepend : (s : List ℕ) (r : Option (List ℕ × List ℕ)) → rest_of (prepend s r) ≡ rest_of r
rest_prepend s None = refl
rest_prepend s (Some p) = refl

pub past_run : (b s : List ℕ) (n : ℕ) → n ≡ prefix_len is_plain b → s ≡ drop n b → rest_of (text_at 0 b) ≡ rest_of (text_at 0 s)
past_run b s n count at = ap (λ o. rest_of o) (whole_run b n s count at) ∙ rest_prepend _ (text_at 0 s)

pub past_quote : (s rest : List ℕ) → head s ≡ 34 → rest ≡ drop 1 s → rest_of (text_at 0 s) ≡ Some rest
past_quote s rest h at = sym (rest_prepend [] (text_at 0 s)) ∙ ap (λ o. rest_of o) (quoted s [] rest h at)

pub past_stop : (b s : List ℕ) (n : ℕ) → n ≡ prefix_len is_plain b → s ≡ drop n b → head s ≢ 34 → head s ≢ 92 → rest_of (text_at 0 s) ≡ None
past_stop b s n count at nq nb = sym (rest_prepend [] (text_at 0 s)) ∙ ap (λ o. rest_of o) (stopped b n s [] count at nq nb)

pub past_escape : (s code rest : List ℕ) (e : ℕ × ℕ) → head s ≡ 92 → code ≡ drop 1 s → escape code ≡ Some e → rest ≡ drop e.1 code → rest_of (text_at 0 s) ≡ rest_of (text_at 0 rest)
past_escape s code rest e h at is left =
    ap (λ o. rest_of o) (text_at-escape s e h (ap escape (sym at) ∙ is)) ∙ rest_prepend _ _ ∙ ap (λ z. rest_of (text_at 0 (drop e.1 z))) (sym at) ∙ ap (λ z. rest_of (text_at 0 z)) (sym left)

pub past_no_escape : (s code : List ℕ) → head s ≡ 92 → code ≡ drop 1 s → escape code ≡ None → rest_of (text_at 0 s) ≡ None
past_no_escape s code h at is = ap (λ o. rest_of o) (text_at-no_escape s h (ap escape (sym at) ∙ is))
