-- Lists that begin others: what is added stands behind what was there.
use Rattle.std.proofs.Common.{◌≡◌, List, [], ◌++◌, Result, Ok, Err, OnOk, OnErr, ap, sym, ◌∙◌, append_assoc}
use Rattle.std.proofs.lemmas.List.{append-nil}
use mathlib.Core.List.{IsPrefix}

pub begins_same : {A : Type 0} (old new : List A) → new ≡ old → IsPrefix old new
begins_same old new same = ([], append-nil old ∙ sym same)

pub begins_more : {A : Type 0} (old more new : List A) → new ≡ old ++ more → IsPrefix old new
begins_more old more new added = (more, sym added)

-- it was put at the end, or memory ran out and nothing was
pub begins_either : {A T E : Type 0} (result : Result T E) (old more new : List A) → OnOk result (new ≡ old ++ more) → OnErr result (new ≡ old) → IsPrefix old new
begins_either (Ok done) old more new ok err = begins_more old more new ok
begins_either (Err e) old more new ok err = begins_same old new err

pub begins_then : {A : Type 0} (first second third : List A) → IsPrefix first second → IsPrefix second third → IsPrefix first third
begins_then first second third one other = (one.0 ++ other.0, sym (append_assoc first one.0 other.0) ∙ ap (λ front. front ++ other.0) one.1 ∙ other.1)

-- step by step, each behind what the ones before left
pub ruleset beginnings = (begins_same, begins_more, begins_either, begins_then)
