-- A sort whose equal items are taken once lists what was there.
use Rattle.std.proofs.Common.{◌≡◌, List, [], Bool, true}
use Rattle.std.specs.Prelude.{Contains, IsPermutation}
use Rattle.std.specs.declared.cmp.Ordering.{Ordering}
use Rattle.std.specs.Ordering.{eq_by_cmp}
use Rattle.std.specs.Cmp.{IsTotalOrder, IsEquivalence}
use Rattle.std.specs.List.Sorted.{IsSorted}
use Rattle.std.specs.List.Retain.{IsFiltered, DiffersFromLast}
use Rattle.std.proofs.lemmas.List.Filters.{dedup_is}
use Rattle.std.proofs.lemmas.List.Kept.{IsStrictlySortedBy-dedup, Contains-dedup, Contains-from_dedup}
use Rattle.std.proofs.lemmas.List.Sorted.{Contains-permutation, IsPermutation-sym}
use Rattle.venue_types.specs.declared.finding.Finding.{Finding}
use Rattle.venue_types.specs.declared.finding.Note.{Note}
use Rattle.rule_reports.specs.Order.{finding_cmp, note_cmp}
use Rattle.rule_reports.specs.Reports.{Lists, IsReport, IsNoteList}
use Rattle.rule_reports.proofs.Orders.{same_finding, findings_total, findings_tied, findings_exact, findings_equal, same_note, notes_total, notes_tied, notes_exact, notes_equal}

listed : {X : Type 0} {cmp : X → X → Ordering} → IsTotalOrder cmp → {same : X → X → Bool} → ((x y : X) → same x y ≡ eq_by_cmp cmp x y)
    → ((x y : X) → same x y ≡ true → x ≡ y) → IsEquivalence same
    → (gathered sorted once : List X) → IsPermutation gathered sorted → IsSorted cmp sorted → IsFiltered (DiffersFromLast same) [] sorted once
    → Lists cmp (Contains gathered) once
listed total {same} tied exact equal gathered sorted once moved rises filtered =
    let is = dedup_is same sorted once filtered in
    record {
      rises = rw is (IsStrictlySortedBy-dedup total tied sorted rises);
      only = λ x h. Contains-permutation sorted gathered x (IsPermutation-sym gathered sorted moved) (Contains-from_dedup same sorted x (rw is at h));
      whole = λ x h. rw is (Contains-dedup equal exact sorted x (Contains-permutation gathered sorted x moved h));
    }

pub findings_listed : (gathered sorted once made : List Finding) → made ≡ once → IsFiltered (DiffersFromLast same_finding) [] sorted once → IsSorted finding_cmp sorted → IsPermutation gathered sorted
    → IsReport (Contains gathered) made
findings_listed gathered sorted once made is filtered rises moved = rw is (listed findings_total findings_tied findings_exact findings_equal gathered sorted once moved rises filtered)

pub notes_listed : (gathered sorted once made : List Note) → made ≡ once → IsFiltered (DiffersFromLast same_note) [] sorted once → IsSorted note_cmp sorted → IsPermutation gathered sorted
    → IsNoteList (Contains gathered) made
notes_listed gathered sorted once made is filtered rises moved = rw is (listed notes_total notes_tied notes_exact notes_equal gathered sorted once moved rises filtered)
