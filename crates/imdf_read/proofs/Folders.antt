-- The files of a folder, put together from one after the other.
use Rattle.std.proofs.Common.{◌≡◌, ◌≢◌, ◌∙◌, ℕ, ◌+◌, ◌-◌, ◌^◌, ◌<◌, ◌≤◌, zero, suc, min, List, [], ◌∷◌, ◌++◌, Option, Some, length, take, drop, refl, sym, ap, subst, arith, ◌⊎◌, inl, inr}
use Rattle.std.specs.Prelude.{Contains, slice_get, sum_by}
use Rattle.std.specs.List.{AllZip}
use Rattle.std.proofs.lemmas.Bool.{cases_lt}
use Rattle.std.proofs.lemmas.List.{length-take-le}
use Rattle.std.proofs.lemmas.Slice.Zip.{AllZip-long}
use Rattle.std.proofs.lemmas.Option.{slice_get_within}
use Rattle.exact_json.specs.Json.{Json}
use Rattle.venue_types.specs.declared.files.Slot.{Slot}
use Rattle.venue_types.specs.declared.finding.Finding.{Finding}
use Rattle.venue_types.specs.declared.finding.Note.{Note}
use Rattle.venue_types.specs.declared.folder_file.File.{File}
use Rattle.venue_types.specs.declared.folder_file.File.TheVariants as file
use Rattle.venue_types.specs.FolderFiles.{file_number, feature_files}
use Rattle.imdf_schema.specs.Contents.{IsContent, content_items}
use Rattle.imdf_read.specs.declared.items.Taken.{Taken}
use Rattle.imdf_read.specs.declared.progress.Progress.{Progress}
use Rattle.imdf_read.specs.Counts.{collected, file_positions, total_positions}
use Rattle.rule_reports.specs.Passes.{Adds}
use Rattle.imdf_read.specs.Gathering.{FindsInSlot, FindsInFile, NotesInFile}
use Rattle.imdf_read.specs.Progress.{FindsAt, FoundUpTo, NotedUpTo, CountsUpTo, IsUpTo, HasRows}
use Rattle.imdf_read.specs.Taking.{Takes}
use Rattle.std.proofs.lemmas.Slice.Zip.{all_zipped_more}
use Rattle.venue_types.proofs.FileNumbers.{same_number, feature_at}
use Rattle.imdf_read.proofs.ItemLists.{sum_push}

take_at : {X : Type 0} (xs : List X) (n : ℕ) (x : X) → slice_get xs n ≡ Some x → take (suc n) xs ≡ take n xs ++ x ∷ []
take_at [] n x e = cc
take_at (y ∷ ys) zero x e = let same : y ≡ x = cc in ap (λ z. z ∷ []) same
take_at (y ∷ ys) (suc n) x e = ap (λ zs. y ∷ zs) (take_at ys n x e)

-- the slot of a feature file among those behind the manifest's
slot_behind : (slots : List Slot) (n : ℕ) (slot : Slot) → slice_get slots (suc n) ≡ Some slot → slice_get (drop 1 slots) n ≡ Some slot
slot_behind [] n slot e = cc
slot_behind (s ∷ ss) n slot e = e

zip_split : {A B : Type 0} (R : A → B → Type 0) (xs : List A) (x : A) (zs : List B) → AllZip R (xs ++ x ∷ []) zs → (ys : List B) × (y : B) × (zs ≡ ys ++ y ∷ []) × AllZip R xs ys × R x y
zip_split R [] x [] zip = absurd zip
zip_split R [] x (z ∷ []) zip = ([], z, refl, tt, zip.0)
zip_split R [] x (z ∷ w ∷ zs) zip = absurd zip.1
zip_split R (a ∷ xs) x [] zip = absurd zip
zip_split R (a ∷ xs) x (z ∷ zs) zip =
    let rest = zip_split R xs x zs zip.1 in
    (z ∷ rest.0, rest.1, ap (λ ys. z ∷ ys) rest.2, (zip.0, rest.3), rest.4)

sum_assoc : (a b c : ℕ) → a + (b + c) ≡ a + b + c
sum_assoc a b c = omega arith

total_push : (fs : List File) (cs : List (Option Json)) (f : File) (c : Option Json) → length cs ≡ length fs → total_positions (fs ++ f ∷ []) (cs ++ c ∷ []) ≡ total_positions fs cs + file_positions f c
total_push [] [] f c e = omega arith
total_push [] (d ∷ cs) f c e = absurd (omega arith)
total_push (g ∷ fs) [] f c e = absurd (omega arith)
total_push (g ∷ fs) (d ∷ cs) f c e =
    let rest : total_positions (fs ++ f ∷ []) (cs ++ c ∷ []) ≡ total_positions fs cs + file_positions f c = total_push fs cs f c (omega arith) in
    ap (λ (n : ℕ). file_positions g d + n) rest ∙ sum_assoc (file_positions g d) (total_positions fs cs) (file_positions f c)

more : (a b all old one new : ℕ) → all ≡ a + b → old ≡ min a (2 ^ 64 - 1) → one ≡ min b (2 ^ 64 - 1) → new ≡ min (old + one) (2 ^ 64 - 1) → new ≡ min all (2 ^ 64 - 1)
more a b all old one new is before here after = omega arith

more_exact : (a b all old new : ℕ) → all ≡ a + b → old ≡ min a (2 ^ 64 - 1) → new ≡ min (old + b) (2 ^ 64 - 1) → new ≡ min all (2 ^ 64 - 1)
more_exact a b all old new is before after = omega arith

-- the counts of one file more
counts_step : {Row : Type 0} (IsRow : Json → Row → Type 0) (slots : List Slot) (n : ℕ) (f : File) (slot : Slot) (taken : Taken Row) (items positions new_items new_positions : ℕ)
    → length slots ≡ 17 → f ≢ file.Manifest → n + 1 ≡ file_number f → slice_get slots (file_number f) ≡ Some slot → Takes IsRow f slot taken
    → new_items ≡ min (items + taken.items) (2 ^ 64 - 1) → new_positions ≡ min (positions + taken.positions) (2 ^ 64 - 1)
    → CountsUpTo slots n items positions → CountsUpTo slots (n + 1) new_items new_positions
counts_step IsRow slots n f slot taken items positions new_items new_positions count features number there takes items_are positions_are counts =
    let next : n + 1 ≡ suc n = omega arith in
    let at : slice_get (drop 1 slots) n ≡ Some slot = slot_behind slots n slot (subst (λ (k : ℕ). slice_get slots k ≡ Some slot) (sym number ∙ next) there) in
    let slots_more : take (n + 1) (drop 1 slots) ≡ take n (drop 1 slots) ++ slot ∷ [] = ap (λ (k : ℕ). take k (drop 1 slots)) next ∙ take_at (drop 1 slots) n slot at in
    let files_at : slice_get feature_files n ≡ Some f = feature_at f n number in
    let files_more : take (n + 1) feature_files ≡ take n feature_files ++ f ∷ [] = ap (λ (k : ℕ). take k feature_files) next ∙ take_at feature_files n f files_at in
    let slots_under : n < length (drop 1 slots) = slice_get_within (drop 1 slots) n slot at in
    let files_under : n < length feature_files = slice_get_within feature_files n f files_at in
    let long : length counts.contents ≡ length (take n feature_files) =
    AllZip-long IsContent (take n (drop 1 slots)) counts.contents counts.zip ∙ length-take-le n (drop 1 slots) (omega arith) ∙ sym (length-take-le n feature_files (omega arith)) in
    record {
      contents = counts.contents ++ takes.content ∷ [];
      zip = subst (λ (ss : List Slot). AllZip IsContent ss (counts.contents ++ takes.content ∷ [])) (sym slots_more) (all_zipped_more IsContent (take n (drop 1 slots)) counts.contents slot takes.content counts.zip takes.held);
      only = λ other zip.
          let parts = zip_split IsContent (take n (drop 1 slots)) slot other (subst (λ (ss : List Slot). AllZip IsContent ss other) slots_more zip) in
          parts.2 ∙ ap (λ (cs : List (Option Json)). cs ++ parts.1 ∷ []) (counts.only parts.0 parts.3) ∙ ap (λ (c : Option Json). counts.contents ++ c ∷ []) (takes.only parts.1 parts.4);
      items_are = more_exact (sum_by collected counts.contents) (collected takes.content) (sum_by collected (counts.contents ++ takes.content ∷ [])) items new_items
          (sum_push collected counts.contents takes.content) counts.items_are (items_are ∙ ap (λ (k : ℕ). min (items + k) (2 ^ 64 - 1)) takes.items);
      positions_are = more (total_positions (take n feature_files) counts.contents) (file_positions f takes.content) (total_positions (take (n + 1) feature_files) (counts.contents ++ takes.content ∷ [])) positions taken.positions new_positions
          (ap (λ (fs : List File). total_positions fs (counts.contents ++ takes.content ∷ [])) files_more ∙ total_push (take n feature_files) counts.contents f takes.content long)
          counts.positions_are takes.positions positions_are;
    }

some_slot : (a b : Slot) (o : Option Slot) → o ≡ Some a → o ≡ Some b → a ≡ b
some_slot a b o p q = cc

-- a place up to a file is up to the one before, or in the file
found_split : (slots : List Slot) (n : ℕ) (f : File) (slot : Slot) → n + 1 ≡ file_number f → slice_get slots (file_number f) ≡ Some slot → (x : Finding) → FoundUpTo slots (n + 1) x → FoundUpTo slots n x ⊎ FindsAt f slot x
found_split slots n f slot number there x h = elim (cases_lt n (file_number h.source)) [
  | inl above ↦
      let same : file_number h.source ≡ file_number f = omega (arith, h.under) in
      let source : h.source ≡ f = same_number h.source f same in
      let held : h.slot ≡ slot = some_slot h.slot slot (slice_get slots (file_number f)) (subst (λ (k : ℕ). slice_get slots k ≡ Some h.slot) same h.there) there in
      inr (subst (λ (s : Slot). FindsAt f s x) held (subst (λ (g : File). FindsAt g h.slot x) source h.finds))
  | inr under ↦ inl (record { source = h.source; under = under; slot = h.slot; there = h.there; finds = h.finds })
]

noted_split : (slots : List Slot) (n : ℕ) (f : File) (slot : Slot) → n + 1 ≡ file_number f → slice_get slots (file_number f) ≡ Some slot → (x : Note) → NotedUpTo slots (n + 1) x → NotedUpTo slots n x ⊎ NotesInFile f slot x
noted_split slots n f slot number there x h = elim (cases_lt n (file_number h.source)) [
  | inl above ↦
      let same : file_number h.source ≡ file_number f = omega (arith, h.under) in
      let source : h.source ≡ f = same_number h.source f same in
      let held : h.slot ≡ slot = some_slot h.slot slot (slice_get slots (file_number f)) (subst (λ (k : ℕ). slice_get slots k ≡ Some h.slot) same h.there) there in
      inr (subst (λ (s : Slot). NotesInFile f s x) held (subst (λ (g : File). NotesInFile g h.slot x) source h.notes))
  | inr under ↦ inl (record { source = h.source; features = h.features; under = under; slot = h.slot; there = h.there; notes = h.notes })
]

finds_in_file : (f : File) (slot : Slot) (x : Finding) → FindsAt f slot x → FindsInFile f slot x
finds_in_file f slot x (inl whole) = inl whole
finds_in_file f slot x (inr item) = inr item.1

pub finds_at : (f : File) (slot : Slot) (x : Finding) → f ≢ file.Manifest → FindsInFile f slot x → FindsAt f slot x
finds_at f slot x features (inl whole) = inl whole
finds_at f slot x features (inr item) = inr (features, item)

-- one file more
pub step : {Row : Type 0} (IsRow : Json → Row → Type 0) (slots : List Slot) (n : ℕ) (f : File) (slot : Slot) (taken : Taken Row) (old new : Progress)
    → length slots ≡ 17 → f ≢ file.Manifest → n + 1 ≡ file_number f → slice_get slots (file_number f) ≡ Some slot
    → Adds (FindsInFile f slot) old.gathered.findings.items new.gathered.findings.items
    → Adds (NotesInFile f slot) old.gathered.notes.items new.gathered.notes.items
    → Takes IsRow f slot taken
    → new.items ≡ min (old.items + taken.items) (2 ^ 64 - 1) → new.positions ≡ min (old.positions + taken.positions) (2 ^ 64 - 1)
    → IsUpTo slots n old → IsUpTo slots (n + 1) new
step IsRow slots n f slot taken old new count features number there findings notes takes items positions before = record {
  findings_only = λ x h. elim (findings.only x h) [
    | inl was ↦ let b = before.findings_only x was in record { source = b.source; under = omega (arith, b.under); slot = b.slot; there = b.there; finds = b.finds }
    | inr here ↦ record { source = f; under = omega arith; slot = slot; there = there; finds = finds_at f slot x features here }
  ];
  findings_whole = λ x h. elim (found_split slots n f slot number there x h) [
    | inl b ↦ findings.kept x (before.findings_whole x b)
    | inr here ↦ findings.whole x (finds_in_file f slot x here)
  ];
  notes_only = λ x h. elim (notes.only x h) [
    | inl was ↦ let b = before.notes_only x was in record { source = b.source; features = b.features; under = omega (arith, b.under); slot = b.slot; there = b.there; notes = b.notes }
    | inr here ↦ record { source = f; features = features; under = omega arith; slot = slot; there = there; notes = here }
  ];
  notes_whole = λ x h. elim (noted_split slots n f slot number there x h) [
    | inl b ↦ notes.kept x (before.notes_whole x b)
    | inr here ↦ notes.whole x here
  ];
  counts = counts_step IsRow slots n f slot taken old.items old.positions new.items new.positions count features number there takes items positions before.counts;
}

none_of_nil : {X : Type 0} (x : X) → Contains [] x → ⊥
none_of_nil x h = omega (arith, h.1)

-- the manifest is the first
zero_is : (f : File) → file_number f ≤ 0 → f ≡ file.Manifest
zero_is f under = same_number f file.Manifest (omega arith)

nil_only : (other : List (Option Json)) → AllZip IsContent [] other → other ≡ []
nil_only [] zip = refl
nil_only (c ∷ cs) zip = absurd zip

pub started : (slots : List Slot) (slot : Slot) (findings : List Finding) (p : Progress) → slice_get slots 0 ≡ Some slot → Adds (FindsInSlot file.Manifest slot) [] findings
    → p.gathered.findings.items ≡ findings → p.gathered.notes.items ≡ [] → p.items ≡ 0 → p.positions ≡ 0 → IsUpTo slots 0 p
started slots slot findings p there adds findings_are notes_are items positions = record {
  findings_only = λ x h. elim (adds.only x (subst (λ (xs : List Finding). Contains xs x) findings_are h)) [
    | inl was ↦ absurd (none_of_nil x was)
    | inr here ↦ record { source = file.Manifest; under = omega arith; slot = slot; there = there; finds = inl here }
  ];
  findings_whole = λ x h.
      let source : h.source ≡ file.Manifest = zero_is h.source h.under in
      let at : slice_get slots 0 ≡ Some h.slot = subst (λ (g : File). slice_get slots (file_number g) ≡ Some h.slot) source h.there in
      let held : h.slot ≡ slot = some_slot h.slot slot (slice_get slots 0) at there in
      subst (λ (xs : List Finding). Contains xs x) (sym findings_are) (adds.whole x (elim (subst (λ (s : Slot). FindsAt file.Manifest s x) held (subst (λ (g : File). FindsAt g h.slot x) source h.finds)) [
        | inl whole ↦ whole
        | inr item ↦ absurd (item.0 refl)
      ]));
  notes_only = λ x h. absurd (none_of_nil x (subst (λ (xs : List Note). Contains xs x) notes_are h));
  notes_whole = λ x h. absurd (h.features (zero_is h.source h.under));
  counts = record { contents = []; zip = tt; only = nil_only; items_are = items ∙ omega arith; positions_are = positions ∙ omega arith };
}

pub rows_of : {Row : Type 0} (IsRow : Json → Row → Type 0) (slots : List Slot) (f : File) (slot : Slot) (taken : Taken Row) (rows : List Row) → slice_get slots (file_number f) ≡ Some slot → Takes IsRow f slot taken → rows ≡ taken.rows.items → HasRows IsRow slots f rows
rows_of {Row} IsRow slots f slot taken rows there takes is = record {
  slot = slot;
  there = there;
  content = takes.content;
  held = takes.held;
  each = λ sound. subst (λ (xs : List Row). AllZip IsRow (content_items takes.content) xs) (sym is) (takes.rows sound);
}
