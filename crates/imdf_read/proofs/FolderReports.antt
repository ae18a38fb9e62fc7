-- What a folder's report, notes and rows are, once all files are read.
use Rattle.std.proofs.Common.{◌≡◌, ◌≢◌, ◌∙◌, ℕ, ◌-◌, ◌^◌, ◌<◌, ◌≤◌, zero, suc, min, List, [], ◌∷◌, Option, Some, true, nat_lt, length, take, drop, refl, sym, ap, subst, arith, ◌⊎◌, inl, inr}
use Rattle.std.specs.Prelude.{Contains, slice_get, sum_by}
use Rattle.std.specs.List.{AllZip}
use Rattle.std.proofs.lemmas.Bool.Decides.{Decides-ltb}
use Rattle.venue_types.proofs.Items.{Contains-nil}
use Rattle.exact_json.specs.Json.{Json}
use Rattle.venue_types.specs.declared.files.Files.{Files}
use Rattle.venue_types.specs.declared.files.Slot.{Slot}
use Rattle.venue_types.specs.declared.features.Features.{Features}
use Rattle.venue_types.specs.declared.finding.Finding.{Finding}
use Rattle.venue_types.specs.declared.finding.Note.{Note}
use Rattle.rule_reports.specs.Reports.{IsReport, IsNoteList}
use Rattle.rule_reports.proofs.Phases.{Lists-same}
use Rattle.rule_reports.specs.Order.{finding_cmp, note_cmp}
use Rattle.venue_types.specs.declared.folder_file.File.{File}
use Rattle.venue_types.specs.declared.folder_file.File.TheVariants as file
use Rattle.venue_types.specs.FolderFiles.{file_number, feature_files}
use Rattle.imdf_schema.specs.Contents.{IsContent, content_items}
use Rattle.imdf_rows.specs.Folder.{AreRows, AreFeatures}
use Rattle.imdf_schema.specs.declared.rules.Rule.{Rule}
use Rattle.imdf_schema.specs.declared.rules.Rule.TheVariants.{S1, S2}
use Rattle.imdf_schema.specs.declared.rules.NoteKind.{NoteKind}
use Rattle.imdf_schema.specs.declared.rules.NoteKind.TheVariants.{N1, N2, N5}
use Rattle.imdf_read.specs.declared.progress.Progress.{Progress}
use Rattle.imdf_schema.specs.Rules.{rule_number, note_number}
use Rattle.imdf_read.specs.Counts.{collected, total_positions}
use Rattle.imdf_read.specs.Broken.{FolderBreaks, BreaksInFolder, BreaksInFile, BreaksInItem, IsBroken}
use Rattle.imdf_read.specs.Noted.{ItemNotes, IsNoted}
use Rattle.rule_reports.specs.Passes.{Adds}
use Rattle.imdf_schema.specs.Places.{finding_at, note_at}
use Rattle.imdf_read.specs.Gathering.{FindsInFile}
use Rattle.imdf_read.specs.Progress.{FoundUpTo, NotedUpTo, CountsUpTo, IsUpTo, HasRows, HaveRows}
use Rattle.rule_reports.proofs.Adding.{Adds-then}
use Rattle.venue_types.proofs.FileNumbers.{up_to_16}
use Rattle.imdf_read.proofs.Folders.{finds_at}

at_most_16 : (f : File) → file_number f ≤ 16
at_most_16 f = let few = up_to_16 f in omega arith

abbrev build : ℕ → ℕ → ℕ → ℕ → Finding
build r f i m = record { rule = r; file = f; index = i; member = m }

abbrev build_note : ℕ → ℕ → ℕ → ℕ → Note
build_note n f i m = record { note = n; file = f; index = i; member = m }

-- a finding is made of its parts
made_of : (x : Finding) (r : Rule) (f : File) (i m : ℕ) → x.rule ≡ rule_number r → x.file ≡ file_number f → x.index ≡ i → x.member ≡ m → x ≡ finding_at r f i m
made_of x r f i m rule in_file at_index at_member =
    ap (λ (n : ℕ). build n x.file x.index x.member) rule ∙ ap (λ (n : ℕ). build (rule_number r) n x.index x.member) in_file
    ∙ ap (λ (n : ℕ). build (rule_number r) (file_number f) n x.member) at_index ∙ ap (λ (n : ℕ). build (rule_number r) (file_number f) i n) at_member

note_made_of : (x : Note) (kind : NoteKind) (f : File) (i : ℕ) → x.note ≡ note_number kind → x.file ≡ file_number f → x.index ≡ i → x.member ≡ 0 → x ≡ note_at kind f i 0
note_made_of x kind f i note in_file at_index at_member =
    ap (λ (n : ℕ). build_note n x.file x.index x.member) note ∙ ap (λ (n : ℕ). build_note (note_number kind) n x.index x.member) in_file
    ∙ ap (λ (n : ℕ). build_note (note_number kind) (file_number f) n x.member) at_index ∙ ap (λ (n : ℕ). build_note (note_number kind) (file_number f) i n) at_member

-- a place in a file is one where a rule is broken
file_broken : (files : Files) (x : Finding) → FoundUpTo files.slots 16 x → IsBroken files x
file_broken files x h = elim h.finds [
  | inl whole ↦ record {
    rule = whole.rule;
    number = ap (λ (z : Finding). z.rule) whole.is;
    breaks = inr (inl (record {
      source = h.source;
      slot = h.slot;
      held = h.there;
      breaks = whole.breaks;
      at = record { in_file = ap (λ (z : Finding). z.file) whole.is; at_index = ap (λ (z : Finding). z.index) whole.is; at_member = ap (λ (z : Finding). z.member) whole.is };
    }));
  }
  | inr item ↦
      let found = item.1.2 in
      let is = found.finds.finds.is in
      let place : x.index ≡ found.place = ap (λ (z : Finding). z.index) is in
      record {
        rule = found.finds.rule;
        number = ap (λ (z : Finding). z.rule) is;
        breaks = inr (inr (record {
          source = h.source;
          features = item.0;
          content = item.1.0;
          held = record { slot = h.slot; at = h.there; is = item.1.1 };
          item = found.item;
          there = subst (λ (k : ℕ). slice_get (content_items item.1.0) k ≡ Some found.item) (sym place) found.there;
          breaks = found.finds.finds.breaks;
          in_file = ap (λ (z : Finding). z.file) is;
        }));
      }
]

in_file_found : (files : Files) (x : Finding) (r : Rule) → x.rule ≡ rule_number r → BreaksInFile files r x → FoundUpTo files.slots 16 x
in_file_found files x r number b = record {
  source = b.source;
  under = at_most_16 b.source;
  slot = b.slot;
  there = b.held;
  finds = inl (record { rule = r; breaks = b.breaks; is = made_of x r b.source 0 0 number b.at.in_file b.at.at_index b.at.at_member });
}

in_item_found : (files : Files) (x : Finding) (r : Rule) → x.rule ≡ rule_number r → BreaksInItem files r x → FoundUpTo files.slots 16 x
in_item_found files x r number b = record {
  source = b.source;
  under = at_most_16 b.source;
  slot = b.held.slot;
  there = b.held.at;
  finds = inr (
    b.features,
    (
      b.content,
      b.held.is,
      record {
        place = x.index;
        item = b.item;
        there = b.there;
        finds = record { rule = r; finds = record { breaks = b.breaks; is = made_of x r b.source x.index x.member number b.in_file refl refl } };
      },
    ),
  );
}

-- a rule on the folder
abbrev pub InFolder : Files → Rule → Finding → Type 0
InFolder files r x = FolderBreaks r files × (x ≡ finding_at r file.Manifest 0 0)

folder_broken : (files : Files) (x : Finding) (r : Rule) → InFolder files r x → IsBroken files x
folder_broken files x r h = record {
  rule = r;
  number = ap (λ (z : Finding). z.rule) h.1;
  breaks = inl (h.0, record { in_file = ap (λ (z : Finding). z.file) h.1; at_index = ap (λ (z : Finding). z.index) h.1; at_member = ap (λ (z : Finding). z.member) h.1 });
}

in_folder : (files : Files) (x : Finding) (r : Rule) → x.rule ≡ rule_number r → BreaksInFolder files r x → InFolder files S1 x ⊎ InFolder files S2 x
in_folder files x S1 number b = inl (b.0, made_of x S1 file.Manifest 0 0 number b.1.in_file b.1.at_index b.1.at_member)
in_folder files x S2 number b = inr (b.0, made_of x S2 file.Manifest 0 0 number b.1.in_file b.1.at_index b.1.at_member)
in_folder files x _ number b = absurd b.0

take_past : {X : Type 0} (xs : List X) (k : ℕ) → length xs ≤ k → take k xs ≡ xs
take_past [] zero h = refl
take_past [] (suc k) h = refl
take_past (x ∷ xs) zero h = absurd (omega arith)
take_past (x ∷ xs) (suc k) h = ap (λ ys. x ∷ ys) (take_past xs k (omega arith))

behind : (slots : List Slot) → length slots ≡ 17 → length (drop 1 slots) ≤ 16
behind [] e = absurd (omega arith)
behind (s ∷ ss) e = omega arith

-- all feature files are counted
all_slots : (files : Files) → length files.slots ≡ 17 → take 16 (drop 1 files.slots) ≡ drop 1 files.slots
all_slots files e = take_past (drop 1 files.slots) 16 (behind files.slots e)

above : (a b n : ℕ) → b ≡ min a (2 ^ 64 - 1) → n < b → n < a
above a b n is h = omega arith

back_above : (a b n : ℕ) → b ≡ min a (2 ^ 64 - 1) → n < 2 ^ 64 - 1 → n < a → n < b
back_above a b n is small h = omega arith

many_into : (files : Files) (items positions : ℕ) → length files.slots ≡ 17 → CountsUpTo files.slots 16 items positions → nat_lt 100000 items ≡ true → FolderBreaks S1 files
many_into files items positions e counts h = (
  counts.contents,
  subst (λ (ss : List Slot). AllZip IsContent ss counts.contents) (all_slots files e) counts.zip,
  above (sum_by collected counts.contents) items 100000 counts.items_are ((Decides-ltb 100000 items).0 h),
)

many_back : (files : Files) (items positions : ℕ) → length files.slots ≡ 17 → CountsUpTo files.slots 16 items positions → FolderBreaks S1 files → nat_lt 100000 items ≡ true
many_back files items positions e counts b =
    let same : b.0 ≡ counts.contents = counts.only b.0 (subst (λ (ss : List Slot). AllZip IsContent ss b.0) (sym (all_slots files e)) b.1) in
    (Decides-ltb 100000 items).1 (back_above (sum_by collected counts.contents) items 100000 counts.items_are (omega arith) (subst (λ (cs : List (Option Json)). 100000 < sum_by collected cs) same b.2))

long_into : (files : Files) (items positions : ℕ) → length files.slots ≡ 17 → CountsUpTo files.slots 16 items positions → nat_lt 1000000 positions ≡ true → FolderBreaks S2 files
long_into files items positions e counts h = (
  counts.contents,
  subst (λ (ss : List Slot). AllZip IsContent ss counts.contents) (all_slots files e) counts.zip,
  above (total_positions feature_files counts.contents) positions 1000000 counts.positions_are ((Decides-ltb 1000000 positions).0 h),
)

long_back : (files : Files) (items positions : ℕ) → length files.slots ≡ 17 → CountsUpTo files.slots 16 items positions → FolderBreaks S2 files → nat_lt 1000000 positions ≡ true
long_back files items positions e counts b =
    let same : b.0 ≡ counts.contents = counts.only b.0 (subst (λ (ss : List Slot). AllZip IsContent ss b.0) (sym (all_slots files e)) b.1) in
    (Decides-ltb 1000000 positions).1 (back_above (total_positions feature_files counts.contents) positions 1000000 counts.positions_are (omega arith) (subst (λ (cs : List (Option Json)). 1000000 < total_positions feature_files cs) same b.2))

-- the report: what was gathered of the files, and the two rules on the folder
pub report : (files : Files) (p : Progress) (y z : Finding) (b d out : List Finding) → length files.slots ≡ 17 → IsUpTo files.slots 16 p
    → y ≡ finding_at S1 file.Manifest 0 0 → z ≡ finding_at S2 file.Manifest 0 0
    → ((P : Finding → Type 0) → (nat_lt 100000 p.items ≡ true → P y) → ((x : Finding) → P x → (nat_lt 100000 p.items ≡ true) × (x ≡ y)) → Adds P p.gathered.findings.items b)
    → ((P : Finding → Type 0) → (nat_lt 1000000 p.positions ≡ true → P z) → ((x : Finding) → P x → (nat_lt 1000000 p.positions ≡ true) × (x ≡ z)) → Adds P b d)
    → IsReport (Contains d) out → IsReport (IsBroken files) out
report files p y z b d out e up ys zs one two listed =
    let many = one (InFolder files S1) (λ h. (many_into files p.items p.positions e up.counts h, ys)) (λ x h. (many_back files p.items p.positions e up.counts h.0, h.1 ∙ sym ys)) in
    let long = two (InFolder files S2) (λ h. (long_into files p.items p.positions e up.counts h, zs)) (λ x h. (long_back files p.items p.positions e up.counts h.0, h.1 ∙ sym zs)) in
    let both = Adds-then (λ x. InFolder files S1 x ⊎ InFolder files S2 x) many long (λ x h. inl h) (λ x h. inr h) (λ x h. h) in
    Lists-same finding_cmp (Contains d) (IsBroken files) out
    (λ x h. elim (both.only x h) [
      | inl was ↦ file_broken files x (up.findings_only x was)
      | inr here ↦ elim here [ inl s1 ↦ folder_broken files x S1 s1 | inr s2 ↦ folder_broken files x S2 s2 ]
    ])
    (λ x h. elim h.breaks [
      | inl folder ↦ both.whole x (in_folder files x h.rule h.number folder)
      | inr rest ↦ elim rest [
        | inl whole ↦ both.kept x (up.findings_whole x (in_file_found files x h.rule h.number whole))
        | inr item ↦ both.kept x (up.findings_whole x (in_item_found files x h.rule h.number item))
      ]
    ])
    listed

-- notes are due in feature files alone
noted_feature : (kind : NoteKind) (f : File) (v : Json) → ItemNotes kind f v → f ≢ file.Manifest
noted_feature N1 f v h e = let is : f ≡ file.Unit = h.0 in cc
noted_feature N2 f v h e = let is : f ≡ file.Relationship = h.0 in cc
noted_feature N5 f v h e = let is : f ≡ file.Unit = h.0 in cc
noted_feature _ f v h e = h

noted : (files : Files) (x : Note) → NotedUpTo files.slots 16 x → IsNoted files x
noted files x h =
    let found = h.notes.2 in
    let is = found.notes.is in
    let place : x.index ≡ found.place = ap (λ (z : Note). z.index) is in
    record {
      kind = found.notes.kind;
      number = ap (λ (z : Note). z.note) is;
      source = h.source;
      content = h.notes.0;
      held = record { slot = h.slot; at = h.there; is = h.notes.1 };
      feature = found.item;
      there = subst (λ (k : ℕ). slice_get (content_items h.notes.0) k ≡ Some found.item) (sym place) found.there;
      sound = found.notes.sound;
      notes = found.notes.due;
      at_file = ap (λ (z : Note). z.file) is;
      at_member = ap (λ (z : Note). z.member) is;
    }

noted_back : (files : Files) (x : Note) → IsNoted files x → NotedUpTo files.slots 16 x
noted_back files x h = record {
  source = h.source;
  features = noted_feature h.kind h.source h.feature h.notes;
  under = at_most_16 h.source;
  slot = h.held.slot;
  there = h.held.at;
  notes = (
    h.content,
    h.held.is,
    record {
      place = x.index;
      item = h.feature;
      there = h.there;
      notes = record { kind = h.kind; sound = h.sound; due = h.notes; is = note_made_of x h.kind h.source x.index h.number h.at_file refl h.at_member };
    },
  );
}

pub notes_listed : (files : Files) (p : Progress) (out : List Note) → IsUpTo files.slots 16 p → IsNoteList (Contains p.gathered.notes.items) out → IsNoteList (IsNoted files) out
notes_listed files p out up listed = Lists-same note_cmp (Contains p.gathered.notes.items) (IsNoted files) out
    (λ x h. noted files x (up.notes_only x h)) (λ x h. up.notes_whole x (noted_back files x h)) listed

-- where nothing is found, a file is sound
sound : (files : Files) (out : List Finding) (f : File) (slot : Slot) → f ≢ file.Manifest → slice_get files.slots (file_number f) ≡ Some slot → IsReport (IsBroken files) out → out ≡ [] → (x : Finding) → ¬ FindsInFile f slot x
sound files out f slot features there listed none x h =
    let up : FoundUpTo files.slots 16 x = record { source = f; under = at_most_16 f; slot = slot; there = there; finds = finds_at f slot x features h } in
    Contains-nil x (subst (λ (xs : List Finding). Contains xs x) none (listed.whole x (file_broken files x up)))

rows : {Row : Type 0} (IsRow : Json → Row → Type 0) (files : Files) (out : List Finding) (f : File) (found : List Row) → f ≢ file.Manifest → IsReport (IsBroken files) out → out ≡ [] → HasRows IsRow files.slots f found → AreRows IsRow files f found
rows IsRow files out f found features listed none h = record {
  content = h.content;
  held = record { slot = h.slot; at = h.there; is = h.held };
  each = h.each (sound files out f h.slot features h.there listed none);
}

pub all_rows : (files : Files) (out : List Finding) (features : Features) → IsReport (IsBroken files) out → HaveRows files.slots features → out ≡ [] → AreFeatures files features
all_rows files out features listed h none = record {
  addresses = rows _ files out file.Address features.addresses (λ e. cc) listed none h.addresses;
  amenities = rows _ files out file.Amenity features.amenities (λ e. cc) listed none h.amenities;
  anchors = rows _ files out file.Anchor features.anchors (λ e. cc) listed none h.anchors;
  buildings = rows _ files out file.Building features.buildings (λ e. cc) listed none h.buildings;
  details = rows _ files out file.Detail features.details (λ e. cc) listed none h.details;
  fixtures = rows _ files out file.Fixture features.fixtures (λ e. cc) listed none h.fixtures;
  footprints = rows _ files out file.Footprint features.footprints (λ e. cc) listed none h.footprints;
  geofences = rows _ files out file.Geofence features.geofences (λ e. cc) listed none h.geofences;
  kiosks = rows _ files out file.Kiosk features.kiosks (λ e. cc) listed none h.kiosks;
  levels = rows _ files out file.Level features.levels (λ e. cc) listed none h.levels;
  occupants = rows _ files out file.Occupant features.occupants (λ e. cc) listed none h.occupants;
  openings = rows _ files out file.Opening features.openings (λ e. cc) listed none h.openings;
  relationships = rows _ files out file.Relationship features.relationships (λ e. cc) listed none h.relationships;
  sections = rows _ files out file.Section features.sections (λ e. cc) listed none h.sections;
  units = rows _ files out file.Unit features.units (λ e. cc) listed none h.units;
  venues = rows _ files out file.Venue features.venues (λ e. cc) listed none h.venues;
}
