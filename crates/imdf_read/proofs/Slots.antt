-- The rules on a file as a whole, and those on its items, put together.
use Rattle.std.proofs.Common.{◌≡◌, ◌≢◌, ◌∙◌, ℕ, ◌^◌, ◌<◌, ◌≤◌, List, [], Option, Some, None, Bool, true, false, not, cond, length, refl, sym, ap, subst, arith, ◌⊎◌, inl, inr, IsTrue, ◌↔◌}
use Rattle.std.specs.Prelude.{slice_get}
use Rattle.std.specs.List.{AllZip}
use Rattle.venue_types.specs.declared.finding.Finding.{Finding}
use Rattle.venue_types.specs.declared.finding.Note.{Note}
use Rattle.venue_types.specs.declared.files.Slot.{Slot}
use Rattle.venue_types.specs.declared.files.Slot.TheVariants.{Absent, Held}
use Rattle.exact_json.specs.Json.{Json, depth}
use Rattle.exact_json.specs.Grammar.{IsJson}
use Rattle.venue_types.specs.declared.folder_file.File.{File}
use Rattle.venue_types.specs.declared.folder_file.File.TheVariants as file
use Rattle.imdf_schema.specs.Items.{is_collection, items_in}
use Rattle.imdf_schema.specs.Contents.{IsContent, content_items, HasValue, IsLarge, IsNoText, IsDeep}
use Rattle.imdf_read.specs.declared.items.Taken.{Taken}
use Rattle.imdf_schema.specs.declared.rules.Rule.{Rule}
use Rattle.imdf_schema.specs.declared.rules.Rule.TheVariants.{F1, F2, F3, F4, M1, M2, M3, C1, V1}
use Rattle.imdf_read.specs.Broken.{FileBreaks}
use Rattle.rule_reports.specs.Passes.{Adds}
use Rattle.imdf_schema.specs.Places.{finding_at}
use Rattle.imdf_read.specs.Gathering.{FindsInSlot, FindsInItems, FindsInFile, NotesInItems, NotesInFile}
use Rattle.imdf_read.specs.Taking.{Takes, TakesItems, TakesNothing, HasOnlyValue, HasFault, IsTextOf}
use Rattle.rule_reports.proofs.Adding.{Adds-same, Adds-then, Adds-none}

-- one rule on the file
abbrev pub Whole : File → Slot → Rule → Finding → Type 0
Whole f slot r x = FileBreaks r f slot × (x ≡ finding_at r f 0 0)

pub adds_whole : (f : File) (slot : Slot) (r : Rule) (broken : Bool) (place : Finding) (old new : List Finding)
    → (broken ≡ true → FileBreaks r f slot) → (FileBreaks r f slot → broken ≡ true) → place ≡ finding_at r f 0 0
    → ((P : Finding → Type 0) → (broken ≡ true → P place) → ((x : Finding) → P x → (broken ≡ true) × (x ≡ place)) → Adds P old new)
    → Adds (Whole f slot r) old new
adds_whole f slot r broken place old new into back is adds = adds (Whole f slot r) (λ h. (into h, is)) (λ x h. (back h.0, h.1 ∙ sym is))

-- a file's value is a text of it
pub text_of : (slot : Slot) (v : Json) → HasValue slot v → IsTextOf slot v
text_of Absent v h = h
text_of (Held bytes) v h = h.1

pub not_absent : (slot : Slot) (v : Json) → HasValue slot v → slot ≡ Absent → ⊥
not_absent Absent v h e = h
not_absent (Held bytes) v h e = cc

pub not_large : (slot : Slot) (v : Json) → HasValue slot v → IsLarge slot → ⊥
not_large Absent v h large = h
not_large (Held bytes) v h large = let few = h.0 in omega (arith, large)

pub some_text : (slot : Slot) (v : Json) → HasValue slot v → IsNoText slot → ⊥
some_text Absent v h none = h
some_text (Held bytes) v h none = none.1 v h.1

pub not_deep : (slot : Slot) (v : Json) → HasValue slot v → ((w : Json) → IsTextOf slot w → w ≡ v) → IsDeep slot → ⊥
not_deep Absent v h only deep = h
not_deep (Held bytes) v h only deep =
    let same : deep.1.0 ≡ v = only deep.1.0 deep.1.1 in
    let shallow : depth v ≤ 64 = h.2 in
    let far : 64 < depth v = subst (λ (w : Json). 64 < depth w) same deep.1.2 in
    omega arith

-- the one content of a file that has a value
pub one_content : (slot : Slot) (v : Json) → HasOnlyValue slot v → (o : Option Json) → IsContent slot o → o ≡ Some v
one_content slot v known None h = absurd (h v known.has)
one_content slot v known (Some w) h = ap Some (known.only w (text_of slot w h))

-- the rules on a file that has a value
value_rules : (f : File) (slot : Slot) (v : Json) → f ≢ file.Manifest → HasOnlyValue slot v → (r : Rule) → FileBreaks r f slot → (r ≡ C1) ⊎ (r ≡ V1)
value_rules f slot v features known C1 b = inl refl
value_rules f slot v features known V1 b = inr refl
value_rules f slot v features known F1 b = absurd (features b.0)
value_rules f slot v features known F2 b = absurd (not_large slot v known.has b)
value_rules f slot v features known F3 b = absurd (some_text slot v known.has b)
value_rules f slot v features known F4 b = absurd (not_deep slot v known.has known.only b)
value_rules f slot v features known M1 b = absurd (features b.0)
value_rules f slot v features known M2 b = absurd (features b.0)
value_rules f slot v features known M3 b = absurd (features b.0)
value_rules f slot v features known _ b = absurd b

not_false : (b : Bool) → b ≡ false → not b ≡ true
not_false b e = ap not e

not_true : (b : Bool) → not b ≡ true → b ≡ false
not_true true e = cc
not_true false e = refl

pub adds_collection : (f : File) (slot : Slot) (v : Json) (is : Bool) (place : Finding) (old new : List Finding) → f ≢ file.Manifest → HasOnlyValue slot v → is ≡ is_collection v → place ≡ finding_at C1 f 0 0
    → ((P : Finding → Type 0) → (not is ≡ true → P place) → ((x : Finding) → P x → (not is ≡ true) × (x ≡ place)) → Adds P old new)
    → Adds (Whole f slot C1) old new
adds_collection f slot v is place old new features known same at adds =
    adds_whole f slot C1 (not is) place old new
    (λ h. (features, (v, known.has, sym same ∙ not_true is h)))
    (λ b. let w = b.1.0 in let e : w ≡ v = known.only w (text_of slot w b.1.1) in not_false is (same ∙ ap is_collection (sym e) ∙ b.1.2))
    at adds

pub adds_not_one : (f : File) (slot : Slot) (v : Json) (is broken : Bool) (items : ℕ) (place : Finding) (old new : List Finding) → HasOnlyValue slot v → is ≡ is_collection v → items ≡ length (items_in v)
    → (IsTrue broken ↔ ((f ≡ file.Venue) × (is ≡ true) × (items ≢ 1))) → place ≡ finding_at V1 f 0 0
    → ((P : Finding → Type 0) → (broken ≡ true → P place) → ((x : Finding) → P x → (broken ≡ true) × (x ≡ place)) → Adds P old new)
    → Adds (Whole f slot V1) old new
adds_not_one f slot v is broken items place old new known same count decides at adds =
    adds_whole f slot V1 broken place old new
    (λ h. let d = decides.0 h in (d.0, inr (v, known.has, sym same ∙ d.1, (λ e. d.2 (count ∙ e)))))
    (λ b. decides.1 (elim b.1 [
      | inl absent ↦ absurd (not_absent slot v known.has absent)
      | inr held ↦
          let e : held.0 ≡ v = known.only held.0 (text_of slot held.0 held.1) in
          (b.0, same ∙ ap is_collection (sym e) ∙ held.2, (λ one. held.3 (ap (λ (w : Json). length (items_in w)) e ∙ sym count ∙ one)))
    ]))
    at adds

whole_part : (f : File) (slot : Slot) (v : Json) (x : Finding) (h : FindsInSlot f slot x) → (h.rule ≡ C1) ⊎ (h.rule ≡ V1) → Whole f slot C1 x ⊎ (FindsInItems f (items_in v) x ⊎ Whole f slot V1 x)
whole_part f slot v x h (inl e) = inl (subst (λ (r : Rule). FileBreaks r f slot) e h.breaks, h.is ∙ ap (λ (r : Rule). finding_at r f 0 0) e)
whole_part f slot v x h (inr e) = inr (inr (subst (λ (r : Rule). FileBreaks r f slot) e h.breaks, h.is ∙ ap (λ (r : Rule). finding_at r f 0 0) e))

-- what a file that has a value adds
pub value_adds : (f : File) (slot : Slot) (v : Json) (a b c d : List Finding) → f ≢ file.Manifest → HasOnlyValue slot v
    → Adds (Whole f slot C1) a b → Adds (FindsInItems f (items_in v)) b c → Adds (Whole f slot V1) c d → Adds (FindsInFile f slot) a d
value_adds f slot v a b c d features known one items last =
    Adds-then (FindsInFile f slot) one (Adds-then (λ x. FindsInItems f (items_in v) x ⊎ Whole f slot V1 x) items last (λ x h. inl h) (λ x h. inr h) (λ x h. h))
    (λ x h. inl (record { rule = C1; breaks = h.0; is = h.1 }))
    (λ x h. elim h [
      | inl item ↦ inr (Some v, known.has, item)
      | inr whole ↦ inl (record { rule = V1; breaks = whole.0; is = whole.1 })
    ])
    (λ x h. elim h [
      | inl whole ↦ whole_part f slot v x whole (value_rules f slot v features known whole.rule whole.breaks)
      | inr item ↦ inr (inl (subst (λ (o : Option Json). FindsInItems f (content_items o) x) (one_content slot v known item.0 item.1) item.2))
    ])

pub value_notes : (f : File) (slot : Slot) (v : Json) (a b : List Note) → HasOnlyValue slot v → Adds (NotesInItems f (items_in v)) a b → Adds (NotesInFile f slot) a b
value_notes f slot v a b known adds = Adds-same (NotesInFile f slot) adds
    (λ x h. (Some v, known.has, h))
    (λ x h. subst (λ (o : Option Json). NotesInItems f (content_items o) x) (one_content slot v known h.0 h.1) h.2)

-- what is taken of it
pub value_takes : {Row : Type 0} (IsRow : Json → Row → Type 0) (f : File) (slot : Slot) (v : Json) (is : Bool) (taken made : Taken Row) → HasOnlyValue slot v → is ≡ is_collection v
    → TakesItems IsRow f (items_in v) taken → made.rows.items ≡ taken.rows.items → made.items ≡ cond is taken.items 0 → made.positions ≡ taken.positions → Takes IsRow f slot made
value_takes {Row} IsRow f slot v is taken made known same takes rows items positions = record {
  content = Some v;
  held = known.has;
  only = one_content slot v known;
  rows = λ sound. subst (λ (xs : List Row). AllZip IsRow (items_in v) xs) (sym rows) (takes.rows (λ x h. sound x (inr (Some v, known.has, h))));
  items = items ∙ ap (λ (b : Bool). cond b taken.items 0) same ∙ ap (λ (n : ℕ). cond (is_collection v) n 0) takes.items;
  positions = positions ∙ takes.positions;
}

-- a file without a value has no items
pub no_value_items : (slot : Slot) → ((v : Json) → ¬ HasValue slot v) → (o : Option Json) → IsContent slot o → o ≡ None
no_value_items slot none None h = refl
no_value_items slot none (Some v) h = absurd (none v h)

no_finds : (f : File) (slot : Slot) → ((v : Json) → ¬ HasValue slot v) → (o : Option Json) → IsContent slot o → (x : Finding) → FindsInItems f (content_items o) x → ⊥
no_finds f slot none o held x h =
    let e = no_value_items slot none o held in
    let there : slice_get (content_items None) h.place ≡ Some h.item = subst (λ (p : Option Json). slice_get (content_items p) h.place ≡ Some h.item) e h.there in
    cc

no_notes : (f : File) (slot : Slot) → ((v : Json) → ¬ HasValue slot v) → (o : Option Json) → IsContent slot o → (x : Note) → NotesInItems f (content_items o) x → ⊥
no_notes f slot none o held x h =
    let e = no_value_items slot none o held in
    let there : slice_get (content_items None) h.place ≡ Some h.item = subst (λ (p : Option Json). slice_get (content_items p) h.place ≡ Some h.item) e h.there in
    cc

-- what a file without a value adds, where one rule alone can be broken
pub no_value_adds : (f : File) (slot : Slot) (r : Rule) (a b : List Finding) → ((v : Json) → ¬ HasValue slot v) → ((q : Rule) → FileBreaks q f slot → q ≡ r)
    → Adds (Whole f slot r) a b → Adds (FindsInFile f slot) a b
no_value_adds f slot r a b none one adds = Adds-same (FindsInFile f slot) adds
    (λ x h. inl (record { rule = r; breaks = h.0; is = h.1 }))
    (λ x h. elim h [
      | inl whole ↦ let e = one whole.rule whole.breaks in (subst (λ (q : Rule). FileBreaks q f slot) e whole.breaks, whole.is ∙ ap (λ (q : Rule). finding_at q f 0 0) e)
      | inr item ↦ absurd (no_finds f slot none item.0 item.1 x item.2)
    ])

pub no_value_notes : (f : File) (slot : Slot) (a : List Note) → ((v : Json) → ¬ HasValue slot v) → Adds (NotesInFile f slot) a a
no_value_notes f slot a none = Adds-same (NotesInFile f slot) (Adds-none a) (λ x h. absurd h) (λ x h. absurd (no_notes f slot none h.0 h.1 x h.2))

pub no_value_takes : {Row : Type 0} (IsRow : Json → Row → Type 0) (f : File) (slot : Slot) (taken : Taken Row) → ((v : Json) → ¬ HasValue slot v) → TakesNothing taken → Takes IsRow f slot taken
no_value_takes {Row} IsRow f slot taken none nothing = record {
  content = None;
  held = none;
  only = no_value_items slot none;
  rows = λ sound. subst (λ (xs : List Row). AllZip IsRow [] xs) (sym nothing.rows) tt;
  items = nothing.items;
  positions = nothing.positions ∙ omega arith;
}

-- the rules on a file that is absent
pub absent_rules : (f : File) → f ≢ file.Manifest → (q : Rule) → FileBreaks q f Absent → q ≡ V1
absent_rules f features V1 b = refl
absent_rules f features F1 b = absurd (features b.0)
absent_rules f features M1 b = absurd (features b.0)
absent_rules f features M2 b = absurd (features b.0)
absent_rules f features M3 b = absurd (features b.0)
absent_rules f features C1 b = absurd b.1.1
absent_rules f features _ b = absurd b

-- the causes of a fault exclude each other
pub large_text : (slot : Slot) → IsLarge slot → IsNoText slot → ⊥
large_text Absent large none = large
large_text (Held bytes) large none = let few = none.0 in omega (arith, large)

pub large_deep : (slot : Slot) → IsLarge slot → IsDeep slot → ⊥
large_deep Absent large deep = large
large_deep (Held bytes) large deep = let few = deep.0 in omega (arith, large)

pub text_deep : (slot : Slot) → IsNoText slot → IsDeep slot → ⊥
text_deep Absent none deep = none
text_deep (Held bytes) none deep = none.1 deep.1.0 deep.1.1

pub fault_value : (r : Rule) (slot : Slot) → HasFault r slot → (v : Json) → ¬ HasValue slot v
fault_value F2 slot fault v h = not_large slot v h fault
fault_value F3 slot fault v h = some_text slot v h fault
fault_value F4 slot fault v h = fault.1 v h
fault_value _ slot fault v h = fault

pub fault_there : (r : Rule) (slot : Slot) → HasFault r slot → slot ≡ Absent → ⊥
fault_there F2 Absent fault e = fault
fault_there F3 Absent fault e = fault
fault_there F4 Absent fault e = fault.0
fault_there F2 (Held bytes) fault e = cc
fault_there F3 (Held bytes) fault e = cc
fault_there F4 (Held bytes) fault e = cc
fault_there _ slot fault e = fault

abbrev IsOneOf : Slot → Rule → Type 0
IsOneOf slot q = ((q ≡ F2) × IsLarge slot) ⊎ (((q ≡ F3) × IsNoText slot) ⊎ ((q ≡ F4) × IsDeep slot))

-- what may be broken by a file that is there and has no value
fault_of : (f : File) (slot : Slot) → f ≢ file.Manifest → ((v : Json) → ¬ HasValue slot v) → (slot ≡ Absent → ⊥) → (q : Rule) → FileBreaks q f slot → IsOneOf slot q
fault_of f slot features none there F2 b = inl (refl, b)
fault_of f slot features none there F3 b = inr (inl (refl, b))
fault_of f slot features none there F4 b = inr (inr (refl, b))
fault_of f slot features none there F1 b = absurd (features b.0)
fault_of f slot features none there M1 b = absurd (features b.0)
fault_of f slot features none there M2 b = absurd (features b.0)
fault_of f slot features none there M3 b = absurd (features b.0)
fault_of f slot features none there C1 b = absurd (none b.1.0 b.1.1)
fault_of f slot features none there V1 b = elim b.1 [ inl absent ↦ absurd (there absent) | inr held ↦ absurd (none held.0 held.1) ]
fault_of f slot features none there _ b = absurd b

-- the cause of a fault is broken, and no other rule
pub fault_breaks : (f : File) (slot : Slot) (r : Rule) → f ≢ file.Manifest → HasFault r slot → FileBreaks r f slot × ((q : Rule) → FileBreaks q f slot → q ≡ r)
fault_breaks f slot F2 features fault = (
  fault,
  (λ q b. elim (fault_of f slot features (fault_value F2 slot fault) (fault_there F2 slot fault) q b) [
    | inl large ↦ large.0
    | inr rest ↦ elim rest [ inl text ↦ absurd (large_text slot fault text.1) | inr deep ↦ absurd (large_deep slot fault deep.1) ]
  ]),
)
fault_breaks f slot F3 features fault = (
  fault,
  (λ q b. elim (fault_of f slot features (fault_value F3 slot fault) (fault_there F3 slot fault) q b) [
    | inl large ↦ absurd (large_text slot large.1 fault)
    | inr rest ↦ elim rest [ inl text ↦ text.0 | inr deep ↦ absurd (text_deep slot fault deep.1) ]
  ]),
)
fault_breaks f slot F4 features fault = (
  fault.0,
  (λ q b. elim (fault_of f slot features (fault_value F4 slot fault) (fault_there F4 slot fault) q b) [
    | inl large ↦ absurd (large_deep slot large.1 fault.0)
    | inr rest ↦ elim rest [ inl text ↦ absurd (text_deep slot text.1 fault.0) | inr deep ↦ deep.0 ]
  ]),
)
fault_breaks f slot _ features fault = absurd fault

pub fault_adds : (f : File) (slot : Slot) (r : Rule) (place : Finding) (old new : List Finding) → f ≢ file.Manifest → HasFault r slot → place ≡ finding_at r f 0 0
    → ((P : Finding → Type 0) → (true ≡ true → P place) → ((x : Finding) → P x → (true ≡ true) × (x ≡ place)) → Adds P old new)
    → Adds (FindsInFile f slot) old new
fault_adds f slot r place old new features fault is adds =
    let known = fault_breaks f slot r features fault in
    no_value_adds f slot r old new (fault_value r slot fault) known.1 (adds_whole f slot r true place old new (λ h. known.0) (λ b. refl) is adds)

pub fault_notes : (f : File) (slot : Slot) (r : Rule) (a : List Note) → HasFault r slot → Adds (NotesInFile f slot) a a
fault_notes f slot r a fault = no_value_notes f slot a (fault_value r slot fault)

pub fault_takes : {Row : Type 0} (IsRow : Json → Row → Type 0) (f : File) (slot : Slot) (r : Rule) (taken : Taken Row) → HasFault r slot → TakesNothing taken → Takes IsRow f slot taken
fault_takes IsRow f slot r taken fault nothing = no_value_takes IsRow f slot taken (fault_value r slot fault) nothing

-- a file that was read is known
pub value_known : (slot : Slot) (bytes seen : List ℕ) (v : Json) → slot ≡ Held bytes → seen ≡ bytes → length seen ≤ 2 ^ 25 → IsJson seen v → depth v ≤ 64
    → ((w : Json) → IsJson seen w → v ≡ w) → HasOnlyValue slot v
value_known slot bytes seen v is same few json flat only =
    subst (λ (s : Slot). HasOnlyValue s v) (sym (is ∙ ap Held (sym same)))
    (record { has = (few, json, flat); only = λ w h. sym (only w h) })

pub text_fault : (slot : Slot) (bytes seen : List ℕ) → slot ≡ Held bytes → seen ≡ bytes → length seen ≤ 2 ^ 25 → ((w : Json) → ¬ IsJson seen w) → HasFault F3 slot
text_fault slot bytes seen is same few none = subst (λ (s : Slot). HasFault F3 s) (sym (is ∙ ap Held (sym same))) (few, none)

pub deep_fault : (slot : Slot) (bytes seen : List ℕ) → slot ≡ Held bytes → seen ≡ bytes → length seen ≤ 2 ^ 25 → (j : Json) → IsJson seen j → 64 < depth j → ((w : Json) → IsJson seen w → 64 < depth w) → HasFault F4 slot
deep_fault slot bytes seen is same few j json deep all = subst (λ (s : Slot). HasFault F4 s) (sym (is ∙ ap Held (sym same)))
    ((few, (j, json, deep)), (λ v h. let far : 64 < depth v = all v h.1 in let near : depth v ≤ 64 = h.2 in omega arith))
