-- The items of a file, put together from one after the other.
use Rattle.std.proofs.Common.{◌≡◌, ◌∙◌, ℕ, ◌+◌, ◌-◌, ◌^◌, ◌<◌, ◌≤◌, zero, suc, min, List, [], ◌∷◌, ◌++◌, Bool, true, false, cond, ◌&&◌, zero-add, length, get_or, take, map, refl, sym, ap, subst, arith, inl, inr}
use Rattle.std.specs.Prelude.{sum_by}
use Rattle.std.proofs.lemmas.Bool.{cases_Bool}
use Rattle.std.proofs.lemmas.List.{take_more, length-map}
use Rattle.std.proofs.lemmas.List.Sums.{sum_by-append}
use Rattle.std.specs.List.{AllZip}
use Rattle.imdf_read.specs.declared.items.Taken.{Taken}
use Rattle.imdf_read.specs.Taking.{TakesItems}
use Rattle.rule_reports.proofs.Adding.{Below}
use Rattle.venue_types.specs.declared.finding.Finding.{Finding}
use Rattle.venue_types.specs.declared.finding.Note.{Note}
use Rattle.exact_json.specs.Json.{Json}
use Rattle.venue_types.specs.declared.folder_file.File.{File}
use Rattle.venue_types.specs.declared.folder_file.Geometry.{Geometry}
use Rattle.venue_types.specs.declared.folder_file.Geometry.TheVariants as kind
use Rattle.venue_types.specs.FolderFiles.{geometry_of}
use Rattle.imdf_schema.specs.Items.{is_feature, geometry, fits_geometry}
use Rattle.imdf_rows.specs.declared.figure.Figure.{Figure}
use Rattle.imdf_rows.specs.Figures.{HasFigure}
use Rattle.imdf_schema.specs.declared.rules.Rule.TheVariants.{C2, C5, G1, G2}
use Rattle.imdf_read.specs.declared.figures.Judged.{Judged}
use Rattle.imdf_read.specs.Counts.{places_of, is_judged, item_positions}
use Rattle.rule_reports.specs.Passes.{Adds}
use Rattle.imdf_schema.specs.Places.{finding_at}
use Rattle.imdf_read.specs.Gathering.{FindsInItem, FindsInItems, NotesInItem, NotesInItems}
use Rattle.imdf_read.specs.Judging.{IsJudged, StandsFor}
use Rattle.rule_reports.proofs.Adding.{Adds-same, Among}

flag_down : (b : Bool) → (b ≡ true → ⊥) → b ≡ false
flag_down true none = absurd (none refl)
flag_down false none = refl

stands : (g : Geometry) (item : Json) (f : Figure) → StandsFor g (geometry item) f → HasFigure g item f
stands kind.Null item f h = h
stands kind.Point item f h = h
stands kind.Line item f h = h
stands kind.Shape item f h = h
stands kind.Unjudged item f h = h

-- an item of which no rule is broken is a feature
pub sound_feature : (f : File) (i : ℕ) (item : Json) → ((x : Finding) → ¬ FindsInItem f i item x) → is_feature item ≡ true
sound_feature f i item sound = elim (cases_Bool (is_feature item)) [
  | inl feature ↦ feature
  | inr not ↦ absurd (sound (finding_at C2 f i 0) (record { rule = C2; finds = record { breaks = (not, refl); is = refl } }))
]

-- and it is judged
sound_judged : (f : File) (i : ℕ) (item : Json) → ((x : Finding) → ¬ FindsInItem f i item x) → is_judged f item ≡ true
sound_judged f i item sound =
    let feature = sound_feature f i item sound in
    elim (cases_Bool (fits_geometry (geometry_of f) (geometry item))) [
      | inr unfit ↦ absurd (sound (finding_at C5 f i 0) (record { rule = C5; finds = record { breaks = (feature, unfit, refl); is = refl } }))
      | inl fits ↦ ap (λ (b : Bool). b && fits_geometry (geometry_of f) (geometry item)) feature ∙ fits
    ]

-- and its geometry stands for the figure that was read
pub sound_figure : (f : File) (i : ℕ) (item : Json) (j : Judged) → IsJudged f item j → ((x : Finding) → ¬ FindsInItem f i item x) → HasFigure (geometry_of f) item j.figure
sound_figure f i item j judged sound =
    let ours = sound_judged f i item sound in
    let read = judged.read ours in
    let position = flag_down j.bad_position (λ e. sound (finding_at G1 f i 0) (record { rule = G1; finds = record { breaks = (ours, read.bad_position.0 e, refl); is = refl } })) in
    let form = flag_down j.bad_form (λ e. sound (finding_at G2 f i 0) (record { rule = G2; finds = record { breaks = (ours, read.bad_form.0 e, refl); is = refl } })) in
    stands (geometry_of f) item j.figure (read.figure position form)

chosen_positions : (b : Bool) (n p : ℕ) → (b ≡ true → p ≡ min n (2 ^ 64 - 1)) → (b ≡ false → p ≡ 0) → p ≡ min (cond b n 0) (2 ^ 64 - 1)
chosen_positions true n p read passed = read refl
chosen_positions false n p read passed = passed refl

-- its positions are counted
pub judged_positions : (f : File) (item : Json) (j : Judged) → IsJudged f item j → j.positions ≡ min (item_positions f item) (2 ^ 64 - 1)
judged_positions f item j judged = chosen_positions (is_judged f item) (length (places_of (geometry_of f) (geometry item))) j.positions (λ e. (judged.read e).positions) (λ e. (judged.passed e).positions)

pub finds_in_items : (f : File) (items : List Json) (a b : List Finding) → Adds (Among (λ k item. FindsInItem f k item) items) a b → Adds (FindsInItems f items) a b
finds_in_items f items a b adds = Adds-same (FindsInItems f items) adds
    (λ x h. record { place = h.place; item = h.item; there = h.there; finds = h.holds })
    (λ x h. record { place = h.place; item = h.item; there = h.there; holds = h.finds })

pub notes_in_items : (f : File) (items : List Json) (a b : List Note) → Adds (Among (λ k item. NotesInItem f k item) items) a b → Adds (NotesInItems f items) a b
notes_in_items f items a b adds = Adds-same (NotesInItems f items) adds
    (λ x h. record { place = h.place; item = h.item; there = h.there; notes = h.holds })
    (λ x h. record { place = h.place; item = h.item; there = h.there; holds = h.notes })

map_push : {X Y : Type 0} (v : X → Y) (xs : List X) (x : X) → map v (xs ++ x ∷ []) ≡ map v xs ++ v x ∷ []
map_push v [] x = refl
map_push v (y ∷ ys) x = ap (λ zs. v y ∷ zs) (map_push v ys x)

pub map_more : {X Y : Type 0} (v : X → Y) (xs : List X) (k : ℕ) (x : X) → k < length xs → x ≡ get_or xs k x → map v (take (k + 1) xs) ≡ map v (take k xs) ++ v x ∷ []
map_more v xs k x within is = ap (map v) (take_more xs k x within ∙ ap (λ y. take k xs ++ y ∷ []) (sym is)) ∙ map_push v (take k xs) x

sum_one : {X : Type 0} (f : X → ℕ) (x : X) → sum_by f (x ∷ []) ≡ f x
sum_one f x = zero-add (f x)

pub sum_push : {X : Type 0} (f : X → ℕ) (xs : List X) (x : X) → sum_by f (xs ++ x ∷ []) ≡ sum_by f xs + f x
sum_push f xs x = sum_by-append f xs (x ∷ []) ∙ ap (λ (n : ℕ). sum_by f xs + n) (sum_one f x)

-- one item's positions more, as far as the count goes
pub more_positions : (f : Json → ℕ) (js : List Json) (j : Json) (all : List Json) (old one new : ℕ) → all ≡ js ++ j ∷ []
    → old ≡ min (sum_by f js) (2 ^ 64 - 1) → one ≡ min (f j) (2 ^ 64 - 1) → new ≡ min (old + one) (2 ^ 64 - 1) → new ≡ min (sum_by f all) (2 ^ 64 - 1)
more_positions f js j all old one new is before here after =
    let sum : sum_by f all ≡ sum_by f js + f j = ap (sum_by f) is ∙ sum_push f js j in
    omega arith

take_past : {X : Type 0} (xs : List X) (k : ℕ) → length xs ≤ k → take k xs ≡ xs
take_past [] zero h = refl
take_past [] (suc k) h = refl
take_past (x ∷ xs) zero h = absurd (omega arith)
take_past (x ∷ xs) (suc k) h = ap (λ ys. x ∷ ys) (take_past xs k (omega arith))

-- what is taken, once all items are
pub takes_all : {T Row : Type 0} (v : T → Json) (IsRow : Json → Row → Type 0) (f : File) (trees : List T) (k : ℕ) (taken : Taken Row) → length trees ≤ k
    → (((x : Finding) → ¬ Below (λ n item. FindsInItem f n item) (map v trees) k x) → AllZip IsRow (map v (take k trees)) taken.rows.items)
    → taken.items ≡ length trees → taken.positions ≡ min (sum_by (item_positions f) (map v (take k trees))) (2 ^ 64 - 1)
    → TakesItems IsRow f (map v trees) taken
takes_all {T} {Row} v IsRow f trees k taken past rows items positions =
    let all : take k trees ≡ trees = take_past trees k past in
    record {
      rows = λ sound. subst (λ (ts : List T). AllZip IsRow (map v ts) taken.rows.items) all
          (rows (λ x h. sound x (record { place = h.place; item = h.item; there = h.there; finds = h.holds })));
      items = items ∙ sym (length-map trees v);
      positions = positions ∙ ap (λ (ts : List T). min (sum_by (item_positions f) (map v ts)) (2 ^ 64 - 1)) all;
    }
