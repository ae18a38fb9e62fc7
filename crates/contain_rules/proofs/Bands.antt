-- Bands of rows' shapes, place by place.
use Rattle.std.proofs.Common.{◌≡◌, ◌∙◌, ℕ, ◌+◌, ◌<◌, List, [], ◌∷◌, ◌++◌, length, get_or, take, map, refl, sym, ap, subst, Some}
use Rattle.std.specs.Prelude.{slice_get, Contains}
use Rattle.std.proofs.lemmas.List.{take_more, map-append}
use Rattle.std.proofs.lemmas.Option.{slice_get_within, slice_get_read, get_or_from_slice_get, same_Some}
use Rattle.venue_types.proofs.Items.{at_map}
use Rattle.venue_types.specs.declared.point.Shape.{Shape}
use Rattle.plane_exact.specs.Figure.{AllClose, vertices}
use Rattle.contain_rules.specs.Banding.{AreCloseShapes, AreBanded}

-- the shape of the row at hand is one of them
shape_there : {R : Type 0} (shape_of : R → Shape) (rows : List R) (i : ℕ) (row : R) → i < length rows → row ≡ get_or rows i row → Contains (map shape_of rows) (shape_of row)
shape_there shape_of rows i row within is =
    let at = at_map shape_of rows i row (slice_get_read rows (length rows) i row refl within is) in
    (i, slice_get_within (map shape_of rows) i (shape_of row) at, get_or_from_slice_get (map shape_of rows) i (shape_of row) (shape_of row) at)

pub row_close : {R : Type 0} (shape_of : R → Shape) (rows : List R) (i : ℕ) (row : R) (shape : Shape) → i < length rows → row ≡ get_or rows i row → shape ≡ shape_of row → AreCloseShapes (map shape_of rows) → AllClose (vertices shape)
row_close shape_of rows i row shape within is same close =
    subst (λ (s : Shape). AllClose (vertices s)) (sym same) (close.close (shape_of row) (shape_there shape_of rows i row within is))

-- one row more
pub banded_more : {R : Type 0} (shape_of : R → Shape) (rows : List R) (i : ℕ) (row : R) (bands new : List Shape) (shape band : Shape) → i < length rows → row ≡ get_or rows i row → shape ≡ shape_of row → band ≡ shape
    → new ≡ bands ++ band ∷ [] → AreBanded (map shape_of (take i rows)) bands → AreBanded (map shape_of (take (i + 1) rows)) new
banded_more {R} shape_of rows i row bands new shape band within is same made more before =
    let rows_more : take (i + 1) rows ≡ take i rows ++ row ∷ [] = take_more rows i row within ∙ ap (λ (y : R). take i rows ++ y ∷ []) (sym is) in
    let shapes_more : map shape_of (take (i + 1) rows) ≡ map shape_of (take i rows) ++ shape_of row ∷ [] = ap (map shape_of) rows_more ∙ map-append shape_of (take i rows) (row ∷ []) in
    let joined : bands ++ band ∷ [] ≡ map shape_of (take i rows) ++ shape_of row ∷ [] = ap (λ (list : List Shape). list ++ band ∷ []) before ∙ ap (λ (s : Shape). map shape_of (take i rows) ++ s ∷ []) (made ∙ same) in
    more ∙ joined ∙ sym shapes_more

-- the bands at a row's place are those of its shape
pub band_within : {R : Type 0} (shape_of : R → Shape) (rows : List R) (bands : List Shape) (k : ℕ) (row : R) → AreBanded (map shape_of rows) bands → slice_get rows k ≡ Some row → k < length bands
band_within shape_of rows bands k row all at =
    slice_get_within bands k (shape_of row) (ap (λ (list : List Shape). slice_get list k) all ∙ at_map shape_of rows k row at)

pub the_band : {R : Type 0} (shape_of : R → Shape) (rows : List R) (bands : List Shape) (k : ℕ) (row : R) (band : Shape) → AreBanded (map shape_of rows) bands → slice_get rows k ≡ Some row → band ≡ get_or bands k band → band ≡ shape_of row
the_band shape_of rows bands k row band all at is =
    let there : slice_get bands k ≡ Some (shape_of row) = ap (λ (list : List Shape). slice_get list k) all ∙ at_map shape_of rows k row at in
    same_Some band (shape_of row) (sym (slice_get_read bands (length bands) k band refl (slice_get_within bands k (shape_of row) there) is) ∙ there)
