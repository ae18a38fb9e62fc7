-- Lines, rings, polygons and lists of polygons.
use Rattle.std.proofs.Common.{◌≡◌, ℕ, ◌-◌, ◌^◌, ◌<◌, ◌≤◌, min, List, [], ◌∷◌, ◌++◌, length, Any, Bool, true, false, not, is_some, ◌||◌, IsTrue, Option, Some, None, Vec, IfSome, IsSome, inl, inr, ◌↔◌, refl, sym, ap, ◌∙◌, subst, arith}
use Rattle.std.specs.List.{flat_map, AllZip}
use Rattle.std.proofs.lemmas.List.{append-nil}
use Rattle.std.proofs.lemmas.Grind.{flat_map-append}
use Rattle.std.proofs.lemmas.Slice.Zip.{AllZip-long}
use Rattle.exact_json.specs.Json.{Json, list_values}
use Rattle.geo_decimal.specs.Laws.{HasOneValue}
use Rattle.venue_types.specs.declared.point.Point.{Point}
use Rattle.venue_types.specs.declared.point.Line.{Line}
use Rattle.venue_types.specs.declared.point.Ring.{Ring}
use Rattle.venue_types.specs.declared.point.Part.{Part}
use Rattle.venue_types.specs.declared.point.Shape.{Shape}
use Rattle.geo_shapes.specs.declared.read_geometry.ReadGeometry.{ReadGeometry}
use Rattle.geo_shapes.specs.declared.gathered.Gathered.{Gathered}
use Rattle.geo_shapes.specs.Values.{listed, IsList}
use Rattle.geo_shapes.specs.Position.{IsPosition, IsNoPosition, BreaksPositions}
use Rattle.geo_shapes.specs.Figure.{IsLine, IsRing, IsPolygon, BreaksLine, BreaksRing, BreaksPolygon}
use Rattle.geo_shapes.specs.Geometry.{longest_of}
use Rattle.geo_shapes.specs.Reading.{Reads, ReadsLine, ReadsRing, ReadsPolygon, ReadsShape, ReadsPositions, GathersRings, GathersPolygons, Draws, Closes, Encloses, Holds, IsBadRing, IsBadList, IsOf, MakesShape, BreaksOf, polygon_positions}
use Rattle.geo_shapes.proofs.Positions.{listed_is}
use Rattle.geo_shapes.proofs.Lists.{any_cons, any_none, any_here}
use Rattle.geo_shapes.proofs.Rings.{closed_ring}

-- a list whose items are known is one
pub is_list : (value : Json) (xs : List Json) → Some xs ≡ list_values value → IsList value
is_list value xs is = ap is_some (sym is)

zip_any : (xs : List Json) (ys : List Point) → AllZip IsPosition xs ys → Any IsNoPosition xs → ⊥
zip_any [] ys h any = any_none IsNoPosition any
zip_any (x ∷ xs) [] h any = absurd h
zip_any (x ∷ xs) (y ∷ ys) h any = elim (any_cons IsNoPosition x xs any) [ inl none ↦ none y h.0 | inr rest ↦ zip_any xs ys h.1 rest ]

-- one of the values is no position where the points aren't known
positions_flag : {Z : Type 0} (xs : List Json) (found : Option (Vec Point Z)) (bad : Bool) → ReadsPositions xs found → is_some found ≡ not bad → IsTrue bad ↔ BreaksPositions xs
positions_flag xs None true reads is = (λ _. reads, λ _. refl)
positions_flag xs None false reads is = absurd (cc)
positions_flag xs (Some v) true reads is = absurd (cc)
positions_flag xs (Some v) false reads is = (λ t. absurd (cc), λ any. absurd (zip_any xs v.items reads any))

closes_there : {Z : Type 0} (found : Option (Vec Point Z)) (bad_position bad_form : Bool) (made : Option Ring) → is_some found ≡ not bad_position → Closes found bad_form made
    → IsSome made ↔ ((bad_position ≡ false) × (bad_form ≡ false))
closes_there None true b made is made_is = (λ s. absurd (cc), λ p. absurd (let e = p.0 in cc))
closes_there None false b made is made_is = absurd (cc)
closes_there (Some v) true b made is made_is = absurd (cc)
closes_there (Some v) false true made is made_is = (λ s. absurd (cc), λ p. absurd (let e = p.1 in cc))
closes_there (Some v) false false made is made_is = (λ _. (refl, refl), λ _. ap is_some made_is)

draws_there : {Z : Type 0} (found : Option (Vec Point Z)) (bad_position bad_form : Bool) (made : Option Line) → is_some found ≡ not bad_position → Draws found bad_form made
    → IsSome made ↔ ((bad_position ≡ false) × (bad_form ≡ false))
draws_there None true b made is made_is = (λ s. absurd (cc), λ p. absurd (let e = p.0 in cc))
draws_there None false b made is made_is = absurd (cc)
draws_there (Some v) true b made is made_is = absurd (cc)
draws_there (Some v) false true made is made_is = (λ s. absurd (cc), λ p. absurd (let e = p.1 in cc))
draws_there (Some v) false false made is made_is = (λ _. (refl, refl), λ _. ap is_some made_is)

closes_value : {Z : Type 0} → HasOneValue → (value : Json) (found : Option (Vec Point Z)) (bad_form : Bool) (made : Option Ring) → ReadsPositions (listed value) found
    → IsTrue bad_form ↔ IsBadRing (listed value) → Closes found bad_form made → IfSome made (IsRing value)
closes_value one value None b made reads form is = let P : Option Ring → Type 0 = λ o. IfSome o (IsRing value) in subst P (sym is) tt
closes_value one value (Some v) true made reads form is = let P : Option Ring → Type 0 = λ o. IfSome o (IsRing value) in subst P (sym is) tt
closes_value one value (Some v) false made reads form is =
    let P : Option Ring → Type 0 = λ o. IfSome o (IsRing value) in
    let long : length v.items ≡ length (listed value) = AllZip-long IsPosition (listed value) v.items reads in
    let enough : ¬ (length (listed value) < 4) = λ few. absurd (let e = form.1 (inl few) in cc) in
    let four : 4 ≤ length v.items = omega (arith, enough) in
    let some : 0 < length v.items = omega arith in
    subst P (sym is) (record { points = reads; four = four; closed = closed_ring one (listed value) v.items some reads (λ o. absurd (let e = form.1 (inr o) in cc)) })

draws_value : {Z : Type 0} (value : Json) (found : Option (Vec Point Z)) (bad_form : Bool) (made : Option Line) → ReadsPositions (listed value) found
    → IsTrue bad_form ↔ (length (listed value) < 2) → Draws found bad_form made → IfSome made (IsLine value)
draws_value value None b made reads form is = let P : Option Line → Type 0 = λ o. IfSome o (IsLine value) in subst P (sym is) tt
draws_value value (Some v) true made reads form is = let P : Option Line → Type 0 = λ o. IfSome o (IsLine value) in subst P (sym is) tt
draws_value value (Some v) false made reads form is =
    let P : Option Line → Type 0 = λ o. IfSome o (IsLine value) in
    let long : length v.items ≡ length (listed value) = AllZip-long IsPosition (listed value) v.items reads in
    let enough : ¬ (length (listed value) < 2) = λ few. absurd (let e = form.1 few in cc) in
    let two : 2 ≤ length v.items = omega (arith, enough) in
    subst P (sym is) (record { points = reads; two = two })

ring_form : (value : Json) (bad : Bool) → IsList value → IsTrue bad ↔ IsBadRing (listed value) → IsTrue bad ↔ BreaksRing value
ring_form value bad list form = (
  λ t. elim (form.0 t) [ inl few ↦ BreaksRing.too_few few | inr o ↦ BreaksRing.not_closed o ],
  λ breaks. elim breaks [ BreaksRing.no_list none ↦ absurd (none list) | BreaksRing.too_few few ↦ form.1 (inl few) | BreaksRing.not_closed o ↦ form.1 (inr o) ],
)

line_form : (value : Json) (bad : Bool) → IsList value → IsTrue bad ↔ (length (listed value) < 2) → IsTrue bad ↔ BreaksLine value
line_form value bad list form = (
  λ t. BreaksLine.too_few (form.0 t),
  λ breaks. elim breaks [ BreaksLine.no_list none ↦ absurd (none list) | BreaksLine.too_few few ↦ form.1 few ],
)

-- what is read of a ring
pub ring_read : {Z : Type 0} → HasOneValue → (value : Json) (xs : List Json) (found : Option (Vec Point Z)) (bad_position bad_form : Bool) (made : Option Ring) (n : ℕ)
    → Some xs ≡ list_values value → ReadsPositions xs found → is_some found ≡ not bad_position → IsTrue bad_form ↔ IsBadRing xs → Closes found bad_form made → n ≡ length xs → n < 2 ^ 64
    → ReadsRing value (record { value = made; bad_position = bad_position; bad_form = bad_form; positions = n; longest = n })
ring_read {Z} one value xs found bad_position bad_form made n is reads known form closes many small =
    let e : listed value ≡ xs = listed_is value xs is in
    let P : List Json → Type 0 = λ zs. ReadsPositions zs found in
    let Q : List Json → Type 0 = λ zs. IsTrue bad_form ↔ IsBadRing zs in
    let reads' = subst P (sym e) reads in
    let form' = subst Q (sym e) form in
    let count : length (listed value) ≡ length xs = ap length e in
    record {
      value = closes_value one value found bad_form made reads' form' closes;
      there = closes_there found bad_position bad_form made known closes;
      bad_position = positions_flag (listed value) found bad_position reads' known;
      bad_form = ring_form value bad_form (is_list value xs is) form';
      positions = omega arith;
      longest = omega arith;
    }

-- what is read of a line
pub line_read : {Z : Type 0} → (value : Json) (xs : List Json) (found : Option (Vec Point Z)) (bad_position bad_form : Bool) (made : Option Line) (n : ℕ)
    → Some xs ≡ list_values value → ReadsPositions xs found → is_some found ≡ not bad_position → IsTrue bad_form ↔ (length xs < 2) → Draws found bad_form made → n ≡ length xs → n < 2 ^ 64
    → ReadsLine value (record { value = made; bad_position = bad_position; bad_form = bad_form; positions = n; longest = 0 })
line_read {Z} value xs found bad_position bad_form made n is reads known form draws many small =
    let e : listed value ≡ xs = listed_is value xs is in
    let P : List Json → Type 0 = λ zs. ReadsPositions zs found in
    let Q : List Json → Type 0 = λ zs. IsTrue bad_form ↔ (length zs < 2) in
    let reads' = subst P (sym e) reads in
    let form' = subst Q (sym e) form in
    let count : length (listed value) ≡ length xs = ap length e in (
      record {
        value = draws_value value found bad_form made reads' form' draws;
        there = draws_there found bad_position bad_form made known draws;
        bad_position = positions_flag (listed value) found bad_position reads' known;
        bad_form = line_form value bad_form (is_list value xs is) form';
        positions = omega arith;
        longest = refl;
      },
      many ∙ sym count,
    )

no_items : (value : Json) → None ≡ list_values value → listed value ≡ []
no_items value is = let e = sym is in rw e refl

none_listed : (value : Json) → None ≡ list_values value → ¬ IsList value
none_listed value is list = let e : false ≡ is_some (list_values value) = ap is_some is in cc

-- what is read where a list was to stand and none does
pub none_read : {T : Type 0} (Is : T → Type 0) (Breaks : Type 0) (places rings : List Json) → places ≡ [] → longest_of rings ≡ 0 → Breaks
    → Reads Is Breaks places rings (record { value = None; bad_position = false; bad_form = true; positions = 0; longest = 0 })
none_read Is Breaks places rings no_places no_rings breaks = record {
  value = tt;
  there = (λ s. absurd (cc), λ p. absurd (let e = p.1 in cc));
  bad_position = (λ t. absurd (cc), λ any. absurd (let P : List Json → Type 0 = BreaksPositions in any_none IsNoPosition (subst P no_places any)));
  bad_form = (λ _. breaks, λ _. refl);
  positions = let e : length places ≡ 0 = ap length no_places in omega arith;
  longest = sym no_rings;
}

pub none_ring : (value : Json) → None ≡ list_values value → ReadsRing value (record { value = None; bad_position = false; bad_form = true; positions = 0; longest = 0 })
none_ring value is =
    let e = no_items value is in
    let short : length (listed value) ≡ 0 = ap length e in
    none_read (IsRing value) (BreaksRing value) (listed value) (value ∷ []) e (omega arith) (BreaksRing.no_list (none_listed value is))

pub none_line : (value : Json) → None ≡ list_values value → ReadsLine value (record { value = None; bad_position = false; bad_form = true; positions = 0; longest = 0 })
none_line value is =
    let e = no_items value is in
    (none_read (IsLine value) (BreaksLine value) (listed value) [] e refl (BreaksLine.no_list (none_listed value is)), sym (ap length e))

pub none_polygon : (value : Json) → None ≡ list_values value → ReadsPolygon value (record { value = None; bad_position = false; bad_form = true; positions = 0; longest = 0 })
none_polygon value is =
    let e = no_items value is in
    none_read (IsPolygon value) (BreaksPolygon value) (polygon_positions value) (listed value) (ap (flat_map listed) e) (ap longest_of e) (BreaksPolygon.no_list (none_listed value is))

-- no polygons are no shape
pub none_shape : (polygons : List Json) → flat_map listed polygons ≡ [] → BreaksOf polygons → ReadsShape polygons (record { value = None; bad_position = false; bad_form = true; positions = 0; longest = 0 })
none_shape polygons e breaks = none_read (IsOf polygons) (BreaksOf polygons) (flat_map listed (flat_map listed polygons)) (flat_map listed polygons) (ap (flat_map listed) e) (ap longest_of e) breaks

form_false : (bad_form bad : Bool) (values : List Json) → IsTrue bad ↔ IsBadList bad_form values → bad ≡ false → bad_form ≡ false
form_false true bad values form off = absurd (let e = form.1 (inl refl) in cc)
form_false false bad values form off = refl

some_values : (bad_form bad : Bool) (values : List Json) → IsTrue bad ↔ IsBadList bad_form values → bad ≡ false → 0 < length values
some_values bad_form bad [] form off = absurd (let e = form.1 (inr refl) in cc)
some_values bad_form bad (x ∷ xs) form off = omega arith

-- the rings of a polygon that breaks no rule are there
pub rings_there : (values : List Json) (g : Gathered Ring) (bad : Bool) → GathersRings values g → IsTrue bad ↔ IsBadList g.bad_form values → g.bad_position ≡ false → bad ≡ false → 0 < length g.figures.items
rings_there values g bad gathers form p f =
    let long = AllZip-long IsRing values g.figures.items (gathers.figures p (form_false g.bad_form bad values form f)) in
    let some = some_values g.bad_form bad values form f in
    omega arith

made_there : (rings : List Ring) (p f : Bool) (made : Option Part) → Encloses rings (p || f) made → IsSome made ↔ ((p ≡ false) × (f ≡ false))
made_there rings true f made is = (λ s. absurd (let e = ap is_some is in cc), λ q. absurd (let e = q.0 in cc))
made_there rings false true made is = (λ s. absurd (let e = ap is_some is in cc), λ q. absurd (let e = q.1 in cc))
made_there rings false false None is = absurd is
made_there rings false false (Some part) is = (λ _. (refl, refl), λ _. refl)

made_value : (value : Json) (rings : List Ring) (p f : Bool) (made : Option Part) → Encloses rings (p || f) made → (p ≡ false → f ≡ false → AllZip IsRing (listed value) rings) → IfSome made (IsPolygon value)
made_value value rings true f None is zip = tt
made_value value rings true f (Some part) is zip = absurd (cc)
made_value value rings false true None is zip = tt
made_value value rings false true (Some part) is zip = absurd (cc)
made_value value rings false false None is zip = tt
made_value value rings false false (Some part) is zip = let P : List Ring → Type 0 = λ zs. AllZip IsRing (listed value) zs in record { rings = subst P (sym is) (zip refl refl) }

flat_map_own : (xs : List Json) → flat_map (λ value. value ∷ []) xs ≡ xs
flat_map_own [] = refl
flat_map_own (x ∷ xs) = ap (λ ys. x ∷ ys) (flat_map_own xs)

flat_map-flat_map : (f g : Json → List Json) (xs : List Json) → flat_map f (flat_map g xs) ≡ flat_map (λ x. flat_map f (g x)) xs
flat_map-flat_map f g [] = refl
flat_map-flat_map f g (x ∷ xs) = flat_map-append f (g x) (flat_map g xs) ∙ ap (λ ys. flat_map f (g x) ++ ys) (flat_map-flat_map f g xs)

polygon_form : (value : Json) (bad_form bad : Bool) → IsList value → IsTrue bad_form ↔ Any BreaksRing (listed value) → IsTrue bad ↔ IsBadList bad_form (listed value) → IsTrue bad ↔ BreaksPolygon value
polygon_form value bad_form bad list rings form = (
  λ t. elim (form.0 t) [ inl b ↦ BreaksPolygon.bad_ring (rings.0 b) | inr e ↦ BreaksPolygon.no_ring e ],
  λ breaks. elim breaks [ BreaksPolygon.no_list none ↦ absurd (none list) | BreaksPolygon.no_ring e ↦ form.1 (inr e) | BreaksPolygon.bad_ring any ↦ form.1 (inl (rings.1 any)) ],
)

-- what is read of a polygon
pub polygon_read : (value : Json) (xs : List Json) (g : Gathered Ring) (bad : Bool) (made : Option Part)
    → Some xs ≡ list_values value → GathersRings xs g → IsTrue bad ↔ IsBadList g.bad_form xs → Encloses g.figures.items (g.bad_position || bad) made
    → ReadsPolygon value (record { value = made; bad_position = g.bad_position; bad_form = bad; positions = g.positions; longest = g.longest })
polygon_read value xs g bad made is gathers form encloses =
    let e : listed value ≡ xs = listed_is value xs is in
    let P : List Json → Type 0 = λ zs. GathersRings zs g in
    let Q : List Json → Type 0 = λ zs. IsTrue bad ↔ IsBadList g.bad_form zs in
    let all = subst P (sym e) gathers in
    let form' = subst Q (sym e) form in
    record {
      value = made_value value g.figures.items g.bad_position bad made encloses (λ p f. all.figures p (form_false g.bad_form bad (listed value) form' f));
      there = made_there g.figures.items g.bad_position bad made encloses;
      bad_position = all.bad_position;
      bad_form = polygon_form value g.bad_form bad (is_list value xs is) all.bad_form form';
      positions = all.positions;
      longest = all.longest ∙ ap longest_of (flat_map_own (listed value));
    }

holds_there : (parts : List Part) (p f : Bool) (made : Option Shape) → Holds parts (p || f) made → IsSome made ↔ ((p ≡ false) × (f ≡ false))
holds_there parts true f made is = (λ s. absurd (let e = ap is_some is in cc), λ q. absurd (let e = q.0 in cc))
holds_there parts false true made is = (λ s. absurd (let e = ap is_some is in cc), λ q. absurd (let e = q.1 in cc))
holds_there parts false false made is = (λ _. (refl, refl), λ _. ap is_some is)

holds_value : (polygons : List Json) (parts : List Part) (p f : Bool) (made : Option Shape) → Holds parts (p || f) made → (p ≡ false → f ≡ false → AllZip IsPolygon polygons parts × (0 < length polygons)) → IfSome made (IsOf polygons)
holds_value polygons parts true f made is zip = let P : Option Shape → Type 0 = λ o. IfSome o (IsOf polygons) in subst P (sym is) tt
holds_value polygons parts false true made is zip = let P : Option Shape → Type 0 = λ o. IfSome o (IsOf polygons) in subst P (sym is) tt
holds_value polygons parts false false made is zip =
    let P : Option Shape → Type 0 = λ o. IfSome o (IsOf polygons) in
    let found = zip refl refl in
    let long = AllZip-long IsPolygon polygons parts found.0 in
    let some = found.1 in
    subst P (sym is) (record { parts = found.0; one = omega arith })

several_form : (polygons : List Json) (bad_form bad : Bool) → IsTrue bad_form ↔ Any BreaksPolygon polygons → IsTrue bad ↔ IsBadList bad_form polygons → IsTrue bad ↔ BreaksOf polygons
several_form polygons bad_form bad any form = (
  λ t. elim (form.0 t) [ inl b ↦ inr (any.0 b) | inr e ↦ inl e ],
  λ breaks. elim breaks [ inl e ↦ form.1 (inr e) | inr b ↦ form.1 (inl (any.1 b)) ],
)

-- what is read of several polygons
pub several_read : (polygons : List Json) (g : Gathered Part) (bad : Bool) (made : Option Shape)
    → GathersPolygons polygons g → IsTrue bad ↔ IsBadList g.bad_form polygons → Holds g.figures.items (g.bad_position || bad) made
    → ReadsShape polygons (record { value = made; bad_position = g.bad_position; bad_form = bad; positions = g.positions; longest = g.longest })
several_read polygons g bad made gathers form holds =
    let same : flat_map polygon_positions polygons ≡ flat_map listed (flat_map listed polygons) = sym (flat_map-flat_map listed listed polygons) in
    let P : List Json → Type 0 = λ zs. IsTrue g.bad_position ↔ BreaksPositions zs in
    record {
      value = holds_value polygons g.figures.items g.bad_position bad made holds (λ p f. (gathers.figures p (form_false g.bad_form bad polygons form f), some_values g.bad_form bad polygons form f));
      there = holds_there g.figures.items g.bad_position bad made holds;
      bad_position = subst P same gathers.bad_position;
      bad_form = several_form polygons g.bad_form bad gathers.bad_form form;
      positions = gathers.positions ∙ ap (λ zs. min (length zs) (2 ^ 64 - 1)) same;
      longest = gathers.longest;
    }

single_there : (part : Option Part) (made : Option Shape) → MakesShape part made → IsSome made ↔ IsSome part
single_there None made is = (λ s. absurd (let e = ap is_some is in cc), λ s. absurd (cc))
single_there (Some p) None is = absurd is
single_there (Some p) (Some s) is = (λ _. refl, λ _. refl)

single_form : (value : Json) → BreaksOf (value ∷ []) → BreaksPolygon value
single_form value (inl e) = absurd (cc)
single_form value (inr any) = elim (any_cons BreaksPolygon value [] any) [ inl b ↦ b | inr b ↦ absurd (any_none BreaksPolygon b) ]

single_value : (value : Json) (part : Option Part) (made : Option Shape) → IfSome part (IsPolygon value) → MakesShape part made → IfSome made (IsOf (value ∷ []))
single_value value None made is makes = let P : Option Shape → Type 0 = λ o. IfSome o (IsOf (value ∷ [])) in subst P (sym makes) tt
single_value value (Some p) None is makes = tt
single_value value (Some p) (Some s) is makes =
    let Q : List Part → Type 0 = λ zs. AllZip IsPolygon (value ∷ []) zs in
    let count : length s.parts ≡ 1 = ap length makes in
    record { parts = subst Q (sym makes) (is, tt); one = omega arith }

-- what is read of one polygon, as a shape
pub single_read : (value : Json) (read : ReadGeometry Part) (made : Option Shape) → ReadsPolygon value read → MakesShape read.value made
    → ReadsShape (value ∷ []) (record { value = made; bad_position = read.bad_position; bad_form = read.bad_form; positions = read.positions; longest = read.longest })
single_read value read made reads makes =
    let same : flat_map listed (value ∷ []) ≡ listed value = append-nil (listed value) in
    let same_places : flat_map listed (flat_map listed (value ∷ [])) ≡ polygon_positions value = ap (flat_map listed) same in
    let there = single_there read.value made makes in
    let P : List Json → Type 0 = λ zs. IsTrue read.bad_position ↔ BreaksPositions zs in
    record {
      value = single_value value read.value made reads.value makes;
      there = (λ s. reads.there.0 (there.0 s), λ p. there.1 (reads.there.1 p));
      bad_position = subst P (sym same_places) reads.bad_position;
      bad_form = (λ t. inr (any_here BreaksPolygon value [] (reads.bad_form.0 t)), λ breaks. reads.bad_form.1 (single_form value breaks));
      positions = reads.positions ∙ ap (λ zs. min (length zs) (2 ^ 64 - 1)) (sym same_places);
      longest = reads.longest ∙ ap longest_of (sym same);
    }
