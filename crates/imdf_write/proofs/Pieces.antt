-- Pieces that are added one behind the other, and the texts that they make.
use Rattle.std.proofs.Common.{◌≡◌, ℕ, ◌-◌, ◌^◌, ◌<◌, ◌≤◌, List, [], ◌∷◌, ◌++◌, refl, sym, ap, ◌∙◌, append_assoc, arith, codes}
use Rattle.std.proofs.lemmas.List.{append-nil}
use Rattle.json_text.specs.Compact.{quoted, escaped}
use Rattle.json_text.specs.Drafts.{Drafted, fresh, onto}
use Rattle.json_text.proofs.Drafts.{fresh_counts, fresh_holds, fresh_room, onto_twice}
use Rattle.venue_types.specs.declared.feature_id.FeatureId.{FeatureId}
use Rattle.venue_types.specs.declared.folder_file.File.{File}
use Rattle.venue_types.specs.FolderFiles.{type_name}
use Rattle.venue_types.specs.Identifier.{identifier_text}

-- the draft behind whose text pieces were added
abbrev pub with_pieces : Drafted → List (List ℕ) → Drafted
with_pieces out [] = out
with_pieces out (piece ∷ pieces) = with_pieces (onto out piece) pieces

-- the pieces, one behind the other
abbrev pub joined : List (List ℕ) → List ℕ
joined [] = []
joined (piece ∷ pieces) = piece ++ joined pieces

pub with_pieces-end : (out : Drafted) (end : List ℕ) (pieces : List (List ℕ)) → onto (with_pieces out pieces) end ≡ onto out (joined pieces ++ end)
with_pieces-end out end [] = refl
with_pieces-end out end (piece ∷ pieces) =
    with_pieces-end (onto out piece) end pieces ∙ onto_twice out piece (joined pieces ++ end) ∙ ap (λ s. onto out s) (sym (append_assoc piece (joined pieces) end))

-- what stands in front of a feature's geometry, in front of its properties, and behind them
abbrev pub begun : File → List ℕ
begun f = codes "{\"feature_type\":" ++ quoted (type_name f) ++ codes ",\"geometry\":"

abbrev pub identified : FeatureId → List ℕ
identified id = codes ",\"id\":" ++ quoted (identifier_text id) ++ codes ",\"properties\":{"

abbrev pub ended : List ℕ
ended = codes "},\"type\":\"Feature\"}"

-- the compact text of a feature whose geometry and properties have these texts
abbrev pub feature_text : File → List ℕ → FeatureId → List ℕ → List ℕ
feature_text f geometry id properties =
    123 ∷ (((quoted (codes "feature_type") ++ 58 ∷ quoted (type_name f))
    ++ 44 ∷ ((quoted (codes "geometry") ++ 58 ∷ geometry)
    ++ 44 ∷ ((quoted (codes "id") ++ 58 ∷ quoted (identifier_text id))
    ++ 44 ∷ ((quoted (codes "properties") ++ 58 ∷ (123 ∷ (properties ++ 125 ∷ [])))
    ++ 44 ∷ ((quoted (codes "type") ++ 58 ∷ quoted (codes "Feature")) ++ []))))) ++ 125 ∷ [])

feature_shape : (k : ℕ) (a t q b g c i d p r s : List ℕ)
    → (((a ++ k ∷ (t ++ q)) ++ b) ++ (g ++ (((c ++ k ∷ (i ++ q)) ++ d) ++ p))) ++ (r ++ (s ++ r))
    ≡ a ++ k ∷ (((t ++ q) ++ (b ++ (g ++ (c ++ k ∷ ((i ++ q) ++ (d ++ ((p ++ r) ++ s))))))) ++ r)
feature_shape k a t q b g c i d p r s = simp append_assoc

feature_of_parts : (f : File) (geometry : List ℕ) (id : FeatureId) (properties : List ℕ)
    → (begun f ++ (geometry ++ (identified id ++ properties))) ++ ended ≡ feature_text f geometry id properties
feature_of_parts f geometry id properties =
    feature_shape 34 (codes "{\"feature_type\":") (escaped (type_name f)) (34 ∷ []) (codes ",\"geometry\":") geometry
    (codes ",\"id\":") (escaped (identifier_text id)) (codes ",\"properties\":{") properties (125 ∷ []) (codes ",\"type\":\"Feature\"")

pub feature_of_pieces : (out : Drafted) (f : File) (geometry : List ℕ) (id : FeatureId) (pieces : List (List ℕ))
    → onto (with_pieces (onto (onto (onto out (begun f)) geometry) (identified id)) pieces) ended ≡ onto out (feature_text f geometry id (joined pieces))
feature_of_pieces out f geometry id pieces =
    with_pieces-end out ended (begun f ∷ geometry ∷ identified id ∷ pieces) ∙ ap (λ s. onto out s) (feature_of_parts f geometry id (joined pieces))

-- three pieces
pub three : (out : Drafted) (a b c : List ℕ) → onto (onto (onto out a) b) c ≡ onto out (a ++ (b ++ c))
three out a b c = onto_twice (onto out a) b c ∙ onto_twice out a (b ++ c)

-- four pieces
pub four : (out : Drafted) (a b c d : List ℕ) → onto (onto (onto (onto out a) b) c) d ≡ onto out (a ++ (b ++ (c ++ d)))
four out a b c d = three (onto out a) b c d ∙ onto_twice out a (b ++ (c ++ d))

-- five pieces
pub five : (out : Drafted) (a b c d e : List ℕ) → onto (onto (onto (onto (onto out a) b) c) d) e ≡ onto out (a ++ (b ++ (c ++ (d ++ e))))
five out a b c d e = four (onto out a) b c d e ∙ onto_twice out a (b ++ (c ++ (d ++ e)))

-- two pieces between brackets
pub enclosed : (out : Drafted) (front : ℕ) (a b : List ℕ) (close : List ℕ) → onto (onto (onto (onto out (front ∷ [])) a) b) close ≡ onto out (front ∷ ((a ++ b) ++ close))
enclosed out front a b close = four out (front ∷ []) a b close ∙ ap (λ s. onto out (front ∷ s)) (sym (append_assoc a b close))

-- three pieces, of which the text is written from the left
pub three_from_left : (out : Drafted) (a b c : List ℕ) → onto (onto (onto out a) b) c ≡ onto out ((a ++ b) ++ c)
three_from_left out a b c = three out a b c ∙ ap (λ s. onto out s) (sym (append_assoc a b c))

-- a reference of its type and its identifier
pub reference_shape : (k : ℕ) (a t q b i r : List ℕ)
    → a ++ ((k ∷ (t ++ q)) ++ (b ++ ((k ∷ (i ++ q)) ++ r))) ≡ a ++ k ∷ (((t ++ q) ++ (b ++ k ∷ ((i ++ q) ++ []))) ++ r)
reference_shape k a t q b i r = simp (append_assoc, append-nil)

-- a geometry of its coordinates and its type
pub geometry_shape : (out : Drafted) (front coordinates type brace : List ℕ)
    → onto (onto (onto out front) coordinates) (type ++ brace) ≡ onto out (front ++ ((coordinates ++ type) ++ brace))
geometry_shape out front coordinates type brace =
    three out front coordinates (type ++ brace) ∙ ap (λ s. onto out (front ++ s)) (sym (append_assoc coordinates type brace))

-- a collection of its features and its type
pub collection_shape : (out : Drafted) (front features bracket type brace : List ℕ)
    → onto (onto (onto out front) features) (bracket ++ (type ++ brace)) ≡ onto out (front ++ (((features ++ bracket) ++ type) ++ brace))
collection_shape out front features bracket type brace =
    let one : features ++ (bracket ++ (type ++ brace)) ≡ ((features ++ bracket) ++ type) ++ brace = simp append_assoc in
    three out front features (bracket ++ (type ++ brace)) ∙ ap (λ s. onto out (front ++ s)) one

-- a text that is written into as much room as was counted is held as it is
pub measured : (count out : Drafted) (n : ℕ) (s : List ℕ) → count ≡ onto (fresh 0) s → n ≡ count.len → n < 2 ^ 64 - 1 → out ≡ onto (fresh n) s → out.bytes ≡ s
measured count out n s counted is few written =
    let len = is ∙ ap (λ (d : Drafted). d.len) counted ∙ fresh_counts 0 s in
    ap (λ (d : Drafted). d.bytes) written ∙ fresh_holds n s (omega (arith, len, few))

-- and it has found room for all of it
pub found_room : (count out : Drafted) (n : ℕ) (s : List ℕ) → count ≡ onto (fresh 0) s → n ≡ count.len → out ≡ onto (fresh n) s → out.len ≤ out.room
found_room count out n s counted is written =
    let taken = is ∙ ap (λ (d : Drafted). d.len) counted ∙ fresh_counts 0 s in
    let len = ap (λ (d : Drafted). d.len) written ∙ fresh_counts n s in
    let room = ap (λ (d : Drafted). d.room) written ∙ fresh_room n s in
    omega (arith, taken, len, room)
