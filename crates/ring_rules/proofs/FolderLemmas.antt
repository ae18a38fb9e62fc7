-- The rings of a folder: that they are fit to be judged, and that the five files with shapes have all of them.
use Rattle.std.proofs.Common.{◌≡◌, ℕ, ◌+◌, ◌⊎◌, inl, inr, List, [], flat_map, Some, None, refl, sym, subst, ap, ◌∙◌, arith}
use Rattle.std.specs.Prelude.{Contains, slice_get}
use Rattle.std.proofs.lemmas.List.Elements.{Contains-append_left}
use Rattle.venue_types.proofs.Items.{Contains-flat_map}
use Rattle.venue_types.specs.declared.features.Features.{Features}
use Rattle.venue_types.specs.declared.finding.Finding.{Finding}
use Rattle.venue_types.specs.declared.point.Point.{Point}
use Rattle.venue_types.specs.declared.point.Shape.{Shape}
use Rattle.venue_types.specs.declared.folder_file.File.{File}
use Rattle.venue_types.specs.declared.folder_file.File.TheVariants as file
use Rattle.venue_types.specs.FolderFiles.{file_number, feature_files}
use Rattle.rule_reports.specs.Passes.{Adds}
use Rattle.rule_reports.proofs.Adding.{Adds-same, Adds-then}
use Rattle.plane_exact.specs.Figure.{AllClose, vertices}
use Rattle.feature_rows.specs.Figures.{shapes_of, positions_of, positions, judged_positions, display_of}
use Rattle.ring_rules.specs.Rings.{placed_rings}
use Rattle.imdf_schema.specs.Rules.{rule_number}
use Rattle.ring_rules.specs.Rules.{BreaksInRing}
use Rattle.ring_rules.specs.Judged.{AreFitShapes}
use Rattle.ring_rules.specs.Findings.{FindsInShapes}
use Rattle.ring_rules.proofs.EdgeLemmas.{fewer_close}

-- ---- the positions of a shape are judged

-- a file whose positions are those of its shapes
record HasShapes (all : Features) (f : File) : Type 0 where
  listed : Contains feature_files f
  placed : positions_of f all ≡ flat_map vertices (shapes_of f all)

judged : (all : Features) (f : File) → HasShapes all f → (shape : Shape) → Contains (shapes_of f all) shape → (p : Point) → Contains (vertices shape) p → Contains (judged_positions all) p
judged all f has shape there p at =
    let in_file : Contains (positions_of f all) p = subst (λ (ps : List Point). Contains ps p) (sym has.placed) ((Contains-flat_map vertices (shapes_of f all) p).1 (shape, there, at)) in
    let in_all : Contains (positions all) p = (Contains-flat_map (λ (g : File). positions_of g all) feature_files p).1 (f, has.listed, in_file) in
    Contains-append_left (positions all) (flat_map display_of all.units) p in_all

fit_file : (all : Features) → AllClose (judged_positions all) → (f : File) → HasShapes all f → AreFitShapes (shapes_of f all)
fit_file all close f has = record { fit = λ shape there. record { close = fewer_close (vertices shape) (judged_positions all) (judged all f has shape there) close } }

pub fit_fixtures : (all : Features) → AllClose (judged_positions all) → AreFitShapes (shapes_of file.Fixture all)
fit_fixtures all close = fit_file all close file.Fixture (record { listed = (5, omega arith, refl); placed = refl })

pub fit_footprints : (all : Features) → AllClose (judged_positions all) → AreFitShapes (shapes_of file.Footprint all)
fit_footprints all close = fit_file all close file.Footprint (record { listed = (6, omega arith, refl); placed = refl })

pub fit_levels : (all : Features) → AllClose (judged_positions all) → AreFitShapes (shapes_of file.Level all)
fit_levels all close = fit_file all close file.Level (record { listed = (9, omega arith, refl); placed = refl })

pub fit_units : (all : Features) → AllClose (judged_positions all) → AreFitShapes (shapes_of file.Unit all)
fit_units all close = fit_file all close file.Unit (record { listed = (14, omega arith, refl); placed = refl })

pub fit_venues : (all : Features) → AllClose (judged_positions all) → AreFitShapes (shapes_of file.Venue all)
fit_venues all close = fit_file all close file.Venue (record { listed = (15, omega arith, refl); placed = refl })

-- ---- what is found in the five files

abbrev finding : ℕ → ℕ → ℕ → ℕ → Finding
finding rule source index member = record { rule = rule; file = source; index = index; member = member }

-- a finding is its four numbers
finding_of : (x : Finding) (r f m : ℕ) → x.rule ≡ r → x.file ≡ f → x.member ≡ m → x ≡ finding r f x.index m
finding_of x r f m rule source member =
    let whole : x ≡ finding x.rule x.file x.index x.member = refl in
    whole ∙ (ap (λ (n : ℕ). finding n x.file x.index x.member) rule ∙ ap (λ (n : ℕ). finding r n x.index x.member) source ∙ ap (λ (n : ℕ). finding r f x.index n) member)

breaks_of : (all : Features) (f : File) (x : Finding) → FindsInShapes f (shapes_of f all) x → BreaksInRing all x
breaks_of all f x h =
    let ring = h.finds in
    let at = ring.finds in
    let index : x.index ≡ h.place = ap (λ (y : Finding). y.index) at.is in
    let zero_more : 0 + ring.place ≡ ring.place = omega arith in
    let member : x.member ≡ ring.place = ap (λ (y : Finding). y.member) at.is ∙ zero_more in
    record {
      rule = at.rule;
      number = ap (λ (y : Finding). y.rule) at.is;
      source = f;
      shape = h.shape;
      feature = subst (λ (k : ℕ). slice_get (shapes_of f all) k ≡ Some h.shape) (sym index) h.there;
      placed = ring.placed;
      there = subst (λ (k : ℕ). slice_get (placed_rings h.shape) k ≡ Some ring.placed) (sym member) ring.there;
      breaks = at.breaks;
      in_file = ap (λ (y : Finding). y.file) at.is;
    }

found_of : (all : Features) (x : Finding) (h : BreaksInRing all x) → FindsInShapes h.source (shapes_of h.source all) x
found_of all x h =
    let zero_more : x.member ≡ 0 + x.member = omega arith in
    record {
      place = x.index;
      shape = h.shape;
      there = h.feature;
      finds = record {
        place = x.member;
        placed = h.placed;
        there = h.there;
        finds = record { rule = h.rule; breaks = h.breaks; is = finding_of x (rule_number h.rule) (file_number h.source) (0 + x.member) h.number h.in_file zero_more };
      };
    }

nothing : (f : File) (x : Finding) → FindsInShapes f [] x → ⊥
nothing f x h = let e : None ≡ Some h.shape = h.there in cc

abbrev FirstTwo : Features → Finding → Type 0
FirstTwo all x = FindsInShapes file.Fixture (shapes_of file.Fixture all) x ⊎ FindsInShapes file.Footprint (shapes_of file.Footprint all) x

abbrev FirstThree : Features → Finding → Type 0
FirstThree all x = FirstTwo all x ⊎ FindsInShapes file.Level (shapes_of file.Level all) x

abbrev FirstFour : Features → Finding → Type 0
FirstFour all x = FirstThree all x ⊎ FindsInShapes file.Unit (shapes_of file.Unit all) x

abbrev AllFive : Features → Finding → Type 0
AllFive all x = FirstFour all x ⊎ FindsInShapes file.Venue (shapes_of file.Venue all) x

-- no other file has shapes
which : (all : Features) (f : File) (x : Finding) → FindsInShapes f (shapes_of f all) x → AllFive all x
which all file.Fixture x h = inl (inl (inl (inl h)))
which all file.Footprint x h = inl (inl (inl (inr h)))
which all file.Level x h = inl (inl (inr h))
which all file.Unit x h = inl (inr h)
which all file.Venue x h = inr h
which all f x h = absurd (nothing f x h)

back : (all : Features) (x : Finding) → AllFive all x → BreaksInRing all x
back all x h = elim h [
  | inl four ↦ elim four [
    | inl three ↦ elim three [
      | inl two ↦ elim two [ inl a ↦ breaks_of all file.Fixture x a | inr b ↦ breaks_of all file.Footprint x b ]
      | inr c ↦ breaks_of all file.Level x c
    ]
    | inr d ↦ breaks_of all file.Unit x d
  ]
  | inr e ↦ breaks_of all file.Venue x e
]

both : {P Q : Finding → Type 0} (a b c : List Finding) → Adds P a b → Adds Q b c → Adds (λ x. P x ⊎ Q x) a c
both {P} {Q} a b c one other = Adds-then (λ x. P x ⊎ Q x) one other (λ x h. inl h) (λ x h. inr h) (λ x h. h)

-- file after file
pub five_files : (all : Features) (a b c d e f : List Finding)
    → Adds (FindsInShapes file.Fixture (shapes_of file.Fixture all)) a b → Adds (FindsInShapes file.Footprint (shapes_of file.Footprint all)) b c
    → Adds (FindsInShapes file.Level (shapes_of file.Level all)) c d → Adds (FindsInShapes file.Unit (shapes_of file.Unit all)) d e
    → Adds (FindsInShapes file.Venue (shapes_of file.Venue all)) e f → Adds (BreaksInRing all) a f
five_files all a b c d e f one two three four five =
    Adds-same (BreaksInRing all) (both a e f (both a d e (both a c d (both a b c one two) three) four) five)
    (λ x h. back all x h)
    (λ x h. which all h.source x (found_of all x h))
