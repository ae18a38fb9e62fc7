-- The texts of a tree beside the strings of the bytes that it was read from.
use Rattle.std.specs.Prelude.{◌≡◌, ◌≢◌, ℕ, List, [], ◌∷◌, ◌++◌, map}
use Rattle.std.specs.List.{AllByRecursion, Contains}
use Rattle.exact_json.specs.Strings.{IsText}
use Rattle.exact_json.specs.View.{text_view}
use Rattle.exact_json.specs.declared.tree.JsonText.{JsonText}
use Rattle.exact_json.specs.declared.tree.JsonText.TheVariants.{Plain, Made}
use Rattle.exact_json.specs.declared.tree.Tree.{Tree, fold-Tree}
use Rattle.exact_json.specs.declared.tree.Tree.TheOpen.{Tree-F}
use Rattle.exact_json.specs.declared.tree.Pair.{Pair}

-- one list after another
abbrev pub in_turn : List (List JsonText) → List JsonText
in_turn [] = []
in_turn (ts ∷ tss) = ts ++ in_turn tss

-- one level, with each tree inside already seen as its texts
abbrev pub texts_step : Tree-F (List JsonText) (List JsonText) (List JsonText) → List JsonText
texts_step Tree-F.Null = []
texts_step (Tree-F.Bool b) = []
texts_step (Tree-F.Number s) = []
texts_step (Tree-F.Plain s) = Plain s ∷ []
texts_step (Tree-F.Made b) = Made b ∷ []
texts_step (Tree-F.Items v) = in_turn v.now
texts_step (Tree-F.Object v) = v

-- the texts of a tree in order, names too
abbrev pub texts_of : Tree → List JsonText
texts_of = fold-Tree (List JsonText) (List JsonText) (List JsonText) texts_step (λ x. in_turn x.pairs.now) (λ x. x.name ∷ x.value)

-- those of a list's items
abbrev pub items_texts : List Tree → List JsonText
items_texts ts = in_turn (map texts_of ts)

abbrev pub pair_texts : Pair → List JsonText
pair_texts p = p.name ∷ texts_of p.value

-- those of an object's pairs
abbrev pub members_texts : List Pair → List JsonText
members_texts ps = in_turn (map pair_texts ps)

-- it is the slice between the quotation marks, or a text of its own, and then there is a backslash
abbrev pub IsCopiedOnlyWhereEscaped : JsonText → List ℕ → Type 0
IsCopiedOnlyWhereEscaped (Plain s) b = b ≡ 34 ∷ s.now ++ 34 ∷ []
IsCopiedOnlyWhereEscaped (Made v) b = Contains b 92

-- the text of a string, whose bytes have the quotation marks (section 7)
pub record IsTextOf (t : JsonText) (b : List ℕ) : Type 0 where
  pub spelled : IsText (text_view t) b
  pub slice : IsCopiedOnlyWhereEscaped t b

abbrev pub HasNoQuote : List ℕ → Type 0
HasNoQuote b = AllByRecursion (λ c. c ≢ 34) b

-- the texts are those of the strings in the bytes, each of its own, in order
abbrev pub AreTextsOf : List JsonText → List ℕ → Type 0
AreTextsOf [] b = HasNoQuote b
AreTextsOf (t ∷ ts) b = (before string after : List ℕ) × (b ≡ before ++ string ++ after) × HasNoQuote before × IsTextOf t string × AreTextsOf ts after

-- the texts are those of the strings of b in front of the rest
abbrev pub AreTextsBefore : List JsonText → List ℕ → List ℕ → Type 0
AreTextsBefore ts b rest = (front : List ℕ) × (b ≡ front ++ rest) × AreTextsOf ts front
