-- Where a loop over the elements behind an opening bracket stands, and its turns: the same for items and for pairs.
use Rattle.std.proofs.Common.{◌≡◌, ◌≢◌, ℕ, suc, ◌+◌, ◌-◌, ◌<◌, ◌≤◌, List, [], ◌∷◌, ◌++◌, take, drop, length, map, Some, None, refl, sym, ap, ◌∙◌, subst, arith}
use Rattle.std.proofs.Math.Seq.{drop-length, take-length}
use Rattle.exact_json.specs.Number.{head}
use Rattle.exact_json.specs.Reading.{Parse, skip, more_elements, elements_at}
use Rattle.exact_json.specs.Slices.{in_turn, AreTextsBefore}
use Rattle.exact_json.specs.declared.tree.JsonText.{JsonText}
use Rattle.exact_json.proofs.Lists.{joined, joined_nil, map_pushed, drop_pushed, take_pushed, length_pushed, comma_turn, last_turn, bad_turn, lost_turn, some_elements}
use Rattle.exact_json.proofs.Slices.{then_quiet, spaces, spaced_byte, more_texts}

-- One stack has the elements that were read, above those that stood there before, and the other one is as it was.
pub record Turns {X E Y : Type 0} (view : X → E) (texts : X → List JsonText) (close : ℕ) (one : ℕ → Parse E) (least : ℕ) (text : List ℕ) (start : ℕ) (before now : List X) (other other_now : List Y) (rest : List ℕ) : Type 0 where
  pub turns : ℕ
  pub enough : length rest < turns
  pub same : (d : ℕ) → least ≤ d → elements_at close (one d) text ≡ joined (map view (drop start now)) (more_elements close (one d) turns rest)
  pub within : length rest ≤ length text
  pub slices : AreTextsBefore (in_turn (map texts (drop start now))) text rest
  pub below : start ≤ length now
  pub kept : take start now ≡ before
  pub other_kept : other_now ≡ other

module _ {X E Y : Type 0} (view : X → E) (texts : X → List JsonText) (close : ℕ) (one : ℕ → Parse E) (least : ℕ) (text : List ℕ) (start : ℕ) (before : List X) (other : List Y) where
  abbrev Stands : List X → List Y → List ℕ → Type 0
  Stands now other_now rest = Turns view texts close one least text start before now other other_now rest

  -- in front of the first
  pub first_turn : (s : List ℕ) → s ≡ skip text → length s ≤ length text → head s ≢ close → start ≡ length before → Stands before other s
  first_turn s at within ne count =
      let none : drop start before ≡ [] = ap (λ n. drop n before) count ∙ drop-length before in record {
        turns = suc (length s);
        enough = omega arith;
        same = λ d le. some_elements close (one d) text s at ne ∙ joined_nil (more_elements close (one d) (suc (length s)) s) ∙ ap (λ l. joined (map view l) (more_elements close (one d) (suc (length s)) s)) (sym none);
        within = within;
        slices = subst (λ l. AreTextsBefore (in_turn (map texts l)) text s) (sym none) (spaces text s at);
        below = omega (arith, count);
        kept = ap (λ n. take n before) count ∙ take-length before;
        other_kept = refl;
      }

  -- a turn: white space, an element and white space, at whose end m stands
  module _ (now : List X) (other_now : List Y) (b : List ℕ) (i : Stands now other_now b) (s : List ℕ) (at : s ≡ skip b) where
    -- the element can't be read
    pub lost : (d : ℕ) → least ≤ d → one d s ≡ None → elements_at close (one d) text ≡ None
    lost d le none = i.same d le ∙ lost_turn close (one d) i.turns b s (map view (drop start now)) (omega (arith, i.enough)) at none

    module _ (x : X) (behind m : List ℕ) (read : (d : ℕ) → least ≤ d → one d s ≡ Some (view x, behind)) (from : m ≡ skip behind) where
      -- neither a comma nor the closing bracket follows
      pub bad : head m ≢ 44 → head m ≢ close → (d : ℕ) → least ≤ d → elements_at close (one d) text ≡ None
      bad nc nb d le = i.same d le ∙ bad_turn close (one d) i.turns b s m (map view (drop start now)) (view x) behind (omega (arith, i.enough)) at (read d le) from nc nb

      module _ (within : length s ≤ length b) (inside : length behind ≤ length s) (slices : AreTextsBefore (texts x) s behind) (middle all : List X) (same : middle ≡ now) (pushed : all ≡ middle ++ x ∷ []) where
        grown : drop start all ≡ drop start now ++ x ∷ []
        grown = drop_pushed start now middle all x i.below same pushed

        seen : (ys : List X) → ys ≡ drop start now ++ x ∷ [] → map view (drop start now) ++ view x ∷ [] ≡ map view ys
        seen ys e = map_pushed view (drop start now) x ∙ ap (map view) (sym e)

        texts_behind : (ys : List X) (byte : ℕ) (rest : List ℕ) → byte ≢ 32 → byte ≢ 34 → ys ≡ drop start now ++ x ∷ [] → head m ≡ byte → rest ≡ drop 1 m → AreTextsBefore (in_turn (map texts ys)) text rest
        texts_behind ys byte rest space quote e h left =
            then_quiet (in_turn (map texts ys)) text behind rest (more_texts texts (drop start now) ys x text b s behind e i.slices at slices) (spaced_byte byte behind m rest space quote from h left)

        -- a comma follows
        pub next_turn : (other_new : List Y) (rest : List ℕ) → other_new ≡ other_now → length m ≤ length behind → head m ≡ 44 → rest ≡ drop 1 m → length rest + 1 ≡ length m → Stands all other_new rest
        next_turn other_new rest kept short h left less = record {
          turns = i.turns - 1;
          enough = omega (arith, i.enough, within, inside, short, less);
          same = λ d le. i.same d le ∙ comma_turn close (one d) i.turns b s m (map view (drop start now)) (map view (drop start all)) (view x) behind rest (omega (arith, i.enough)) at (read d le) from h left (seen (drop start all) grown);
          within = omega (arith, i.within, within, inside, short, less);
          slices = texts_behind (drop start all) 44 rest (λ e. omega (arith, e)) (λ e. omega (arith, e)) grown h left;
          below = length_pushed start now middle all x i.below same pushed;
          kept = take_pushed start now middle all x i.below same pushed ∙ i.kept;
          other_kept = kept ∙ i.other_kept;
        }

        -- the closing bracket follows
        pub last_elements : (ys : List X) (rest : List ℕ) → close ≢ 44 → ys ≡ drop start all → head m ≡ close → rest ≡ drop 1 m → (d : ℕ) → least ≤ d → elements_at close (one d) text ≡ Some (map view ys, rest)
        last_elements ys rest nc tail h left d le =
            i.same d le ∙ last_turn close (one d) i.turns b s m (map view (drop start now)) (map view ys) (view x) behind rest nc (omega (arith, i.enough)) at (read d le) from h left (seen ys (tail ∙ grown))

        pub last_texts : (ys : List X) (rest : List ℕ) → close ≢ 32 → close ≢ 34 → ys ≡ drop start all → head m ≡ close → rest ≡ drop 1 m → AreTextsBefore (in_turn (map texts ys)) text rest
        last_texts ys rest space quote tail h left = texts_behind ys close rest space quote (tail ∙ grown) h left
