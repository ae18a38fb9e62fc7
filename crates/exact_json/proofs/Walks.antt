-- A value is as deep as its text nests: a walk over the bytes, part by part.
use Rattle.std.proofs.Common.{◌≡◌, ◌≢◌, ℕ, zero, suc, ◌+◌, ◌-◌, ◌<◌, ◌≤◌, max, Bool, true, false, cond, ◌||◌, ◌==◌, ◌∙◌, List, [], ◌∷◌, ◌++◌, drop, take, length, Some, refl, sym, ap, ap₂, arith, append_assoc, length-append, length-drop, take-append-drop}
use Rattle.std.proofs.lemmas.Bool.{ne_eqb, eqb-true, false≢true}
use Rattle.std.proofs.lemmas.List.{append-nil}
use Rattle.std.specs.List.{prefix_len}
use Rattle.std.specs.Char.{encode_utf8, is_digit}
use Rattle.exact_json.specs.Json.{Json, null, boolean, number, text, items, object, Items, no_items, item, Members, no_pairs, pair, depth, items_depth, members_depth}
use Rattle.exact_json.specs.Number.{head}
use Rattle.exact_json.specs.StringReading.{text_at, is_plain, escape}
use Rattle.exact_json.specs.Strings.{IsText, IsHex, AreHex}
use Rattle.exact_json.specs.Grammar.{Padded, MoreElements, Elements, IsPair, Spells, spellings, pair_spellings, IsJson, bare}
use Rattle.exact_json.specs.Nesting.{StringState, outside, in_string, behind_backslash, next_place, open_behind, most_open, nesting}
use Rattle.exact_json.proofs.Texts.{by_bool, head_cons, none_some, taken_off, text_at-run, text_at-quote, text_at-escape, text_at-no_escape, stopped, string_again}
use Rattle.exact_json.proofs.Escapes.{escape_forms}
use Rattle.exact_json.proofs.Chars.{to_reading}
use Rattle.exact_json.proofs.Fronts.{pair_parts, not_same, quiet_number}
use Rattle.exact_json.proofs.Quiet.{IsQuiet, AllQuiet, quiet_below, quiet_letter, quiet_space}
use Rattle.exact_json.proofs.Utf8.{by_option}

at_least : (p : StringState) (n : ℕ) (b : List ℕ) → n ≤ most_open p n b
unfolding most_open
at_least p n [] = omega arith
at_least p n (c ∷ b) = omega arith

one_byte : (p : StringState) (n c : ℕ) (b : List ℕ) → most_open p n (c ∷ b) ≡ max n (most_open (next_place p c) (open_behind p n c) b)
unfolding most_open
one_byte p n c b = refl

none_left : (p : StringState) (n : ℕ) → most_open p n [] ≡ n
unfolding most_open
none_left p n = refl

-- a byte that opens and closes nothing
same_count : (p q : StringState) (n c : ℕ) (b : List ℕ) → next_place p c ≡ q → open_behind p n c ≡ n → most_open p n (c ∷ b) ≡ most_open q n b
same_count p q n c b next same = one_byte p n c b ∙ ap₂ (λ x y. max n (most_open x y b)) next same ∙ omega (arith, at_least q n b)

five_tests : {A : Type 0} (a b c d : Bool) (x y z : A) → a ≡ false → b ≡ false → c ≡ false → d ≡ false → cond (a || b) x (cond (c || d) y z) ≡ z
five_tests a b c d x y z ha hb hc hd = ap₂ (λ p q. cond (p || q) x (cond (c || d) y z)) ha hb ∙ ap₂ (λ p q. cond (p || q) y z) hc hd

quiet_byte : (n c : ℕ) (b : List ℕ) → IsQuiet c → most_open outside n (c ∷ b) ≡ most_open outside n b
quiet_byte n c b q =
    same_count outside outside n c b (ap (λ t. cond t in_string outside) (ne_eqb c 34 q.quote))
    (five_tests (c == 91) (c == 123) (c == 93) (c == 125) (n + 1) (n - 1) n (ne_eqb c 91 q.open_list) (ne_eqb c 123 q.open_object) (ne_eqb c 93 q.close_list) (ne_eqb c 125 q.close_object))

quiet_front : (f b : List ℕ) (n : ℕ) → AllQuiet f → most_open outside n (f ++ b) ≡ most_open outside n b
quiet_front [] b n h = refl
quiet_front (c ∷ f) b n h = quiet_byte n c (f ++ b) h.0 ∙ quiet_front f b n h.1

-- ---- strings

plain_byte : (n c : ℕ) (b : List ℕ) → c ≢ 34 → c ≢ 92 → most_open in_string n (c ∷ b) ≡ most_open in_string n b
plain_byte n c b q s = same_count in_string in_string n c b (ap₂ (λ x y. cond x outside (cond y behind_backslash in_string)) (ne_eqb c 34 q) (ne_eqb c 92 s)) refl

any_byte : (n c : ℕ) (b : List ℕ) → most_open behind_backslash n (c ∷ b) ≡ most_open in_string n b
any_byte n c b = same_count behind_backslash in_string n c b refl refl

plain_tests : (c : ℕ) → is_plain c ≡ true → (c ≢ 34) × (c ≢ 92)
plain_tests c h = ((λ e. false≢true (ap is_plain (sym e) ∙ h)), (λ e. false≢true (ap is_plain (sym e) ∙ h)))

plain_by : (n c : ℕ) (cs : List ℕ) (p : Bool) → is_plain c ≡ p → most_open in_string n cs ≡ most_open in_string n (drop (prefix_len is_plain cs) cs) → most_open in_string n (c ∷ cs) ≡ most_open in_string n (drop (cond p (1 + prefix_len is_plain cs) 0) (c ∷ cs))
plain_by n c cs false h ih = refl
plain_by n c cs true h ih =
    let more : suc (prefix_len is_plain cs) ≡ 1 + prefix_len is_plain cs = omega arith in
    let t = plain_tests c h in
    plain_byte n c cs t.0 t.1 ∙ ih ∙ ap (λ k. most_open in_string n (drop k (c ∷ cs))) more

plain_run : (n : ℕ) (b : List ℕ) → most_open in_string n b ≡ most_open in_string n (drop (prefix_len is_plain b) b)
plain_run n [] = refl
plain_run n (c ∷ cs) = plain_by n c cs (is_plain c) refl (plain_run n cs)

hex_plain : (a : ℕ) → IsHex a → (a ≢ 34) × (a ≢ 92)
hex_plain a h = ((λ e. false≢true (ap (λ c. is_digit c 16) (sym e) ∙ h)), (λ e. false≢true (ap (λ c. is_digit c 16) (sym e) ∙ h)))

hex_byte : (n a : ℕ) (b : List ℕ) → IsHex a → most_open in_string n (a ∷ b) ≡ most_open in_string n b
hex_byte n a b h = let t = hex_plain a h in plain_byte n a b t.0 t.1

hex_bytes : (n a b c d : ℕ) (w : List ℕ) → AreHex a b c d → most_open in_string n (a ∷ b ∷ c ∷ d ∷ w) ≡ most_open in_string n w
hex_bytes n a b c d w h = hex_byte n a (b ∷ c ∷ d ∷ w) h.0 ∙ hex_byte n b (c ∷ d ∷ w) h.1 ∙ hex_byte n c (d ∷ w) h.2 ∙ hex_byte n d w h.3

abbrev Passes : List ℕ → ℕ × ℕ → Type 0
Passes xs e = (n : ℕ) → most_open behind_backslash n xs ≡ most_open in_string n (drop e.1 xs)

backslash : (n : ℕ) (b : List ℕ) → most_open in_string n (92 ∷ b) ≡ most_open behind_backslash n b
backslash n b = same_count in_string behind_backslash n 92 b refl refl

escape_walk : (xs : List ℕ) (e : ℕ × ℕ) → escape xs ≡ Some e → Passes xs e
escape_walk = escape_forms Passes
    (λ x w c is low s n. any_byte n x w)
    (λ a b c d w u hex s n. any_byte n 117 (a ∷ b ∷ c ∷ d ∷ w) ∙ hex_bytes n a b c d w hex)
    (λ a b c d e f g h w u hex more s n.
    any_byte n 117 (a ∷ b ∷ c ∷ d ∷ 92 ∷ 117 ∷ e ∷ f ∷ g ∷ h ∷ w) ∙ hex_bytes n a b c d (92 ∷ 117 ∷ e ∷ f ∷ g ∷ h ∷ w) hex
    ∙ backslash n (117 ∷ e ∷ f ∷ g ∷ h ∷ w) ∙ any_byte n 117 (e ∷ f ∷ g ∷ h ∷ w) ∙ hex_bytes n e f g h w more)

closing_quote : (n : ℕ) (b : List ℕ) → most_open in_string n (34 ∷ b) ≡ most_open outside n b
closing_quote n b = same_count in_string outside n 34 b refl refl

WalksBelow : ℕ → Type 0
WalksBelow m = (b s r : List ℕ) (n : ℕ) → length b < m → text_at 0 b ≡ Some (s, r) → most_open in_string n b ≡ most_open outside n r

run_walks : (m : ℕ) → WalksBelow m → (b s r : List ℕ) (n : ℕ) → length b < suc m → text_at 0 b ≡ Some (s, r) → most_open in_string n b ≡ most_open outside n r
unfolding WalksBelow
run_walks m ih b s r n less h =
    let k = prefix_len is_plain b in
    let front = take k b in
    let stop = drop k b in
    let whole : b ≡ front ++ stop = sym (take-append-drop k b) in
    let off = taken_off front (text_at 0 stop) s r (sym (text_at-run b) ∙ h) in
    plain_run n b ∙ by_bool (head stop == 34)
    (λ q.
    let at = eqb-true (head stop) 34 q in
    let cut = head_cons stop 34 at (λ e. omega (arith, e)) in
    let left = (pair_parts [] off.0 (drop 1 stop) r (sym (text_at-quote stop at) ∙ off.1)).1 in
    ap (most_open in_string n) cut ∙ closing_quote n (drop 1 stop) ∙ ap (most_open outside n) left)
    (λ q. by_bool (head stop == 92)
    (λ w.
    let at = eqb-true (head stop) 92 w in
    let code = drop 1 stop in
    let cut = head_cons stop 92 at (λ e. omega (arith, e)) in
    by_option (escape code)
    (λ none. absurd (none_some (sym (text_at-no_escape stop at none) ∙ off.1)))
    (λ e is.
    let more = taken_off (encode_utf8 e.0) (text_at 0 (drop e.1 code)) off.0 r (sym (text_at-escape stop e at is) ∙ off.1) in
    let size : length (drop e.1 code) < m = omega (arith, less, ap length whole, length-append front stop, ap length cut, length-drop e.1 code) in
    ap (most_open in_string n) cut ∙ backslash n code ∙ escape_walk code e is n ∙ ih (drop e.1 code) more.0 r n size more.1))
    (λ w. absurd (none_some (sym (stopped b k stop front refl refl (not_same (head stop) 34 q) (not_same (head stop) 92 w)) ∙ sym (text_at-run b) ∙ h))))

walks_below : (m : ℕ) → WalksBelow m
unfolding WalksBelow
walks_below zero b s r n less h = absurd (omega (arith, less))
walks_below (suc m) b s r n less h = run_walks m (walks_below m) b s r n less h

text_walk : (s t r : List ℕ) (n : ℕ) → IsText s t → most_open outside n (t ++ r) ≡ most_open outside n r
unfolding WalksBelow
text_walk s t r n h =
    let b = to_reading s t h in
    ap (λ l. most_open outside n (l ++ r)) b.1 ∙ same_count outside in_string n 34 (b.0 ++ r) refl refl
    ∙ walks_below (suc (length (b.0 ++ r))) (b.0 ++ r) s r n (omega arith) (string_again b.0 s r b.2)

-- ---- values

-- what P spells has k brackets open at once, and leaves none open
WalksAs : (List ℕ → Type 0) → ℕ → Type 0
WalksAs P k = (s : List ℕ) → P s → (n : ℕ) (r : List ℕ) → most_open outside n (s ++ r) ≡ max (n + k) (most_open outside n r)

quiet_walk : (s : List ℕ) → AllQuiet s → (n : ℕ) (r : List ℕ) → most_open outside n (s ++ r) ≡ max (n + 0) (most_open outside n r)
quiet_walk s q n r = quiet_front s r n q ∙ omega (arith, at_least outside n r)

padded_walk : (P : List ℕ → Type 0) (k : ℕ) → WalksAs P k → WalksAs (Padded P) k
unfolding WalksAs
padded_walk P k w b h n r =
    ap (λ l. most_open outside n (l ++ r)) h.3 ∙ ap (most_open outside n) (append_assoc (h.0 ++ h.1) h.2 r ∙ append_assoc h.0 h.1 (h.2 ++ r)) ∙ quiet_front h.0 (h.1 ++ (h.2 ++ r)) n (quiet_space h.0 h.4) ∙ w h.1 h.5 n (h.2 ++ r)
    ∙ ap (max (n + k)) (quiet_front h.2 r n (quiet_space h.2 h.6))

-- an element and those behind it
element_walk : (P Q : List ℕ → Type 0) (k m : ℕ) → WalksAs P k → WalksAs Q m → (first rest : List ℕ) → Padded P first → Q rest → (n : ℕ) (r : List ℕ) → most_open outside n ((first ++ rest) ++ r) ≡ max (n + max k m) (most_open outside n r)
unfolding WalksAs
element_walk P Q k m w v first rest pad more n r =
    ap (most_open outside n) (append_assoc first rest r) ∙ padded_walk P k w first pad n (rest ++ r) ∙ ap (max (n + k)) (v rest more n r) ∙ omega arith

quiet_comma : IsQuiet 44
quiet_comma = quiet_below 44 (omega arith) (λ e. omega (arith, e))

-- brackets round what nests k deep
bracket_walk : (first close k n : ℕ) (inside r : List ℕ) → next_place outside first ≡ outside → ((m : ℕ) → open_behind outside m first ≡ m + 1) → next_place outside close ≡ outside → ((m : ℕ) → open_behind outside m close ≡ m - 1)
    → ((m : ℕ) (t : List ℕ) → most_open outside m (inside ++ t) ≡ max (m + k) (most_open outside m t)) → most_open outside n ((first ∷ inside ++ close ∷ []) ++ r) ≡ max (n + suc k) (most_open outside n r)
bracket_walk first close k n inside r pf of pc oc w =
    let back : n + 1 - 1 ≡ n = omega arith in
    ap (λ l. most_open outside n (first ∷ l)) (append_assoc inside (close ∷ []) r) ∙ one_byte outside n first (inside ++ close ∷ r) ∙ ap₂ (λ x y. max n (most_open x y (inside ++ close ∷ r))) pf (of n)
    ∙ ap (max n) (w (n + 1) (close ∷ r) ∙ ap (max (n + 1 + k)) (one_byte outside (n + 1) close r ∙ ap₂ (λ x y. max (n + 1) (most_open x y r)) pc (oc (n + 1)) ∙ ap (λ y. max (n + 1) (most_open outside y r)) back))
    ∙ omega arith

pair_walk : (k : List ℕ) (P : List ℕ → Type 0) (m : ℕ) → WalksAs P m → WalksAs (IsPair k P) m
unfolding WalksAs
pair_walk k P m w s h n r =
    ap (λ l. most_open outside n (l ++ r)) h.4 ∙ ap (most_open outside n) (regroup h.0 h.1 h.2 h.3 r) ∙ text_walk k h.0 (h.1 ++ 58 ∷ (h.2 ++ (h.3 ++ r))) n h.5 ∙ quiet_front h.1 (58 ∷ (h.2 ++ (h.3 ++ r))) n (quiet_space h.1 h.6)
    ∙ quiet_byte n 58 (h.2 ++ (h.3 ++ r)) (quiet_below 58 (omega arith) (λ e. omega (arith, e))) ∙ quiet_front h.2 (h.3 ++ r) n (quiet_space h.2 h.7) ∙ w h.3 h.8 n r
  where
    regroup : (a c s v r : List ℕ) → (a ++ c ++ 58 ∷ s ++ v) ++ r ≡ a ++ (c ++ 58 ∷ (s ++ (v ++ r)))
    regroup a c s v r = grind (arith, append_assoc)

letters : (a b c d : ℕ) → (97 ≤ a) × (a ≤ 122) → (97 ≤ b) × (b ≤ 122) → (97 ≤ c) × (c ≤ 122) → (97 ≤ d) × (d ≤ 122) → AllQuiet (a ∷ b ∷ c ∷ d ∷ [])
letters a b c d p q r s = (quiet_letter a (omega (arith, p.0)) p.1, (quiet_letter b (omega (arith, q.0)) q.1, (quiet_letter c (omega (arith, r.0)) r.1, (quiet_letter d (omega (arith, s.0)) s.1, tt))))

more_walk : (P : List ℕ → Type 0) (Ps : List (List ℕ → Type 0)) (k m : ℕ) → WalksAs P k → WalksAs (MoreElements Ps) m → WalksAs (MoreElements (P ∷ Ps)) (max k m)
unfolding WalksAs
more_walk P Ps k m w v b h n r =
    ap (λ l. most_open outside n (l ++ r)) h.2 ∙ quiet_byte n 44 ((h.0 ++ h.1) ++ r) quiet_comma ∙ element_walk P (MoreElements Ps) k m w v h.0 h.1 h.3 h.4 n r

first_walk : (P : List ℕ → Type 0) (Ps : List (List ℕ → Type 0)) (k m : ℕ) → WalksAs P k → WalksAs (MoreElements Ps) m → WalksAs (Elements (P ∷ Ps)) (max k m)
unfolding WalksAs
first_walk P Ps k m w v b h n r = ap (λ l. most_open outside n (l ++ r)) h.2 ∙ element_walk P (MoreElements Ps) k m w v h.0 h.1 h.3 h.4 n r

none_walk : WalksAs (MoreElements []) 0
unfolding WalksAs
none_walk b h n r = ap (λ l. most_open outside n (l ++ r)) h ∙ quiet_walk [] tt n r

blank_walk : WalksAs (Elements []) 0
unfolding WalksAs
blank_walk b h n r = quiet_walk b (quiet_space b h) n r

list_walk : (js : Items) → WalksAs (Elements (spellings js)) (items_depth js) → WalksAs (Spells (items js)) (suc (items_depth js))
unfolding WalksAs
list_walk js w s h n r = ap (λ l. most_open outside n (l ++ r)) h.1 ∙ bracket_walk 91 93 (items_depth js) n h.0 r refl (λ m. refl) refl (λ m. refl) (λ m t. w h.0 h.2 m t)

object_walk : (ms : Members) → WalksAs (Elements (pair_spellings ms)) (members_depth ms) → WalksAs (Spells (object ms)) (suc (members_depth ms))
unfolding WalksAs
object_walk ms w s h n r = ap (λ l. most_open outside n (l ++ r)) h.1 ∙ bracket_walk 123 125 (members_depth ms) n h.0 r refl (λ m. refl) refl (λ m. refl) (λ m t. w h.0 h.2 m t)

literal_walk : (name : List ℕ) → AllQuiet name → WalksAs (λ b. b ≡ name) 0
unfolding WalksAs
literal_walk name q s h n r = ap (λ l. most_open outside n (l ++ r)) h ∙ quiet_walk name q n r

number_walk : (t : List ℕ) → WalksAs (Spells (number t)) 0
unfolding WalksAs
number_walk t s h n r = ap (λ l. most_open outside n (l ++ r)) h.0 ∙ quiet_walk t (quiet_number t h.1) n r

string_walk : (s : List ℕ) → WalksAs (Spells (text s)) 0
unfolding WalksAs
string_walk s t h n r = text_walk s t r n h ∙ omega (arith, at_least outside n r)

low_letters : (c : ℕ) → (97 ≤ c) × (c ≤ 122) → IsQuiet c
low_letters c h = quiet_letter c (omega (arith, h.0)) h.1

mutual
  value_walks : (j : Json) → WalksAs (Spells j) (depth j)
  value_walks null = literal_walk (110 ∷ 117 ∷ 108 ∷ 108 ∷ []) (letters 110 117 108 108 (omega arith, omega arith) (omega arith, omega arith) (omega arith, omega arith) (omega arith, omega arith))
  value_walks (boolean true) = literal_walk (116 ∷ 114 ∷ 117 ∷ 101 ∷ []) (letters 116 114 117 101 (omega arith, omega arith) (omega arith, omega arith) (omega arith, omega arith) (omega arith, omega arith))
  value_walks (boolean false) = literal_walk (102 ∷ 97 ∷ 108 ∷ 115 ∷ 101 ∷ []) (low_letters 102 (omega arith, omega arith), letters 97 108 115 101 (omega arith, omega arith) (omega arith, omega arith) (omega arith, omega arith) (omega arith, omega arith))
  value_walks (number t) = number_walk t
  value_walks (text s) = string_walk s
  value_walks (items js) = list_walk js (items_walks js)
  value_walks (object ms) = object_walk ms (members_walks ms)

  items_walks : (js : Items) → WalksAs (Elements (spellings js)) (items_depth js)
  items_walks no_items = blank_walk
  items_walks (item j js) = first_walk (Spells j) (spellings js) (depth j) (items_depth js) (value_walks j) (more_items_walk js)

  more_items_walk : (js : Items) → WalksAs (MoreElements (spellings js)) (items_depth js)
  more_items_walk no_items = none_walk
  more_items_walk (item j js) = more_walk (Spells j) (spellings js) (depth j) (items_depth js) (value_walks j) (more_items_walk js)

  members_walks : (ms : Members) → WalksAs (Elements (pair_spellings ms)) (members_depth ms)
  members_walks no_pairs = blank_walk
  members_walks (pair k j ms) = first_walk (IsPair k (Spells j)) (pair_spellings ms) (depth j) (members_depth ms) (pair_walk k (Spells j) (depth j) (value_walks j)) (more_members_walk ms)

  more_members_walk : (ms : Members) → WalksAs (MoreElements (pair_spellings ms)) (members_depth ms)
  more_members_walk no_pairs = none_walk
  more_members_walk (pair k j ms) = more_walk (IsPair k (Spells j)) (pair_spellings ms) (depth j) (members_depth ms) (pair_walk k (Spells j) (depth j) (value_walks j)) (more_members_walk ms)

pub depth_nests : (b : List ℕ) (j : Json) → IsJson b j → depth j ≡ nesting (bare b)
unfolding WalksAs
depth_nests b j h = sym (ap (most_open outside 0) (sym (append-nil (bare b))) ∙ padded_walk (Spells j) (depth j) (value_walks j) (bare b) h.1 0 [] ∙ ap (max (0 + depth j)) (none_left outside 0) ∙ omega arith)
