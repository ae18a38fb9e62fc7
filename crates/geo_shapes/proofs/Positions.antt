-- Numbers of degrees, and positions.
use Rattle.std.proofs.Common.{◌≡◌, ℕ, ℤ, List, [], ◌∷◌, ◌<◌, ◌≤◌, length, get_or, map, drop, Some, None, unwrap_or, refl, sym, ap, ◌∙◌, ◌↔◌, IfOk, IsErrOf, Result, Ok, Err, pos, neg_ℤ, ◌≤ℤ◌, ◌<ℤ◌, subst, arith, lit<, to_z, of_z, SFits, w64, ◌^◌, negsuc}
use lib.Signed.{mag}
use Rattle.std.proofs.lemmas.Int.{ints, to_z-of_z}
use Rattle.std.proofs.lemmas.List.{length-map}
use Rattle.std.specs.Result.{result_ok}
use Rattle.exact_json.specs.Json.{Json, token, list_values}
use Rattle.geo_decimal.specs.Number.{IsNumber}
use Rattle.geo_decimal.specs.Value.{IsNano, IsWithin}
use Rattle.geo_decimal.specs.Laws.{HasOneValue}
use Rattle.geo_decimal.specs.declared.fault.NumberFault.{NumberFault}
use Rattle.geo_decimal.specs.declared.fault.NumberFault.TheVariants.{Form, Size}
use Rattle.venue_types.specs.declared.point.Point.{Point}
use Rattle.geo_shapes.specs.Values.{listed}
use Rattle.geo_shapes.specs.Position.{IsAngle, IsPosition, IsNoPosition, half_turn, quarter_turn}
use Rattle.geo_shapes.specs.Reading.{ReadsAngle}

-- the digits of a number are its token
same_digits : (limit : ℕ) (value : Json) (n : ℤ) (digits : List ℕ) → token value ≡ Some digits → IsAngle limit value n → IsNano digits n
same_digits limit value n digits is a =
    let same : a.digits ≡ digits = cc in
    let P : List ℕ → Type 0 = λ d. IsNano d n in
    subst P same a.nano

-- a value is one number of nanodegrees at most
pub one_angle : HasOneValue → (l k : ℕ) (value : Json) (m n : ℤ) → IsAngle l value m → IsAngle k value n → m ≡ n
one_angle one l k value m n a b = one b.digits m n (same_digits l value m b.digits b.number a) b.nano

-- a value is one position at most
pub one_position : HasOneValue → (value : Json) (p q : Point) → IsPosition value p → IsPosition value q → p ≡ q
one_position one value p q a b =
    let same : a.longitude ∷ a.latitude ∷ a.further ≡ b.longitude ∷ b.latitude ∷ b.further = sym a.items ∙ b.items in
    let first : a.longitude ≡ b.longitude = cc in
    let second : a.latitude ≡ b.latitude = cc in
    let x = one_angle one half_turn half_turn b.longitude p.x q.x (let P : Json → Type 0 = λ v. IsAngle half_turn v p.x in subst P first a.x) b.x in
    let y = one_angle one quarter_turn quarter_turn b.latitude p.y q.y (let P : Json → Type 0 = λ v. IsAngle quarter_turn v p.y in subst P second a.y) b.y in
    let make : ℤ → ℤ → Point = λ a b. record { x = a; y = b } in
    ap (λ a. make a p.y) x ∙ ap (λ b. make q.x b) y

-- what is read of a number
pub angle_read : HasOneValue → (value : Json) (digits : List ℕ) (r : Result ℤ NumberFault) → token value ≡ Some digits
    → IfOk r (λ n. IsNano digits n × IsWithin n)
    → IsErrOf r Form ↔ (¬ IsNumber digits)
    → IsErrOf r Size ↔ ((n : ℤ) × IsNano digits n × (¬ IsWithin n))
    → ReadsAngle half_turn value (result_ok r)
angle_read one value digits (Ok n) is found form size = record { digits = digits; number = is; nano = found.0; low = found.1.0; high = found.1.1 }
angle_read one value digits (Err Form) is found form size = λ n a.
    let nano = same_digits half_turn value n digits is a in
    form.0 refl (nano.number, nano.spelled)
angle_read one value digits (Err Size) is found form size = λ n a.
    let nano = same_digits half_turn value n digits is a in
    let other = size.0 refl in
    let same = one digits n other.0 nano other.1 in
    let P : ℤ → Type 0 = IsWithin in
    other.2 (subst P same (a.low, a.high))

-- what is no number is none of degrees
pub no_number : (limit : ℕ) (value : Json) → token value ≡ None → (n : ℤ) → ¬ IsAngle limit value n
no_number limit value is n a = let e = a.number in cc

-- within a quarter of a turn is within half of one
pub wider : (value : Json) (n : ℤ) → IsAngle quarter_turn value n → IsAngle half_turn value n
wider value n a = record { digits = a.digits; number = a.number; nano = a.nano; low = omega (arith, ints); high = omega (arith, ints) }

pub narrower : (value : Json) (n : ℤ) → IsAngle half_turn value n → neg_ℤ (pos quarter_turn) ≤ℤ n → n ≤ℤ pos quarter_turn → IsAngle quarter_turn value n
narrower value n a low high = record { digits = a.digits; number = a.number; nano = a.nano; low = low; high = high }

pub none_low : HasOneValue → (value : Json) (n : ℤ) → IsAngle half_turn value n → n <ℤ neg_ℤ (pos quarter_turn) → (m : ℤ) → ¬ IsAngle quarter_turn value m
none_low one value n a below m b = let same = one_angle one half_turn quarter_turn value n m a b in omega (arith, ints)

pub none_high : HasOneValue → (value : Json) (n : ℤ) → IsAngle half_turn value n → pos quarter_turn <ℤ n → (m : ℤ) → ¬ IsAngle quarter_turn value m
none_high one value n a above m b = let same = one_angle one half_turn quarter_turn value n m a b in omega (arith, ints)

-- the items of a list that is known
pub listed_is : (value : Json) (xs : List Json) → Some xs ≡ list_values value → listed value ≡ xs
listed_is value xs is = ap (λ o. unwrap_or o []) (sym is)

-- a list that is too short is no position
pub none_short : (value : Json) → length (listed value) < 2 → IsNoPosition value
none_short value short point p = let e : length (listed value) ≡ length (p.longitude ∷ p.latitude ∷ p.further) = ap length p.items in omega arith

pub none_short_list : {T : Type 0} (view : T → Json) (value : Json) (xs : List T) → Some (map view xs) ≡ list_values value → length xs < 2 → IsNoPosition value
none_short_list view value xs is short =
    let e : length (listed value) ≡ length xs = ap length (listed_is value (map view xs) is) ∙ length-map xs view in
    none_short value (omega arith)

pub none_x : (value x y : Json) (further : List Json) → listed value ≡ x ∷ y ∷ further → ((n : ℤ) → ¬ IsAngle half_turn x n) → IsNoPosition value
none_x value x y further is none point p =
    let same : p.longitude ∷ p.latitude ∷ p.further ≡ x ∷ y ∷ further = sym p.items ∙ is in
    let first : p.longitude ≡ x = cc in
    none point.x (let P : Json → Type 0 = λ v. IsAngle half_turn v point.x in subst P first p.x)

pub none_y : (value x y : Json) (further : List Json) → listed value ≡ x ∷ y ∷ further → ((n : ℤ) → ¬ IsAngle quarter_turn y n) → IsNoPosition value
none_y value x y further is none point p =
    let same : p.longitude ∷ p.latitude ∷ p.further ≡ x ∷ y ∷ further = sym p.items ∙ is in
    let second : p.latitude ≡ y = cc in
    none point.y (let P : Json → Type 0 = λ v. IsAngle quarter_turn v point.y in subst P second p.y)

-- the first two items of a list that has them
pub two_items : {T : Type 0} (view : T → Json) (xs : List T) (x y : T) → 2 ≤ length xs → x ≡ get_or xs 0 x → y ≡ get_or xs 1 y
    → map view xs ≡ view x ∷ view y ∷ map view (drop 2 xs)
two_items view [] x y long first second = absurd (omega arith)
two_items view (a ∷ []) x y long first second = absurd (omega arith)
two_items view (a ∷ b ∷ xs) x y long first second = cc

size_within : (limit : ℕ) (n : ℤ) → neg_ℤ (pos limit) ≤ℤ n → n ≤ℤ pos limit → mag n ≤ limit
size_within limit (pos k) low high = omega (arith, ints)
size_within limit (negsuc k) low high = omega (arith, ints)

angle_fits : (limit : ℕ) (value : Json) (n : ℤ) → limit < 2 ^ 63 → IsAngle limit value n → SFits w64 n
angle_fits limit value n small a = record { sfits = let within = size_within limit n a.low a.high in omega arith }

-- a longitude and a latitude, as the code keeps them
pub position_is : (value x y : Json) (further : List Json) (m n : ℤ) → listed value ≡ x ∷ y ∷ further → IsAngle half_turn x m → IsAngle quarter_turn y n
    → IsPosition value (record { x = to_z w64 (of_z w64 m); y = to_z w64 (of_z w64 n) })
position_is value x y further m n is a b = record {
  longitude = x;
  latitude = y;
  further = further;
  items = is;
  x = let P : ℤ → Type 0 = IsAngle half_turn x in subst P (sym (to_z-of_z w64 m (angle_fits half_turn x m (lit< tt) a))) a;
  y = let P : ℤ → Type 0 = IsAngle quarter_turn y in subst P (sym (to_z-of_z w64 n (angle_fits quarter_turn y n (lit< tt) b))) b;
}
