-- Identities and inequalities of polynomials in whole numbers. A whole number stands as a difference u - v of naturals, so that a claim becomes one of naturals, which `omega` multiplies out.
use Rattle.std.proofs.Common.{◌≡◌, ℕ, ◌+◌, ◌*◌, ◌<◌, ◌≤◌, ℤ, pos, negsuc, neg_ℤ, ◌+ℤ◌, ◌-ℤ◌, ◌*ℤ◌, ◌≤ℤ◌, ap, arith}
use borrow.Author.Differences.{up, down}
use Rattle.std.proofs.lemmas.Int.{ints}
use Rattle.std.proofs.Math.Nat.{mul-le-mul_left, le_of_mul-le-mul_left}

-- z is u - v
pub record Rep (z : ℤ) (u v : ℕ) : Type 0 where
  pub is : up z + v ≡ down z + u

pub rep : (z : ℤ) → Rep z (up z) (down z)
rep z = record { is = omega arith }

pub rep-pos : (n : ℕ) → Rep (pos n) n 0
rep-pos n = record { is = omega arith }

pub rep-add : {x y : ℤ} {a b c d : ℕ} → Rep x a b → Rep y c d → Rep (x +ℤ y) (a + c) (b + d)
rep-add {x} {y} r s = record { is = omega (arith, ints) }

pub rep-sub : {x y : ℤ} {a b c d : ℕ} → Rep x a b → Rep y c d → Rep (x -ℤ y) (a + d) (b + c)
rep-sub {x} {y} r s = record { is = omega (arith, ints) }

pub rep-neg : {x : ℤ} {a b : ℕ} → Rep x a b → Rep (neg_ℤ x) b a
rep-neg {x} r = record { is = omega (arith, ints) }

pub rep-mul : {x y : ℤ} {a b c d : ℕ} → Rep x a b → Rep y c d → Rep (x *ℤ y) (a * c + b * d) (a * d + b * c)
rep-mul {x} {y} {a} {b} {c} {d} r s =
    let e1 : up y * (up x + b) ≡ up y * (down x + a) = ap (λ k. up y * k) r.is in
    let e2 : down y * (up x + b) ≡ down y * (down x + a) = ap (λ k. down y * k) r.is in
    let e3 : a * (up y + d) ≡ a * (down y + c) = ap (λ k. a * k) s.is in
    let e4 : b * (up y + d) ≡ b * (down y + c) = ap (λ k. b * k) s.is in
    record { is = omega (arith, ints) }

pub rep-same : {x y : ℤ} {a b c d : ℕ} → Rep x a b → Rep y c d → a + d ≡ c + b → x ≡ y
rep-same {x} {y} r s e = omega (arith, ints)

-- ---- the products of vectors

abbrev pub dot : ℤ → ℤ → ℤ → ℤ → ℤ
dot ux uy vx vy = (ux *ℤ vx) +ℤ (uy *ℤ vy)

abbrev pub cross : ℤ → ℤ → ℤ → ℤ → ℤ
cross ux uy vx vy = (ux *ℤ vy) -ℤ (uy *ℤ vx)

-- the square of n w + k d
square_of_sum : (wx wy dx dy : ℤ) (n k : ℕ) → dot ((pos n *ℤ wx) +ℤ (pos k *ℤ dx)) ((pos n *ℤ wy) +ℤ (pos k *ℤ dy)) ((pos n *ℤ wx) +ℤ (pos k *ℤ dx)) ((pos n *ℤ wy) +ℤ (pos k *ℤ dy)) ≡ (pos (n * n) *ℤ dot wx wy wx wy) +ℤ ((pos (2 * (n * k)) *ℤ dot wx wy dx dy) +ℤ (pos (k * k) *ℤ dot dx dy dx dy))
square_of_sum wx wy dx dy n k =
    let x = rep-add (rep-mul (rep-pos n) (rep wx)) (rep-mul (rep-pos k) (rep dx)) in
    let y = rep-add (rep-mul (rep-pos n) (rep wy)) (rep-mul (rep-pos k) (rep dy)) in
    let squares = rep-mul (rep-pos (n * n)) (rep-add (rep-mul (rep wx) (rep wx)) (rep-mul (rep wy) (rep wy))) in
    let mixed = rep-mul (rep-pos (2 * (n * k))) (rep-add (rep-mul (rep wx) (rep dx)) (rep-mul (rep wy) (rep dy))) in
    let rest = rep-mul (rep-pos (k * k)) (rep-add (rep-mul (rep dx) (rep dx)) (rep-mul (rep dy) (rep dy))) in
    rep-same (rep-add (rep-mul x x) (rep-mul y y)) (rep-add squares (rep-add mixed rest)) (omega arith)

-- the squares of the two products of vectors make up the product of their squares
pub squares_of_products : (dx dy vx vy : ℤ) → dot dx dy dx dy *ℤ dot vx vy vx vy ≡ (dot dx dy vx vy *ℤ dot dx dy vx vy) +ℤ (cross dx dy vx vy *ℤ cross dx dy vx vy)
squares_of_products dx dy vx vy =
    let along = rep-add (rep-mul (rep dx) (rep vx)) (rep-mul (rep dy) (rep vy)) in
    let across = rep-sub (rep-mul (rep dx) (rep vy)) (rep-mul (rep dy) (rep vx)) in
    let d = rep-add (rep-mul (rep dx) (rep dx)) (rep-mul (rep dy) (rep dy)) in
    let v = rep-add (rep-mul (rep vx) (rep vx)) (rep-mul (rep vy) (rep vy)) in
    rep-same (rep-mul d v) (rep-add (rep-mul along along) (rep-mul across across)) (omega arith)

-- a part of d changes no cross product with d
pub cross_of_rest : (dx dy qx qy : ℤ) (m n : ℕ) → cross dx dy ((pos n *ℤ qx) -ℤ (pos m *ℤ dx)) ((pos n *ℤ qy) -ℤ (pos m *ℤ dy)) ≡ pos n *ℤ cross dx dy qx qy
cross_of_rest dx dy qx qy m n =
    let x = rep-sub (rep-mul (rep-pos n) (rep qx)) (rep-mul (rep-pos m) (rep dx)) in
    let y = rep-sub (rep-mul (rep-pos n) (rep qy)) (rep-mul (rep-pos m) (rep dy)) in
    let across = rep-sub (rep-mul (rep dx) (rep qy)) (rep-mul (rep dy) (rep qx)) in
    rep-same (rep-sub (rep-mul (rep dx) y) (rep-mul (rep dy) x)) (rep-mul (rep-pos n) across) (omega arith)

pub square_of_multiple : (n : ℕ) (c : ℤ) → (pos n *ℤ c) *ℤ (pos n *ℤ c) ≡ pos (n * n) *ℤ (c *ℤ c)
square_of_multiple n c = let nc = rep-mul (rep-pos n) (rep c) in rep-same (rep-mul nc nc) (rep-mul (rep-pos (n * n)) (rep-mul (rep c) (rep c))) (omega arith)

pub regroup : (k t : ℕ) (d : ℤ) → d *ℤ pos (k * t) ≡ pos k *ℤ (pos t *ℤ d)
regroup k t d = rep-same (rep-mul (rep d) (rep-pos (k * t))) (rep-mul (rep-pos k) (rep-mul (rep-pos t) (rep d))) (omega arith)

-- what is left of q beside its part along d stands upright on d
pub upright_x : (dx dy qx qy : ℤ) → (dot dx dy dx dy *ℤ qx) -ℤ (dot dx dy qx qy *ℤ dx) ≡ neg_ℤ (dy *ℤ cross dx dy qx qy)
upright_x dx dy qx qy =
    let d = rep-add (rep-mul (rep dx) (rep dx)) (rep-mul (rep dy) (rep dy)) in
    let s = rep-add (rep-mul (rep dx) (rep qx)) (rep-mul (rep dy) (rep qy)) in
    let c = rep-sub (rep-mul (rep dx) (rep qy)) (rep-mul (rep dy) (rep qx)) in
    rep-same (rep-sub (rep-mul d (rep qx)) (rep-mul s (rep dx))) (rep-neg (rep-mul (rep dy) c)) (omega arith)

pub upright_y : (dx dy qx qy : ℤ) → (dot dx dy dx dy *ℤ qy) -ℤ (dot dx dy qx qy *ℤ dy) ≡ dx *ℤ cross dx dy qx qy
upright_y dx dy qx qy =
    let d = rep-add (rep-mul (rep dx) (rep dx)) (rep-mul (rep dy) (rep dy)) in
    let s = rep-add (rep-mul (rep dx) (rep qx)) (rep-mul (rep dy) (rep qy)) in
    let c = rep-sub (rep-mul (rep dx) (rep qy)) (rep-mul (rep dy) (rep qx)) in
    rep-same (rep-sub (rep-mul d (rep qy)) (rep-mul s (rep dy))) (rep-mul (rep dx) c) (omega arith)

pub upright_square : (dx dy c : ℤ) → (neg_ℤ (dy *ℤ c) *ℤ neg_ℤ (dy *ℤ c)) +ℤ ((dx *ℤ c) *ℤ (dx *ℤ c)) ≡ dot dx dy dx dy *ℤ (c *ℤ c)
upright_square dx dy c =
    let x = rep-neg (rep-mul (rep dy) (rep c)) in
    let y = rep-mul (rep dx) (rep c) in
    let d = rep-add (rep-mul (rep dx) (rep dx)) (rep-mul (rep dy) (rep dy)) in
    rep-same (rep-add (rep-mul x x) (rep-mul y y)) (rep-mul d (rep-mul (rep c) (rep c))) (omega arith)

-- the way from the part m of d to q, with d turned round, and from the end of d
pub turned_round : (d q : ℤ) (m n : ℕ) → (pos n *ℤ q) -ℤ (pos m *ℤ d) ≡ (pos n *ℤ q) +ℤ (pos m *ℤ neg_ℤ d)
turned_round d q m n = rep-same (rep-sub (rep-mul (rep-pos n) (rep q)) (rep-mul (rep-pos m) (rep d))) (rep-add (rep-mul (rep-pos n) (rep q)) (rep-mul (rep-pos m) (rep-neg (rep d)))) (omega arith)

pub dot_turned : (dx dy qx qy : ℤ) → dot qx qy (neg_ℤ dx) (neg_ℤ dy) ≡ neg_ℤ (dot dx dy qx qy)
dot_turned dx dy qx qy = rep-same (rep-add (rep-mul (rep qx) (rep-neg (rep dx))) (rep-mul (rep qy) (rep-neg (rep dy)))) (rep-neg (rep-add (rep-mul (rep dx) (rep qx)) (rep-mul (rep dy) (rep qy)))) (omega arith)

pub from_end : (p a b : ℤ) (m k : ℕ) → (pos (m + k) *ℤ (p -ℤ a)) -ℤ (pos m *ℤ (b -ℤ a)) ≡ (pos (m + k) *ℤ (p -ℤ b)) +ℤ (pos k *ℤ (b -ℤ a))
from_end p a b m k = rep-same (rep-sub (rep-mul (rep-pos (m + k)) (rep-sub (rep p) (rep a))) (rep-mul (rep-pos m) (rep-sub (rep b) (rep a)))) (rep-add (rep-mul (rep-pos (m + k)) (rep-sub (rep p) (rep b))) (rep-mul (rep-pos k) (rep-sub (rep b) (rep a)))) (omega arith)

pub dot_from_end : (px py ax ay bx by : ℤ) → dot (px -ℤ bx) (py -ℤ by) (bx -ℤ ax) (by -ℤ ay) +ℤ dot (bx -ℤ ax) (by -ℤ ay) (bx -ℤ ax) (by -ℤ ay) ≡ dot (bx -ℤ ax) (by -ℤ ay) (px -ℤ ax) (py -ℤ ay)
dot_from_end px py ax ay bx by =
    let dx = rep-sub (rep bx) (rep ax) in
    let dy = rep-sub (rep by) (rep ay) in
    let wx = rep-sub (rep px) (rep bx) in
    let wy = rep-sub (rep py) (rep by) in
    let qx = rep-sub (rep px) (rep ax) in
    let qy = rep-sub (rep py) (rep ay) in
    rep-same (rep-add (rep-add (rep-mul wx dx) (rep-mul wy dy)) (rep-add (rep-mul dx dx) (rep-mul dy dy))) (rep-add (rep-mul dx qx) (rep-mul dy qy)) (omega arith)

-- ---- order

multiple_not_negative : (n : ℕ) (z : ℤ) → pos 0 ≤ℤ z → pos 0 ≤ℤ (pos n *ℤ z)
multiple_not_negative n z h =
    let more : n * down z ≤ n * up z = mul-le-mul_left n (omega (arith, ints)) in
    omega (arith, ints)

pub square_not_negative : (z : ℤ) → pos 0 ≤ℤ (z *ℤ z)
square_not_negative (pos n) = omega (arith, ints)
square_not_negative (negsuc n) = omega (arith, ints)

pub dot_not_negative : (dx dy : ℤ) → pos 0 ≤ℤ dot dx dy dx dy
dot_not_negative dx dy = let x = square_not_negative dx in let y = square_not_negative dy in not_negative_sum (dx *ℤ dx) (dy *ℤ dy) x y where
  not_negative_sum : (m n : ℤ) → pos 0 ≤ℤ m → pos 0 ≤ℤ n → pos 0 ≤ℤ (m +ℤ n)
  not_negative_sum m n h k = omega (arith, ints)

pub multiple_le : (n : ℕ) (x y : ℤ) → x ≤ℤ y → (pos n *ℤ x) ≤ℤ (pos n *ℤ y)
multiple_le n x y h =
    let more : n * (up x + down y) ≤ n * (up y + down x) = mul-le-mul_left n (omega (arith, ints)) in
    omega (arith, ints)

pub le_of_multiple : (n : ℕ) (x y : ℤ) → 0 < n → (pos n *ℤ x) ≤ℤ (pos n *ℤ y) → x ≤ℤ y
le_of_multiple n x y some h =
    let more : n * (up x + down y) ≤ n * (up y + down x) = omega (arith, ints) in
    let less : up x + down y ≤ up y + down x = le_of_mul-le-mul_left more some in
    omega (arith, ints)

le_sum : (a b c x : ℤ) → x ≡ a +ℤ (b +ℤ c) → pos 0 ≤ℤ b → pos 0 ≤ℤ c → a ≤ℤ x
le_sum a b c x e h k = omega (arith, ints)

pub le_second : (a b x : ℤ) → x ≡ a +ℤ b → pos 0 ≤ℤ a → b ≤ℤ x
le_second a b x e h = omega (arith, ints)

-- a way k d that leads on from w, not back, leads no nearer
pub leads_away : (wx wy dx dy : ℤ) (n k : ℕ) → pos 0 ≤ℤ dot wx wy dx dy → (pos (n * n) *ℤ dot wx wy wx wy) ≤ℤ dot ((pos n *ℤ wx) +ℤ (pos k *ℤ dx)) ((pos n *ℤ wy) +ℤ (pos k *ℤ dy)) ((pos n *ℤ wx) +ℤ (pos k *ℤ dx)) ((pos n *ℤ wy) +ℤ (pos k *ℤ dy))
leads_away wx wy dx dy n k h = le_sum _ _ _ _ (square_of_sum wx wy dx dy n k) (multiple_not_negative (2 * (n * k)) _ h) (multiple_not_negative (k * k) _ (dot_not_negative dx dy))
