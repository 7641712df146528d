-- The range of an arc's value: its scaled cost plus a price.
use Rattle.std.proofs.Common.{◌≡◌, ℕ, ◌+◌, ◌*◌, ◌≤◌, ◌^◌, arith, w64, pos}
use Rattle.std.specs.Prelude.{ℤ, ◌+ℤ◌, ◌*ℤ◌, ◌≤ℤ◌, neg_ℤ, FitsSigned, unsigned_abs}
use Rattle.std.proofs.lemmas.Int.{ints, unsigned_abs-mul}
use Rattle.std.proofs.Math.Nat.{mul-le-mul_left}
use Rattle.auc_graph.specs.declared.limits.TheConstants.{MOST_SCALE}
use Rattle.auc_graph.specs.Price.{IsPrice}

pub product_abs : (s c : ℤ) (m n : ℕ) → unsigned_abs s ≤ m → unsigned_abs c ≤ n → unsigned_abs (s *ℤ c) ≤ m * n
product_abs s c m n a b =
    let e : unsigned_abs (s *ℤ c) ≡ unsigned_abs s * unsigned_abs c = unsigned_abs-mul s c in
    let f : unsigned_abs s * unsigned_abs c ≤ unsigned_abs s * n = mul-le-mul_left (unsigned_abs s) b in
    let g : n * unsigned_abs s ≤ n * m = mul-le-mul_left n a in
    omega (arith, e, f, g)

pub product_below : (s c : ℤ) → pos 1 ≤ℤ s → s ≤ℤ MOST_SCALE → neg_ℤ (pos (10 ^ 9)) ≤ℤ c → c ≤ℤ pos (10 ^ 9) → unsigned_abs (s *ℤ c) ≤ 4194305 * 10 ^ 9
product_below s c a b d e = product_abs s c 4194305 (10 ^ 9) (omega (arith, ints)) (omega (arith, ints))

pub product_fits : (s c : ℤ) → unsigned_abs (s *ℤ c) ≤ 4194305 * 10 ^ 9 → FitsSigned w64 (s *ℤ c)
product_fits s c h = omega (arith, ints, h)

pub value_fits : (s c p : ℤ) → unsigned_abs (s *ℤ c) ≤ 4194305 * 10 ^ 9 → IsPrice p → FitsSigned w64 (s *ℤ c +ℤ p)
value_fits s c p h i = omega (arith, ints, h, i.low, i.high)

pub value_low : (s c p : ℤ) → unsigned_abs (s *ℤ c) ≤ 4194305 * 10 ^ 9 → IsPrice p → neg_ℤ (pos (2 ^ 52)) ≤ℤ (s *ℤ c +ℤ p)
value_low s c p h i = omega (arith, ints, h, i.low, i.high)

pub value_high : (s c p : ℤ) → unsigned_abs (s *ℤ c) ≤ 4194305 * 10 ^ 9 → IsPrice p → (s *ℤ c +ℤ p) ≤ℤ pos (2 ^ 61 + 2 ^ 52)
value_high s c p h i = omega (arith, ints, h, i.low, i.high)

pub scaled_abs : (s w : ℤ) → pos 1 ≤ℤ s → s ≤ℤ MOST_SCALE → pos 0 ≤ℤ w → w ≤ℤ pos (2 * 10 ^ 9) → unsigned_abs (s *ℤ w) ≤ 4194305 * (2 * 10 ^ 9)
scaled_abs s w a b d e = product_abs s w 4194305 (2 * 10 ^ 9) (omega (arith, ints)) (omega (arith, ints))

pub price_fits : (p : ℤ) → IsPrice p → FitsSigned w64 p
price_fits p h = omega (arith, ints, h.low, h.high)
