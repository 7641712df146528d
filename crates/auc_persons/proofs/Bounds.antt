-- The range of values.
use Rattle.std.proofs.Common.{◌≡◌, ℕ, ◌+◌, ◌*◌, ◌≤◌, ◌^◌, arith, w64, pos}
use Rattle.std.specs.Prelude.{ℤ, ◌+ℤ◌, ◌-ℤ◌, ◌*ℤ◌, ◌≤ℤ◌, neg_ℤ, FitsSigned, unsigned_abs}
use Rattle.std.proofs.lemmas.Int.{ints, unsigned_abs-mul}
use Rattle.std.proofs.Math.Nat.{mul-le-mul_left}
use Rattle.auc_graph.specs.Price.{IsPrice}
use Rattle.auc_persons.specs.Scan.{IsValue}

pub scaled_fits : (s w : ℤ) → unsigned_abs (s *ℤ w) ≤ 4194305 * (2 * 10 ^ 9) → FitsSigned w64 (s *ℤ w)
scaled_fits s w h = omega (arith, ints, h)

pub scaled_high : (s w : ℤ) → unsigned_abs (s *ℤ w) ≤ 4194305 * (2 * 10 ^ 9) → (s *ℤ w) ≤ℤ pos (2 ^ 53)
scaled_high s w h = omega (arith, ints, h)

pub diff_fits : (b a : ℤ) → IsValue b → IsValue a → FitsSigned w64 (b -ℤ a)
diff_fits b a i j = omega (arith, ints, i.low, i.high, j.low, j.high)

pub part_fits : (p b a : ℤ) → IsPrice p → IsValue b → IsValue a → FitsSigned w64 (p +ℤ (b -ℤ a))
part_fits p b a h i j = omega (arith, ints, h.low, h.high, i.low, i.high, j.low, j.high)

pub next_fits : (p b a e : ℤ) → IsPrice p → IsValue b → IsValue a → pos 1 ≤ℤ e → e ≤ℤ pos (2 ^ 60) → FitsSigned w64 (p +ℤ (b -ℤ a) +ℤ e)
next_fits p b a e h i j k l = omega (arith, ints, h.low, h.high, i.low, i.high, j.low, j.high)
