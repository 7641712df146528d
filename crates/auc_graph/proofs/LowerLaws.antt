-- The least number that, scaled, reaches a bound: its test, that there is one at most, and the quotient that finds it.
use Rattle.std.proofs.Common.{◌≡◌, ℕ, zero, suc, ◌+◌, ◌*◌, ◌^◌, ◌≤◌, ◌<◌, true, refl, ap, subst, arith}
use Rattle.std.specs.Prelude.{ℤ, pos, neg_ℤ, ◌+ℤ◌, ◌-ℤ◌, ◌*ℤ◌, ◌≤ℤ◌, ◌<ℤ◌, int_le, int_lt, int_div, int_rem, unsigned_abs, FitsSigned}
use Rattle.std.specs.Int.{w128}
use Rattle.std.proofs.Math.Nat.{mul-le-mul_left, mul_comm}
use Rattle.std.proofs.Math.IntN.{*ℤ_comm}
use Rattle.std.proofs.lemmas.Int.{ints, by_lt_z, quot-rem, rem_below, unsigned_abs-mul}
use Rattle.auc_graph.specs.Dual.{IsLower, is_lower}
use Rattle.auc_graph.proofs.Scale.{scale-add, scale-cancel, scale-one}

-- ---- one number, and its test

pub lower_once : (s : ℕ) (d l m : ℤ) → IsLower s d l → IsLower s d m → l ≡ m
lower_once s d l m h g = omega (arith, ints, h.least m g.reaches, g.least l h.reaches)

lower_from : (n : ℕ) (d l : ℤ) → d ≤ℤ (pos (n + 1) *ℤ l) → (pos (n + 1) *ℤ l) <ℤ (d +ℤ pos (n + 1)) → IsLower (n + 1) d l
lower_from n d l reaches below = record {
  reaches = reaches;
  least = λ k h. scale-cancel n l k (omega (arith, ints, reaches, below, h));
}

-- else one less would reach it too
lower_below : (n : ℕ) (d l : ℤ) → IsLower (n + 1) d l → (pos (n + 1) *ℤ l) <ℤ (d +ℤ pos (n + 1))
lower_below n d l is =
    by_lt_z (pos (n + 1) *ℤ l) (d +ℤ pos (n + 1))
    (λ (lt : (pos (n + 1) *ℤ l) <ℤ (d +ℤ pos (n + 1))). lt)
    (λ (le : (d +ℤ pos (n + 1)) ≤ℤ (pos (n + 1) *ℤ l)).
    let e : (l -ℤ pos 1) +ℤ pos 1 ≡ l = omega (arith, ints) in
    let all = ap (λ (z : ℤ). pos (n + 1) *ℤ z) e in
    let less = is.least (l -ℤ pos 1) (omega (arith, ints, le, all, scale-add (n + 1) (l -ℤ pos 1) (pos 1), scale-one (n + 1))) in
    absurd (omega (arith, ints, less)))

pub lower_passed : (n : ℕ) (d l : ℤ) → is_lower (n + 1) d l ≡ true → IsLower (n + 1) d l
lower_passed n d l h = lower_from n d l (grind (arith, ints, h)) (grind (arith, ints, h))

pub lower_passes : (n : ℕ) (d l : ℤ) → IsLower (n + 1) d l → is_lower (n + 1) d l ≡ true
lower_passes n d l is = grind (arith, ints, is.reaches, lower_below n d l is)

pub tested_second : (s : ℕ) (d l : ℤ) → int_le d (pos s *ℤ l) ≡ true → int_lt (pos s *ℤ l) (d +ℤ pos s) ≡ is_lower s d l
tested_second s d l h = rw h refl

-- ---- the quotient, and one more where it doesn't reach the bound

lower_at : (s : ℕ) (d l : ℤ) → 0 < s → d ≤ℤ (pos s *ℤ l) → (pos s *ℤ l) <ℤ (d +ℤ pos s) → IsLower s d l
lower_at zero d l some reaches below = absurd (omega arith)
lower_at (suc n) d l some reaches below =
    let e : n + 1 ≡ suc n = omega arith in
    subst (λ (s : ℕ). IsLower s d l) e (lower_from n d l (rw e reaches) (rw e below))

module _ (s : ℕ) (d : ℤ) (some : 0 < s) where
  -- whatever the sign: the rest is less than the scale
  near_is : ((d -ℤ pos s) <ℤ (pos s *ℤ int_div d (pos s))) × ((pos s *ℤ int_div d (pos s)) <ℤ (d +ℤ pos s))
  near_is =
      let parts = quot-rem d (pos s) in
      let rest : unsigned_abs (int_rem d (pos s)) < s = rem_below d (pos s) some in
      let turned = *ℤ_comm (int_div d (pos s)) (pos s) in
      (omega (arith, ints, parts, rest, turned), omega (arith, ints, parts, rest, turned))

  next_is : pos s *ℤ (int_div d (pos s) +ℤ pos 1) ≡ pos s *ℤ int_div d (pos s) +ℤ pos s
  next_is = omega (arith, ints, scale-add s (int_div d (pos s)) (pos 1), scale-one s)

  pub lower_is_near : d ≤ℤ (pos s *ℤ int_div d (pos s)) → IsLower s d (int_div d (pos s))
  lower_is_near le = lower_at s d (int_div d (pos s)) some le near_is.1

  pub lower_is_next : (pos s *ℤ int_div d (pos s)) <ℤ d → IsLower s d (int_div d (pos s) +ℤ pos 1)
  lower_is_next lt = lower_at s d (int_div d (pos s) +ℤ pos 1) some (omega (arith, ints, near_is.0, next_is)) (omega (arith, ints, lt, next_is))

  -- and none of these numbers is too great, since the bound isn't
  module _ (few : s < 2 ^ 32) (low : neg_ℤ (pos (2 ^ 96)) ≤ℤ d) (high : d ≤ℤ pos (2 ^ 96)) where
    pub near_fits : FitsSigned w128 (pos s *ℤ int_div d (pos s))
    near_fits = omega (arith, ints, near_is, few, low, high)

    factor_small : (x : ℤ) → unsigned_abs x ≤ unsigned_abs (pos s *ℤ x)
    factor_small x =
        let abs : unsigned_abs (pos s *ℤ x) ≡ s * unsigned_abs x = unsigned_abs-mul (pos s) x in
        let le : unsigned_abs x * 1 ≤ unsigned_abs x * s = mul-le-mul_left (unsigned_abs x) some in
        omega (arith, abs, le, mul_comm (unsigned_abs x) s)

    pub next_fits : FitsSigned w128 (int_div d (pos s) +ℤ pos 1)
    next_fits =
        let small = factor_small (int_div d (pos s) +ℤ pos 1) in
        omega (arith, ints, near_is, next_is, few, low, high, small)
