-- The values that the code computes fit 128 bits, and with small costs and prices 64.
use Rattle.std.proofs.Common.{◌≡◌, ℕ, ◌*◌, ◌<◌, ◌≤◌, ◌^◌, ◌+◌, length, All, refl, sym, ap, subst, ⊎_elim, ◌∙◌, arith, w64, pos}
use Rattle.std.specs.Prelude.{ℤ, neg_ℤ, ◌+ℤ◌, ◌*ℤ◌, ◌≤ℤ◌, FitsSigned, unsigned_abs}
use Rattle.std.specs.Int.{w128}
use Rattle.std.proofs.Common.{lit<}
use Rattle.std.proofs.lemmas.Int.{ints, fits_signed_mul, unsigned_abs-mul, to_z-of_z}
use mir.Val.{to_z, of_z}
use Rattle.std.proofs.Math.Nat.{mul-le-mul_left}
use Rattle.std.proofs.Common.{true, eqb, List, eq-eqb}
use Rattle.std.specs.Prelude.{int_le}
use Rattle.auc_graph.specs.declared.arc.Arc.{Arc}
use Rattle.std.proofs.lemmas.Bool.{cases_lt}
use Rattle.std.proofs.lemmas.List.{get_or_past}
use Rattle.std.proofs.lemmas.List.Elements.{All-get_or}
use Rattle.auc_graph.specs.declared.limits.TheConstants.{MOST_PERSONS, MOST_COST}
use Rattle.auc_graph.specs.Price.{IsPrice}
use Rattle.auc_graph.specs.Dual.{arc_value, price_at}
use Rattle.auc_claim.specs.Claim.{is_slack_beside}
use Rattle.auc_graph.proofs.BoundLaws.{scaled_abs}

pub wide : (z : ℤ) → FitsSigned w64 z → FitsSigned w128 z
wide z f = omega (arith, ints, f)

abs_below : (z : ℤ) → FitsSigned w64 z → unsigned_abs z ≤ 2 ^ 63
abs_below z f = omega (arith, ints, f)

pub product_fits : (s : ℕ) (c : ℤ) → s < 2 ^ 32 → FitsSigned w64 c → FitsSigned w128 (pos s *ℤ c)
product_fits s c lt f = fits_signed_mul w128 (pos s) c (2 ^ 32) (2 ^ 63) (omega arith) (abs_below c f) (lit< tt)

product_low : (s : ℕ) (c : ℤ) → s < 2 ^ 32 → FitsSigned w64 c → unsigned_abs (pos s *ℤ c) ≤ 2 ^ 95
product_low s c lt f =
    let abs : unsigned_abs (pos s *ℤ c) ≡ s * unsigned_abs c = unsigned_abs-mul (pos s) c in
    let le : s * unsigned_abs c ≤ s * 2 ^ 63 = mul-le-mul_left s (abs_below c f) in
    omega (arith, abs, le)

pub value_fits : (s : ℕ) (c p : ℤ) → s < 2 ^ 32 → FitsSigned w64 c → FitsSigned w64 p → FitsSigned w128 (pos s *ℤ c +ℤ p)
value_fits s c p lt f g = omega (arith, ints, product_low s c lt f, g)

pub value_small : (s : ℕ) (c p : ℤ) → s < 2 ^ 32 → FitsSigned w64 c → FitsSigned w64 p → (neg_ℤ (pos (2 ^ 96)) ≤ℤ (pos s *ℤ c +ℤ p)) × ((pos s *ℤ c +ℤ p) ≤ℤ pos (2 ^ 96))
value_small s c p lt f g = (omega (arith, ints, product_low s c lt f, g), omega (arith, ints, product_low s c lt f, g))

pub value_more_fits : (s : ℕ) (c p : ℤ) → s < 2 ^ 32 → FitsSigned w64 c → FitsSigned w64 p → FitsSigned w128 (pos s *ℤ c +ℤ p +ℤ pos 1)
value_more_fits s c p lt f g = omega (arith, ints, product_low s c lt f, g)

-- ---- small costs and prices

module _ (s : ℕ) (c p : ℤ) (le : s ≤ MOST_PERSONS + 1) (low : neg_ℤ MOST_COST ≤ℤ c) (high : c ≤ℤ MOST_COST) (price : IsPrice p) where
  pub small_product : FitsSigned w64 (pos s *ℤ c)
  small_product = omega (arith, ints, scaled_abs s c le low high)

  pub small_fits : FitsSigned w64 (pos s *ℤ c +ℤ p)
  small_fits = omega (arith, ints, scaled_abs s c le low high, price.low, price.high)

  pub small_high : (pos s *ℤ c +ℤ p) ≤ℤ pos (2 ^ 62)
  small_high = omega (arith, ints, scaled_abs s c le low high, price.low, price.high)

  pub small_more : FitsSigned w64 (pos s *ℤ c +ℤ p +ℤ pos 1)
  small_more = omega (arith, ints, scaled_abs s c le low high, price.low, price.high)

-- an object without a price has price 0
pub fair_at : (prices : List ℤ) (j : ℕ) → All IsPrice prices → IsPrice (price_at prices j)
fair_at prices j fair =
    ⊎_elim
    (λ (lt : j < length prices). All-get_or IsPrice prices j (pos 0) lt fair)
    (λ (le : length prices ≤ j). subst (λ (z : ℤ). IsPrice z) (sym (get_or_past prices j (pos 0) le)) (record { low = omega (arith, ints); high = omega (arith, ints) }))
    (cases_lt j (length prices))

pub slack_beside_is : (s : ℕ) (prices : List ℤ) (c a : Arc) (x y : ℤ) → c.person ≡ a.person → x ≡ arc_value s prices c → y ≡ arc_value s prices a → int_le x (y +ℤ pos 1) ≡ is_slack_beside s prices c a
slack_beside_is s prices c a x y person mine theirs =
    let same : eqb c.person a.person ≡ true = eq-eqb c.person a.person person in
    rw (same, mine, theirs) refl

-- the test of two signed numbers as the code makes it
pub same_bits : (a b : ℤ) → FitsSigned w128 a → FitsSigned w64 b → of_z w128 a ≡ of_z w128 (to_z w64 (of_z w64 b)) → a ≡ b
same_bits a b f g e =
    sym (to_z-of_z w128 a f) ∙ ap (to_z w128) (e ∙ ap (of_z w128) (to_z-of_z w64 b g)) ∙ to_z-of_z w128 b (wide b g)

pub other_bits : (a b : ℤ) → FitsSigned w64 b → (of_z w128 a ≡ of_z w128 (to_z w64 (of_z w64 b)) → ⊥) → a ≡ b → ⊥
other_bits a b g differ same = differ (ap (of_z w128) (same ∙ sym (to_z-of_z w64 b g)))
