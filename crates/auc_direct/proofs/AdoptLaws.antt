-- The result of adopting a proposal.
use Rattle.std.proofs.Common.{ℕ, ℤ, pos, w64, ◌+◌, ◌<◌, ◌≤◌, arith, List, length, set, inl, inr, ap, sym, subst, ◌∙◌}
use Rattle.std.specs.Prelude.{All, FitsSigned, ◌*◌, ◌^◌, ◌*ℤ◌, ◌≤ℤ◌, unsigned_abs}
use Rattle.std.proofs.lemmas.Bool.{cases_eq}
use Rattle.std.proofs.lemmas.Int.{ints}
use Rattle.std.proofs.lemmas.List.{get_or_default, get_or-set_same, get_or-set_other}
use Rattle.auc_graph.specs.Dual.{price_at}
use Rattle.auc_graph.specs.Price.{IsPrice}
use Rattle.auc_graph.specs.declared.limits.TheConstants.{MOST_SCALE}
use Rattle.auc_graph.proofs.ValueBounds.{product_abs}
use Rattle.auc_market.proofs.Bounds.{product_low}

-- a difference of two numbers of 32 bits, scaled
pub scaled_price : (s d : ℤ) → pos 1 ≤ℤ s → s ≤ℤ MOST_SCALE → pos 0 ≤ℤ d → d ≤ℤ pos (2 ^ 32) → IsPrice (s *ℤ d) × FitsSigned w64 (s *ℤ d)
scaled_price s d a b plain most =
    let h : unsigned_abs (s *ℤ d) ≤ 4194305 * 2 ^ 32 = product_abs s d 4194305 (2 ^ 32) (omega (arith, ints)) (omega (arith, ints)) in
    let low : pos 0 ≤ℤ (s *ℤ d) = product_low s d (omega (arith, ints)) (omega (arith, ints)) in
    (record { low = low; high = omega (arith, ints, h) }, omega (arith, ints, h))

-- one price more
pub price_next : (prices : List ℤ) (n : ℕ) (amount : ℤ) → n < length prices → IsPrice amount → ((k : ℕ) → k < n → IsPrice (price_at prices k)) → (k : ℕ) → k < n + 1 → IsPrice (price_at (set prices n amount) k)
price_next prices n amount room here below k lt =
    elim (cases_eq k n) [
      | inl e ↦ subst IsPrice (sym (ap (price_at (set prices n amount)) e ∙ get_or-set_same prices n amount (pos 0) room)) here
      | inr ne ↦ subst IsPrice (sym (get_or-set_other prices n k amount (pos 0) ne)) (below k (grind (arith, lt, ne)))
    ]

pub prices_all : (prices : List ℤ) (n : ℕ) → length prices ≤ n → ((k : ℕ) → k < n → IsPrice (price_at prices k)) → All IsPrice prices
prices_all prices n over each k d lt = subst IsPrice (get_or_default prices k (pos 0) d lt) (each k (omega (arith, lt, over)))
