-- Warm starts: prices that a run may start from.
use Rattle.std.proofs.Common.{◌≡◌, ℤ, List, None, All, T, not, subst, sym}
use Rattle.std.specs.Int.Signed.{lt_z_no}
use Rattle.auc_graph.specs.Price.{IsPrice}
use Rattle.auc_claim.specs.Start.{IsStartPrice, is_high, high_price}
use Rattle.auc_claim.proofs.ClaimLaws.{all_fail}

pub none_too_high : (prices : List ℤ) → All IsPrice prices → None ≡ high_price prices → All IsStartPrice prices
none_too_high prices fair none k d lt =
    let f = fair k d lt in
    let low = all_fail is_high prices (sym none) k d lt in
    record { low = f.low; high = lt_z_no (subst (λ b. T (not b)) (sym low) tt) }
