-- Prices that a run may start from.
use Rattle.std.proofs.Common.{◌≡◌, ℤ, List, None, All, T, not, subst, sym}
use Rattle.std.specs.Int.Signed.{lt_z_no}
use Rattle.auc_graph.specs.Price.{IsPrice}
use Rattle.auc_claim.specs.Start.{IsStartPrice, is_high, high_price}
use Rattle.auc_claim.proofs.ClaimLaws.{all_fail}
