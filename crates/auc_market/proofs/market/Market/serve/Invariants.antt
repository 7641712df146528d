use Rattle.std.proofs.Common.{◌<◌, ◌≤◌, ◌≡◌, ◌≢◌, length}
use Rattle.auc_letters.specs.declared.limits.TheConstants.{NOBODY}
use Rattle.auc_market.specs.Market.{HaveAllBut, own_at}
use Rattle.auc_market.specs.Position.{Spends}
use Rattle.auc_market.proofs.market.Market.serve.Given as goal

abbrev pub invariant-loop-left : goal.invariant-loop-left
invariant-loop-left l = record {
  known : l.person < length l.fn.self.table.rows;
  later : l.other < length l.fn.self.table.rows;
  most : l.fresh ≤ l.until;
  free : l.fresh < l.until → (own_at l.self.owns l.fresh).object ≡ NOBODY;
  neither : l.fresh < l.until → (l.fresh ≢ l.person) × (l.fresh ≢ l.other);
  have : HaveAllBut l.fresh l.self.owns l.person l.other;
  spends : Spends l.fn.left l.left l.fn.self l.self;
}

abbrev pub decreases-loop-left : goal.decreases-loop-left
decreases-loop-left l = l.left
