use Rattle.std.proofs.Common.{ℕ}
use Rattle.auc_letters.specs.declared.limits.TheConstants.{NOBODY}
use Rattle.auc_market.specs.Market.{HaveAllBut}
use Rattle.auc_market.specs.Position.{IsFree, Spends}
use Rattle.auc_market.proofs.market.Market.chain.Given as goal

abbrev pub invariant-loop-left : goal.invariant-loop-left
invariant-loop-left l = record {
  free : IsFree l.self l.person;
  spends : Spends l.fn.left l.left l.fn.self l.self;
  but : (n : ℕ) → HaveAllBut n l.fn.self.owns l.first NOBODY → HaveAllBut n l.self.owns l.person NOBODY;
}

abbrev pub decreases-loop-left : goal.decreases-loop-left
decreases-loop-left l = l.left
