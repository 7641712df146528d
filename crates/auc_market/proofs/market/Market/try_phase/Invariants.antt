use Rattle.std.specs.Prelude.{◌≡◌, ◌≤◌, ◌-◌, ◌^◌}
use Rattle.auc_market.specs.Position.{Spends}
use Rattle.auc_market.proofs.market.Market.try_phase.Given as goal

abbrev pub invariant-loop-few : goal.invariant-loop-few
invariant-loop-few g l = record {
  spends : Spends l.bids l.left l.fn.self l.self;
  asked : g.W.Watch.has_stopped l.watch ≡ g.W.Watch.has_stopped l.fn.watch;
  few : l.few ≤ l.left;
  whole : l.attempt.bids ≡ 2 ^ 64 - 1 → l.few ≡ l.left;
}

abbrev pub decreases-loop-few : goal.decreases-loop-few
decreases-loop-few g l = l.left
