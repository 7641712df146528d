use Rattle.std.specs.Prelude.{unsigned_abs, ◌+◌, ◌*◌, ◌-◌, ◌^◌, ◌≡◌}
use Rattle.auc_market.specs.Eps.{IsEpsOf}
use Rattle.auc_direct.specs.Runs.{Plays}
use Rattle.auc_direct.proofs.run.play_phases.Given as goal

abbrev pub invariant-loop-played : goal.invariant-loop-played
invariant-loop-played g l = record {
  eps_is : IsEpsOf l.rows l.eps;
  plays : Plays l.bids l.fn.market l.market;
  asked : g.W.Watch.has_stopped l.watch ≡ g.W.Watch.has_stopped l.fn.watch;
}

-- only the first phase may be given up, and after it eps falls
abbrev pub decreases-loop-played : goal.decreases-loop-played
decreases-loop-played g l = unsigned_abs l.eps + ((2 ^ 64 - 1) - l.attempt.bids) * (2 ^ 62)
