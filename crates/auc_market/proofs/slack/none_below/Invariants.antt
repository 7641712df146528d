use Rattle.std.specs.Prelude.{All, ◌≤ℤ◌, take}
use Rattle.auc_market.specs.Scan.{short_value}
use Rattle.auc_market.proofs.slack.none_below.Given as goal

abbrev pub invariant-loop-arc : goal.invariant-loop-arc
invariant-loop-arc l = All (λ b. l.least ≤ℤ short_value l.scale l.prices b) (take l.arc-index l.row)
