use Rattle.std.specs.Prelude.{◌+◌, ◌*◌}
use Rattle.auc_market.specs.Scan.{IsFound, short_value}
use Rattle.auc_market.proofs.scan.scan.Given as goal

abbrev pub invariant-loop-pair : goal.invariant-loop-pair
invariant-loop-pair l = IsFound (short_value l.scale l.prices) l.row (2 * l.pair + 1) l.found
