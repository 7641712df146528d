use Rattle.std.proofs.Common.{◌≡◌, length, map, take}
use Rattle.auc_dense.specs.Tried.{scaled}
use Rattle.auc_dense.proofs.handing.put_prices.Given as goal

abbrev pub invariant-loop-object : goal.invariant-loop-object
invariant-loop-object l = (length l.prices ≡ length l.plain) × (take l.object l.prices ≡ map (scaled l.scale) (take l.object l.plain))
