use Rattle.std.specs.Prelude.{All, take}
use Rattle.auc_dense.specs.Tried.{IsPlainPrice}
use Rattle.auc_dense.proofs.trying.are_plain.Given as goal

abbrev pub invariant-loop-price : goal.invariant-loop-price
invariant-loop-price l = All (IsPlainPrice l.scale) (take l.price-index l.prices)
