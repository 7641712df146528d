use Rattle.auc_persons.specs.Blocks.{AreAppended}
use Rattle.auc_persons.proofs.bidder.blocks.append_bounds.Given as goal

abbrev pub invariant-loop-block : goal.invariant-loop-block
invariant-loop-block l = AreAppended l.person l.block-counter l.fn.bounds.items l.bounds.items
