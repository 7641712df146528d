use Rattle.std.proofs.Common.{refl}
use Rattle.auc_persons.specs.declared.bidder.bound.TheConstants.{NO_BOUND}
use Rattle.auc_persons.specs.declared.bidder.bound.Bound.{Bound}
use Rattle.auc_persons.proofs.BlockNumbers.{appended_none, appended_push}
use Rattle.auc_persons.proofs.bidder.blocks.append_bounds.Goals as goal

pub loop-block-init : goal.loop-block-init
loop-block-init c = appended_none c.args.person c.args.bounds.now.items

pub loop-block-preserved : goal.loop-block-preserved
loop-block-preserved c =
    let block = c.loop-block.block-counter in
    let new : Bound = record { least = NO_BOUND; person = c.of.result; block = c.of-in-loop-block.result } in
    rw c.in_ok-push.ensures.items (appended_push c.args.person block c.args.bounds.now.items c.loop-block.bounds.items new c.loop-block.invariant (c.of.ensures, c.of-in-loop-block.ensures) refl)
