use Rattle.std.proofs.Common.{get_or, arith}
use Rattle.auc_hall.proofs.QueueLaws.{blank, entry}
use Rattle.auc_hall.proofs.AnswerLaws.{no_flags, flag_more}
use Rattle.auc_hall.proofs.hall_set.reached_flags.Goals as goal

pub loop-entry-init : goal.loop-entry-init
loop-entry-init c = no_flags c.in_ok-flags.flags.items c.args.persons (c.in_ok-flags.ensures.items_if_clones_equal (λ y e. e))

pub index_mut-requires : goal.index_mut-requires
index_mut-requires c =
    let e = entry c.args.queue.now c.loop-entry.entry-index c.loop-entry-test.true in
    omega (arith, c.requires.within c.loop-entry.entry-index (get_or c.args.queue.now c.loop-entry.entry-index blank) e, c.loop-entry.invariant.size)

pub loop-entry-preserved : goal.loop-entry-preserved
loop-entry-preserved c = flag_more c.args.queue.now c.args.persons c.loop-entry.flags.items c.loop-entry.entry-index c.requires c.loop-entry-test.true c.loop-entry.invariant
