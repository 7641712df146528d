use Rattle.auc_threads.proofs.CountingLaws.{counts_all, counts_end, counts_more}
use Rattle.auc_threads.proofs.hub.count.Goals as goal

pub loop-preserved : goal.loop-preserved
loop-preserved g c =
    let inv = c.loop.invariant in
    let heard = rw c.in-On.is at c.hear.ensures in
    record { counted = counts_more _ _ _ _ _ _ _ _ inv.counted c.take-taken.ensures.seat heard; objects = inv.objects; persons = inv.persons }

pub returns-in-All-clause-counts : goal.returns-in-All-clause-counts
returns-in-All-clause-counts g c =
    let heard = rw c.in-All.is at c.hear.ensures in
    counts_all _ _ _ c.hear.new.hub _ _ _ _ c.loop.invariant.counted c.take-taken.ensures.seat _ heard c.close_all.ensures.hub

pub returns-in-End-clause-counts : goal.returns-in-End-clause-counts
returns-in-End-clause-counts g c =
    let heard = rw c.in-End.is at c.hear.ensures in
    counts_end _ _ _ c.hear.new.hub _ _ _ _ c.loop.invariant.counted c.take-taken.ensures.seat _ c.in-End.why heard c.close_all-in-End.ensures.hub
