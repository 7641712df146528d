use Rattle.std.proofs.Common.{◌≡◌, None, rules, sym}
use Rattle.auc_threads.proofs.WorkedLaws.{first_found, first_more}
use Rattle.auc_threads.proofs.gathering.persons_reason.Goals as goal

pub returns-in-Some-clause-first : goal.returns-in-Some-clause-first
returns-in-Some-clause-first g c = sym (first_found (λ w. w.why) c.args.works.now c.loop-work.work-index c.work-item.result c.in-Some.why c.loop-work-test.true c.loop-work.invariant c.work-item.is c.in-Some.is)

pub loop-work-preserved : goal.loop-work-preserved
loop-work-preserved g c =
    let none : c.work-item.result.why ≡ None = search rules in
    first_more (λ w. w.why) c.args.works.now c.loop-work.work-index c.work-item.result c.loop-work-test.true c.loop-work.invariant c.work-item.is none
