use Rattle.std.proofs.Common.{get_or, Some, arith}
use Rattle.std.proofs.lemmas.List.{length-set}
use Rattle.auc_hall.proofs.ExchangeLaws.{under_way, goes_on, ends}
use Rattle.auc_hall.proofs.QueueLaws.{entry, in_queue, blank}
use Rattle.auc_hall.proofs.Options.{is_within}
use Rattle.auc_hall.proofs.exchange.exchange.Goals as goal

pub bounds-holder-step : goal.bounds-holder-step
bounds-holder-step c =
    let w = c.loop-at.invariant c.requires.0 c.requires.1 in
    let h = entry c.args.queue.now c.loop-at.at (in_queue c.requires.0 c.args.queue.now c.loop-at.at c.loop-at.arc w.has) in
    let lt = is_within c.loop-at.holder (get_or c.args.queue.now c.loop-at.at blank).arc.object (get_or c.args.queue.now c.loop-at.at blank).person (w.held c.loop-at.at (get_or c.args.queue.now c.loop-at.at blank) h c.loop-at-test.true (omega arith)) in
    omega (arith, lt, length-set c.loop-at.holder c.loop-at.arc.object (Some (get_or c.args.queue.now c.loop-at.at blank).person))

pub loop-at-smaller : goal.loop-at-smaller
loop-at-smaller c =
    let h = entry c.args.queue.now c.loop-at.at (in_queue c.requires.0 c.args.queue.now c.loop-at.at c.loop-at.arc (c.loop-at.invariant c.requires.0 c.requires.1).has) in
    c.requires.1.trail.before c.loop-at.at (get_or c.args.queue.now c.loop-at.at blank) h c.loop-at-test.true

pub loop-at-init : goal.loop-at-init
loop-at-init c = λ t path. under_way t c.args.queue.now c.args.choice.now c.args.holder.now c.args.found.at c.args.found.arc path

pub loop-at-preserved : goal.loop-at-preserved
loop-at-preserved c = λ t path.
    let w = c.loop-at.invariant t path in
    let h = entry c.args.queue.now c.loop-at.at (in_queue t c.args.queue.now c.loop-at.at c.loop-at.arc w.has) in
    goes_on t c.args.queue.now c.args.choice.now c.loop-at.choice c.loop-at.holder c.args.holder.now c.args.found.arc.object c.loop-at.at c.loop-at.arc (get_or c.args.queue.now c.loop-at.at blank) w path.trail c.loop-at-test.true h

pub returns-clause-matched : goal.returns-clause-matched
returns-clause-matched c = λ t path. (ends t c.args.queue.now c.args.choice.now c.loop-at.choice c.loop-at.holder c.args.holder.now c.args.found.arc.object c.loop-at.at c.loop-at.arc (c.loop-at.invariant t path) path.trail (omega arith)).matched

pub returns-clause-exchange : goal.returns-clause-exchange
returns-clause-exchange c = λ t path. (ends t c.args.queue.now c.args.choice.now c.loop-at.choice c.loop-at.holder c.args.holder.now c.args.found.arc.object c.loop-at.at c.loop-at.arc (c.loop-at.invariant t path) path.trail (omega arith)).exchange

pub returns-clause-first : goal.returns-clause-first
returns-clause-first c = (ends c.requires.0 c.args.queue.now c.args.choice.now c.loop-at.choice c.loop-at.holder c.args.holder.now c.args.found.arc.object c.loop-at.at c.loop-at.arc (c.loop-at.invariant c.requires.0 c.requires.1) c.requires.1.trail (omega arith)).first

pub returns-clause-kept : goal.returns-clause-kept
returns-clause-kept c = (ends c.requires.0 c.args.queue.now c.args.choice.now c.loop-at.choice c.loop-at.holder c.args.holder.now c.args.found.arc.object c.loop-at.at c.loop-at.arc (c.loop-at.invariant c.requires.0 c.requires.1) c.requires.1.trail (omega arith)).kept
