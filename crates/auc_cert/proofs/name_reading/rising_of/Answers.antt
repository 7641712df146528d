use Rattle.std.proofs.Common.{refl, sym, ◌-◌, ◌+◌}
use Rattle.auc_cert.proofs.RisingRuns.{one_more_read, rising_breaks}
use Rattle.auc_cert.proofs.name_reading.rising_of.Goals as goal

pub returns-in-None-clause-line : goal.returns-in-None-clause-line
returns-in-None-clause-line c = λ _. (
  c.loop-done.done,
  refl,
  rising_breaks c.args.front.now c.args.most c.args.last c.args.count c.loop-done.done c.args.bytes.now c.loop-done.numbers.items c.loop-done.rest.now c.loop-done.least c.least_here.result (c.args.most - (c.args.count - (c.loop-done.done + 1))) c.requires.most c.loop-done.invariant c.loop-done-test.true refl
      c.least_here.ensures.no_more c.in-None.ensures.exact,
)

pub loop-done-preserved : goal.loop-done-preserved
loop-done-preserved c =
    rw c.in_ok-push.ensures.items (one_more_read c.args.front.now c.args.most c.args.last c.args.count c.loop-done.done c.args.bytes.now c.loop-done.numbers.items c.loop-done.rest.now c.loop-done.least c.least_here.result c.in-Some.found.0 c.in-Some.found.1.now (c.args.most - (c.args.count - (c.loop-done.done + 1))) c.loop-done.invariant c.loop-done-test.true refl
    c.least_here.ensures.least c.least_here.ensures.last (sym c.in-Some.ensures.exact))
