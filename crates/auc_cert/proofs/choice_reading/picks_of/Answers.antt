use Rattle.std.proofs.Common.{refl, sym, arith}
use Rattle.auc_claim.specs.Spelled.{IsPick}
use Rattle.auc_cert.specs.Text.{assign_line}
use Rattle.auc_cert.proofs.RunLaws.{breaks_off, no_pick, pick_more}
use Rattle.auc_cert.proofs.choice_reading.picks_of.Goals as goal

pub returns-in-None-clause-line : goal.returns-in-None-clause-line
returns-in-None-clause-line c = λ _.
    let inv = c.loop-person.invariant in
    (c.loop-person.person, refl, breaks_off assign_line (IsPick c.args.most) c.args.persons c.args.bytes.now c.loop-person.person c.loop-person.picks.items c.loop-person.rest.now inv c.loop-person-test.true (no_pick c.args.most c.loop-person.person c.loop-person.rest.now c.requires.most (omega arith) c.in-None.ensures))

pub loop-person-preserved : goal.loop-person-preserved
loop-person-preserved c =
    rw c.in_ok-push.ensures.items (pick_more c.args.most c.loop-person.person c.args.bytes.now c.loop-person.picks.items c.loop-person.rest.now c.in-Some.found.0 c.in-Some.found.1.now c.loop-person.invariant (sym c.in-Some.ensures))
