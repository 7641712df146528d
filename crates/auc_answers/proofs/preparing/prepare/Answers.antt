use Rattle.auc_answers.proofs.HallCertificates.{hall_is}
use Rattle.auc_answers.proofs.PreparedLaws.{full_has, prepared}
use Rattle.auc_answers.proofs.preparing.prepare.Goals as goal

pub infeasible-requires : goal.infeasible-requires
infeasible-requires c = hall_is c.args.problem.now c.in_ok-rows.rows c.in_ok-persons.field-0 c.in-Hall.persons c.in-Hall.objects c.in_ok-rows.ensures c.in_ok-persons.ensures.matching c.in-Hall.is

pub returns-then-branch : goal.returns-then-branch
returns-then-branch c = prepared c.args.problem.now c.in_ok-rows.rows c.in_ok-rows.ensures (c.in_ok-has_full_matching.ensures c.if-branch.true)

pub returns-in-Full : goal.returns-in-Full
returns-in-Full c = prepared c.args.problem.now c.in_ok-rows.rows c.in_ok-rows.ensures (full_has c.in_ok-rows.rows c.in_ok-persons.field-0 c.in-Full.field-0 c.in_ok-persons.ensures.matching c.in-Full.is)
