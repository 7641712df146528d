use Rattle.std.proofs.Common.{sym, subst}
use Rattle.auc_hall.specs.OfProblem.{IsFullOf}
use Rattle.auc_run.proofs.CompletionLaws.{full_is}
use Rattle.auc_answers.proofs.HallCertificates.{names_in_range, hall_is, is_hall_certificate}
use Rattle.auc_run.proofs.hall.found_in.Goals as goal

pub certificate_of-requires : goal.certificate_of-requires
certificate_of-requires c =
    names_in_range c.args.problem.now c.in-Hall.persons c.in-Hall.objects c.arcs.ensures.problem
    (hall_is c.args.problem.now c.in_ok-rows.rows c.in_ok-numbers.field-0 c.in-Hall.persons c.in-Hall.objects c.in_ok-rows.ensures c.in_ok-numbers.ensures.matching c.in-Hall.is)

pub returns-clause-found : goal.returns-clause-found
returns-clause-found c =
    is_hall_certificate c.args.problem.now c.in-Hall.persons c.in-Hall.objects c.certificate_of.result c.arcs.ensures.problem
    (hall_is c.args.problem.now c.in_ok-rows.rows c.in_ok-numbers.field-0 c.in-Hall.persons c.in-Hall.objects c.in_ok-rows.ensures c.in_ok-numbers.ensures.matching c.in-Hall.is) c.certificate_of.ensures

pub picks_of_matching-requires : goal.picks_of_matching-requires
picks_of_matching-requires c =
    subst (IsFullOf c.args.problem.now) (sym c.as_slice.ensures) (full_is c.args.problem.now c.in_ok-rows.rows c.in_ok-numbers.field-0 c.in-Full.numbers c.in_ok-rows.ensures c.in_ok-numbers.ensures.matching c.in-Full.is)
