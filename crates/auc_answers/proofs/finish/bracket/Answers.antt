use Rattle.std.proofs.Common.{ap, map, refl, subst, sym, ◌∙◌}
use Rattle.auc_hall.specs.OfProblem.{IsFullOf}
use Rattle.auc_hall.specs.Matching.{IsMatching}
use Rattle.auc_hall.specs.Completion.{HasGrown}
use Rattle.auc_hall.specs.declared.matching.Matching.TheVariants.{Full}
use Rattle.auc_hall.proofs.ProblemLaws.{matching_of}
use Rattle.auc_answers.specs.Claims.{AreHoldersArcs, ArePlaceable, IsBracketBy, pick_at, picks_of}
use Rattle.auc_answers.proofs.BracketLaws.{certified_bracket}
use Rattle.auc_answers.proofs.HallCertificates.{hall_is}
use Rattle.auc_answers.proofs.finish.bracket.Goals as goal

pub infeasible-requires : goal.infeasible-requires
infeasible-requires c = hall_is c.args.problem.now c.args.rows.now c.in_ok-numbers.field-0 c.in-Hall.persons c.in-Hall.objects c.requires.rows c.in_ok-numbers.ensures.matching c.in-Hall.is

pub picks_of_matching-requires : goal.picks_of_matching-requires
picks_of_matching-requires c =
    subst (IsFullOf c.args.problem.now) (sym c.as_slice-2.ensures)
    (matching_of c.args.problem.now c.args.rows.now (Full c.in-Full.numbers) c.requires.rows (subst (IsMatching c.args.rows.now) c.in-Full.is c.in_ok-numbers.ensures.matching))

pub returns : goal.returns
returns c = (refl, λ can fits. (rw c.in-None.is at c.in_ok-cert.ensures.none) (certified_bracket c.args.problem.now c.args.reason c.args.gathered.prices.items c.picks_of_matching.ensures.problem c.requires.prices c.requires.within fits c.in-Some-2.parts (rw c.in-Some-2.is at c.in_ok-parts.ensures.some)))

pub returns-in-Some-3 : goal.returns-in-Some-3
returns-in-Some-3 c =
    let same = c.as_slice.ensures.value in
    let placed = subst (ArePlaceable c.args.problem.now) same (rw c.in-Some.is at c.in_ok-partial.ensures.placed).1 in
    let held = subst (λ hs. AreHoldersArcs hs c.in-Some.partial.choice) same (rw c.in-Some.is at c.in_ok-partial.ensures.holders) in
    let parts = rw c.in-Some-2.is at c.in_ok-parts.ensures.some in
    let picks = rw c.in-Some-2.is at c.in_ok-parts.ensures.picks in
    let cert = rw c.in-Some-3.is at c.in_ok-cert.ensures.some in (
      placed,
      subst (IsBracketBy c.args.problem.now c.args.reason c.args.gathered.prices.items) (sym cert.0) parts,
      cert.1,
      record {
        table = c.args.rows.now;
        of = c.requires.rows;
        placed = c.in-Some.partial.choice;
        held = held;
        numbers = c.in-Full.numbers;
        grown = subst (HasGrown c.args.rows.now c.in-Some.partial.choice) c.in-Full.is c.in_ok-numbers.ensures.grown;
        are = ap picks_of cert.0 ∙ picks ∙ c.in_ok-picks.ensures.numbered ∙ ap (map (pick_at c.args.problem.now.arcs)) c.as_slice-2.ensures;
      },
    )
