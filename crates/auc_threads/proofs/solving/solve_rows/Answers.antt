use Rattle.std.proofs.Common.{rules, ◌≡◌, ◌∙◌, List, ℤ, subst, sym, of_z, to_z, w64}
use Rattle.std.specs.Prelude.{FitsSigned}
use Rattle.std.proofs.lemmas.Int.{to_z-of_z}
use Rattle.auc_threads.specs.Phase.{IsPhase}
use Rattle.auc_threads.proofs.SolvedLaws.{decided_answer, decided_feasible, never_stuck, prices_left, ready_first, ready_last, ready_next, some_phases}
use Rattle.auc_threads.proofs.solving.solve_rows.Goals as goal

pub loop-prices-init : goal.loop-prices-init
loop-prices-init g c =
    let fits : FitsSigned w64 c.args.eps = c.ranges.eps in
    record {
      prices = c.requires.prices;
      eps = simp to_z-of_z c.requires.eps;
      ready = ready_first c.args.setting.problem.now c.args.setting.rows.now c.args.setting.limits.now c.new-phases.result.items (to_z w64 (of_z w64 c.args.eps)) c.args.prices.items c.new-phases.ensures.items;
    }

pub returns-in_default-clause-run : goal.returns-in_default-clause-run
returns-in_default-clause-run g c = λ start begins.
    let fits : FitsSigned w64 c.args.eps = c.ranges.eps in
    let inv = c.loop-prices.invariant in
    let e = c.in_ok-ended.ended in
    let is : IsPhase c.args.setting.rows.now c.args.setting.limits.now (to_z w64 c.loop-prices.eps-bits) c.loop-prices.prices.items e = subst (λ (ps : List ℤ). IsPhase c.args.setting.rows.now c.args.setting.limits.now (to_z w64 c.loop-prices.eps-bits) ps e) c.as_slice.ensures.value c.in_ok-ended.ensures in
    ready_last c.args.setting.problem.now c.args.setting.rows.now c.args.setting.limits.now (to_z w64 (of_z w64 c.args.eps)) c.args.prices.items c.loop-prices.phases.items (to_z w64 c.loop-prices.eps-bits) c.loop-prices.prices.items e is inv.ready start (simp to_z-of_z begins) c.note.new.phases.items c.verdict_of-verdict.result c.in_ok-answer.answer c.requires.rows c.requires.assignment c.in_ok-note.ensures
    c.verdict_of-verdict.ensures c.in_default.ensures.none c.in_ok-answer.ensures

pub returns-in_default-clause-answer : goal.returns-in_default-clause-answer
returns-in_default-clause-answer g c =
    decided_answer c.args.setting.problem.now c.in_ok-ended.ended.gathered c.verdict_of-verdict.result c.in_ok-answer.answer
    (λ e. never_stuck c.args.setting.rows.now c.args.setting.limits.now (to_z w64 c.loop-prices.eps-bits) c.as_slice.result.now c.in_ok-ended.ended c.requires.arcs c.in_ok-ended.ensures (sym c.verdict_of-verdict.ensures ∙ e)) c.in_ok-answer.ensures

pub returns-in_default-clause-infeasible : goal.returns-in_default-clause-infeasible
returns-in_default-clause-infeasible g c =
    some_phases c.loop-prices.phases.items c.note.new.phases.items c.in_ok-ended.ended c.in_ok-answer.answer c.in_ok-note.ensures
    (decided_feasible c.args.setting.problem.now c.hall_sets_leave_no_assignment.ensures c.requires.assignment c.in_ok-ended.ended.gathered c.verdict_of-verdict.result c.in_ok-answer.answer c.in_ok-answer.ensures)

pub loop-prices-preserved : goal.loop-prices-preserved
loop-prices-preserved g c =
    let fits : FitsSigned w64 c.in-Some.next = search rules in
    let inv = c.loop-prices.invariant in
    let e = c.in_ok-ended.ended in
    let is : IsPhase c.args.setting.rows.now c.args.setting.limits.now (to_z w64 c.loop-prices.eps-bits) c.loop-prices.prices.items e = subst (λ (ps : List ℤ). IsPhase c.args.setting.rows.now c.args.setting.limits.now (to_z w64 c.loop-prices.eps-bits) ps e) c.as_slice.ensures.value c.in_ok-ended.ensures in
    let left : c.in_ok-prices.prices.items ≡ e.gathered.prices.items = search rules in
    record {
      prices = prices_left c.args.setting.rows.now e.gathered.prices.items c.in_ok-prices.prices.items left is.prices;
      eps = simp to_z-of_z (c.in-Some.ensures.range inv.eps);
      ready =
          simp to_z-of_z
          (ready_next c.args.setting.problem.now c.args.setting.rows.now c.args.setting.limits.now (to_z w64 (of_z w64 c.args.eps)) c.args.prices.items c.loop-prices.phases.items (to_z w64 c.loop-prices.eps-bits) c.loop-prices.prices.items e is inv.ready c.note-in-loop-prices.new.phases.items c.in-Some.next c.verdict_of-verdict.result c.in_ok-prices.prices.items c.in_ok-note-2.ensures
          c.verdict_of-verdict.ensures c.in-Some.ensures.some left);
    }
