use Rattle.std.proofs.Common.{get_or, pos, w64, rules}
use Rattle.std.specs.Prelude.{FitsSigned}
use Rattle.std.proofs.lemmas.Int.{to_z-of_z}
use Rattle.auc_graph.specs.declared.arc.Arc.{Arc}
use Rattle.auc_answers.proofs.FoundLaws.{all_picked, found_end, found_nothing, holds_two, none_picked, past_read, read_more, read_not_his, stands_none, stands_some}
use Rattle.auc_answers.proofs.picks.picks_of_holders.Goals as goal

abbrev none : Arc
none = record { cost = pos 0; person = 0; object = 0 }

pub loop-holder-preserved-in_default : goal.loop-holder-preserved-in_default
loop-holder-preserved-in_default c = found_nothing c.args.problem.now c.args.holders.now c.loop-holder.holder-index c.loop-holder.found.items c.loop-holder.invariant c.in_default.is

pub returns-then-place-arcs-clause-none : goal.returns-then-place-arcs-clause-none
returns-then-place-arcs-clause-none c =
    past_read c.args.problem.now c.args.holders.now c.loop-holder.holder-index c.loop-holder.found.items c.loop-holder.invariant c.in-Some.held c.in-Some.is c.arcs-arcs.result.now c.arcs-arcs.ensures.arcs c.if-place-arcs.true

pub returns-then-arc-held-clause-none : goal.returns-then-arc-held-clause-none
returns-then-arc-held-clause-none c =
    read_not_his c.args.problem.now c.args.holders.now c.loop-holder.holder-index c.loop-holder.found.items c.loop-holder.invariant c.in-Some.held c.in-Some.is c.arcs-arcs.result.now c.arcs-arcs.ensures.arcs c.if-place-arcs.false c.if-arc-held.true

pub returns-then-is_some-clause-none : goal.returns-then-is_some-clause-none
returns-then-is_some-clause-none c =
    let there = stands_some c.loop-holder.found.items (get_or c.arcs-arcs.result.now c.in-Some.held.arc none).person _ _ c.index.ensures (search rules) _ c.is_some.ensures c.if-is_some.true in
    holds_two c.args.problem.now c.args.holders.now c.loop-holder.holder-index c.loop-holder.found.items c.loop-holder.invariant c.in-Some.held c.in-Some.is (get_or c.arcs-arcs.result.now c.in-Some.held.arc none).person there.0 c.if-arc-held.false there.1

pub loop-holder-preserved : goal.loop-holder-preserved
loop-holder-preserved c =
    let fits : FitsSigned w64 (get_or c.arcs-arcs.result.now c.in-Some.held.arc none).cost = search rules in
    simp to_z-of_z
    (read_more c.args.problem.now c.args.holders.now c.loop-holder.holder-index c.loop-holder.found.items c.loop-holder.invariant c.in-Some.held c.in-Some.is c.arcs-arcs.result.now c.arcs-arcs.ensures.arcs c.if-place-arcs.false c.if-arc-held.false (search rules) (stands_none c.loop-holder.found.items (get_or c.arcs-arcs.result.now c.in-Some.held.arc none).person _ _ c.index.ensures (search rules) _ c.is_some.ensures c.if-is_some.false))

pub returns-clause-some : goal.returns-clause-some
returns-clause-some c =
    let are = found_end c.args.problem.now c.args.holders.now c.loop-holder.holder-index c.loop-holder.found.items c.as_slice.result.now c.loop-holder.invariant c.loop-holder-test.false c.as_slice.ensures.value in
    all_picked (λ v. v.items) c.args.problem.now c.args.holders.now c.as_slice.result.now are c.all_of.result c.all_of.ensures.some

pub returns-clause-none : goal.returns-clause-none
returns-clause-none c =
    let are = found_end c.args.problem.now c.args.holders.now c.loop-holder.holder-index c.loop-holder.found.items c.as_slice.result.now c.loop-holder.invariant c.loop-holder-test.false c.as_slice.ensures.value in
    none_picked (λ v. v.items) c.args.problem.now c.args.holders.now c.as_slice.result.now are c.all_of.result c.all_of.ensures.none
