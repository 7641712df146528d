use Rattle.std.proofs.Common.{inr, pos, w64, to_z, get_or, refl, arith, rules}
use Rattle.std.specs.Prelude.{FitsSigned, neg_ℤ, ◌≤ℤ◌, ◌-ℤ◌}
use Rattle.std.proofs.lemmas.Int.{ints, to_z-of_z}
use Rattle.std.proofs.lemmas.List.Elements.{All-get_or}
use Rattle.auc_graph.specs.declared.arc.Arc.{Arc}
use Rattle.auc_graph.specs.declared.limits.TheConstants.{MOST_COST}
use Rattle.auc_graph.proofs.SpreadLaws.{range_more, range_all}
use Rattle.auc_graph.proofs.spread.spread_of.Goals as goal

abbrev none : Arc
none = record { cost = pos 0; person = 0; object = 0 }

pub loop-arc-preserved : goal.loop-arc-preserved
loop-arc-preserved c =
    let lt = c.loop-arc-test.true in
    let w = All-get_or (λ (a : Arc). (neg_ℤ MOST_COST ≤ℤ a.cost) × (a.cost ≤ℤ MOST_COST)) c.args.arcs.now c.loop-arc.arc-index none lt c.requires in
    let r = range_more c.args.arcs.now c.loop-arc.arc-index none (to_z w64 c.loop-arc.least-bits) (to_z w64 c.loop-arc.greatest-bits) (get_or c.args.arcs.now c.loop-arc.arc-index none).cost c.loop-arc.invariant lt refl w.0 w.1 in
    let f1 : FitsSigned w64 c.min-least.result = search rules in
    let f2 : FitsSigned w64 c.max-greatest.result = search rules in
    let f3 : FitsSigned w64 (get_or c.args.arcs.now c.loop-arc.arc-index none).cost = search rules in
    let m1 = simp to_z-of_z at c.min-least.ensures.value in
    let m2 = simp to_z-of_z at c.max-greatest.ensures.value in
    simp to_z-of_z (rw (m1, m2) r)

pub returns-clause-is : goal.returns-clause-is
returns-clause-is c =
    let h = range_all c.args.arcs.now c.loop-arc.arc-index (to_z w64 c.loop-arc.least-bits) (to_z w64 c.loop-arc.greatest-bits) (omega arith) c.loop-arc.invariant in
    let f : FitsSigned w64 (to_z w64 c.loop-arc.greatest-bits -ℤ to_z w64 c.loop-arc.least-bits) = omega (arith, ints) in
    simp to_z-of_z (inr (to_z w64 c.loop-arc.least-bits, to_z w64 c.loop-arc.greatest-bits, h, refl))
