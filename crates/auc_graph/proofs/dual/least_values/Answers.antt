use Rattle.std.proofs.Common.{◌≡◌, ◌+◌, ◌-◌, ◌^◌, pos, w64, ap, ◌∙◌, rules}
use Rattle.std.specs.Prelude.{FitsSigned, length}
use Rattle.std.specs.Int.{int_min}
use Rattle.std.proofs.lemmas.Int.{to_z-of_z}
use Rattle.std.proofs.lemmas.List.Elements.{All-get_or}
use Rattle.auc_graph.specs.declared.arc.Arc.{Arc}
use Rattle.auc_graph.specs.Problem.{IsWithin}
use Rattle.auc_graph.specs.Dual.{arc_value}
use Rattle.auc_graph.proofs.LeastLaws.{least_more}
use Rattle.auc_graph.proofs.dual.least_values.Goals as goal

abbrev none : Arc
none = record { cost = pos 0; person = 0; object = 0 }

pub loop-arc-preserved : goal.loop-arc-preserved
loop-arc-preserved c =
    let lt = c.loop-arc-test.true in
    let within = All-get_or (IsWithin c.args.persons (length c.args.prices.now)) c.args.arcs.now c.loop-arc.arc-index none lt c.requires.arcs in
    let f1 : FitsSigned w64 c.min.result = search rules in
    let f2 : FitsSigned w64 c.index.result.now = search rules in
    let f3 : FitsSigned w64 c.value_of-value.result = search rules in
    let made : c.min.result ≡ int_min c.index.result.now c.value_of-value.result = simp to_z-of_z at c.min.ensures.value in
    simp to_z-of_z
    (least_more c.args.persons (arc_value (c.args.persons + 1) c.args.prices.now) (pos (2 ^ 63 - 1)) c.args.arcs.now c.loop-arc.arc-index none c.loop-arc.least.items c.index.result.now c.min.result c.loop-arc.invariant lt within.person c.index.ensures
    (made ∙ ap (int_min c.index.result.now) c.value_of-value.ensures))
