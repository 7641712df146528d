use Rattle.std.proofs.Common.{pos, w64, arith, rules, ◌≡◌, sym, subst}
use Rattle.std.specs.Prelude.{ℤ, ◌+ℤ◌, FitsSigned}
use Rattle.std.specs.Int.{w128}
use Rattle.std.proofs.lemmas.Int.{to_z-of_z}
use Rattle.auc_claim.proofs.ValueLaws.{value_more_fits, slack_beside_is}
use Rattle.auc_graph.specs.Dual.{price_at, arc_value}
use Rattle.auc_claim.specs.Claim.{arc_of}
use Rattle.auc_claim.proofs.flags.is_slack_beside_arc.Goals as goal

theirs_is : (c : goal.After-value_of-else-person-arc) → c.value_of-else-person-arc.result ≡ arc_value c.args.scale c.args.prices.now c.args.arc
theirs_is c =
    let f1 : FitsSigned w64 c.args.arc.cost = search rules in
    let f2 : FitsSigned w64 (price_at c.args.prices.now c.args.arc.object) = search rules in
    simp to_z-of_z at c.value_of-else-person-arc.ensures.is

mine_is : (c : goal.After-value_of-else-person-arc) → c.value_of.result ≡ arc_value c.args.scale c.args.prices.now (arc_of c.args.person c.args.pick)
mine_is c =
    let f1 : FitsSigned w64 c.args.pick.cost = search rules in
    let f2 : FitsSigned w64 (price_at c.args.prices.now c.args.pick.object) = search rules in
    simp to_z-of_z at c.value_of.ensures.is

more_fits : (c : goal.After-value_of-else-person-arc) → FitsSigned w128 (c.value_of-else-person-arc.result +ℤ pos 1)
more_fits c =
    let f1 : FitsSigned w64 c.args.arc.cost = search rules in
    let f2 : FitsSigned w64 (price_at c.args.prices.now c.args.arc.object) = search rules in
    subst (λ (z : ℤ). FitsSigned w128 (z +ℤ pos 1)) (sym (theirs_is c)) (value_more_fits c.args.scale c.args.arc.cost (price_at c.args.prices.now c.args.arc.object) (omega arith) f1 f2)

pub returns-else-person-arc : goal.returns-else-person-arc
returns-else-person-arc c =
    let g : FitsSigned w128 c.value_of-else-person-arc.result = search rules in
    let h : FitsSigned w128 c.value_of.result = search rules in
    let k : FitsSigned w128 (c.value_of-else-person-arc.result +ℤ pos 1) = more_fits c in
    simp to_z-of_z (slack_beside_is c.args.scale c.args.prices.now (arc_of c.args.person c.args.pick) c.args.arc c.value_of.result c.value_of-else-person-arc.result c.if-person-arc.false (mine_is c) (theirs_is c))
