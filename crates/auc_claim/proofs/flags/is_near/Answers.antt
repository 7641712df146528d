use Rattle.std.proofs.Common.{◌≡◌, pos, w64, rules, ap, sym, subst}
use Rattle.std.specs.Prelude.{ℤ, ◌+ℤ◌, FitsSigned, int_le}
use Rattle.std.proofs.lemmas.Int.{to_z-of_z}
use Rattle.auc_graph.specs.Dual.{price_at, arc_value}
use Rattle.auc_claim.proofs.ValueLaws.{fair_at, small_more}
use Rattle.auc_claim.proofs.flags.is_near.Goals as goal

pub returns : goal.returns
returns c =
    let f1 : FitsSigned w64 c.args.arc.cost = search rules in
    let f2 : FitsSigned w64 (price_at c.args.prices.now c.args.arc.object) = search rules in
    let is : c.small_value.result ≡ arc_value c.args.scale c.args.prices.now c.args.arc = simp to_z-of_z at c.small_value.ensures.is in
    let g : FitsSigned w64 c.small_value.result = search rules in
    let v : FitsSigned w64 c.args.value = c.ranges.value in
    let h : FitsSigned w64 (c.small_value.result +ℤ pos 1) =
    subst (λ (z : ℤ). FitsSigned w64 (z +ℤ pos 1)) (sym is)
    (small_more c.args.scale c.args.arc.cost (price_at c.args.prices.now c.args.arc.object) c.requires.scale c.requires.cost_low c.requires.cost_high (fair_at c.args.prices.now c.args.arc.object c.requires.prices)) in
    simp to_z-of_z (ap (λ (z : ℤ). int_le c.args.value (z +ℤ pos 1)) is)
