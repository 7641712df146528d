use Rattle.std.proofs.Common.{arith, rules, get_or, w64}
use Rattle.std.specs.Prelude.{FitsSigned, ◌≤ℤ◌}
use Rattle.std.proofs.lemmas.Int.{ints, to_z-of_z}
use Rattle.std.proofs.lemmas.List.{take_all}
use Rattle.std.proofs.lemmas.List.Elements.{All-more}
use Rattle.auc_rows.specs.declared.arc.ShortArc.{ShortArc}
use Rattle.auc_market.specs.Scan.{no_arc, short_value}
use Rattle.auc_market.proofs.slack.none_below.Goals as goal

pub loop-arc-preserved : goal.loop-arc-preserved
loop-arc-preserved c =
    let f1 : FitsSigned w64 c.args.scale = c.ranges.scale in
    let f2 : FitsSigned w64 c.args.least = c.ranges.least in
    let f3 : FitsSigned w64 c.value_of.result = search rules in
    let inv = simp to_z-of_z at c.loop-arc.invariant in
    let is = simp to_z-of_z at c.value_of.ensures.is in
    let test = simp to_z-of_z at c.if-value_of-least.false in
    let here : c.args.least ≤ℤ short_value c.args.scale c.args.prices.now (get_or c.args.row.now c.loop-arc.arc-index no_arc) = omega (arith, ints, is, test) in
    simp to_z-of_z (All-more (λ (b : ShortArc). c.args.least ≤ℤ short_value c.args.scale c.args.prices.now b) c.args.row.now c.loop-arc.arc-index no_arc c.loop-arc-test.true inv here)

pub returns : goal.returns
returns c = λ t. (
    let f1 : FitsSigned w64 c.args.scale = c.ranges.scale in
    let f2 : FitsSigned w64 c.args.least = c.ranges.least in
    let inv = simp to_z-of_z at c.loop-arc.invariant in
    rw (take_all c.loop-arc.arc-index c.args.row.now (let o = c.loop-arc-test.false in omega (arith, o))) at inv
    )
