use Rattle.std.proofs.Common.{arith, rules, w64}
use Rattle.std.specs.Prelude.{FitsSigned, ◌-ℤ◌}
use Rattle.std.proofs.lemmas.Int.{ints, to_z-of_z}
use Rattle.auc_market.proofs.Augmentations.{slack_of}
use Rattle.auc_market.proofs.slack.is_slack.Goals as goal

pub returns : goal.returns
returns c = λ t. (
    let f1 : FitsSigned w64 c.args.eps = c.ranges.eps in
    let f2 : FitsSigned w64 c.scale-scale.result = search rules in
    let f3 : FitsSigned w64 c.value_of.result = search rules in
    let a = c.value_of.ensures.range.low in
    let b = c.value_of.ensures.range.high in
    let d = c.requires.eps.low in
    let e = c.requires.eps.high in
    let f4 : FitsSigned w64 (c.value_of.result -ℤ c.args.eps) = omega (arith, ints, a, b, d, e) in
    let all = simp to_z-of_z at (c.none_below.ensures t) in
    let is = simp to_z-of_z at c.value_of.ensures.is in
    slack_of c.args.rows.now c.args.eps c.args.prices.now c.args.person c.args.arc c.scale-scale.result (c.value_of.result -ℤ c.args.eps) c.row-row.result.now c.scale-scale.ensures.is c.row-row.ensures.row c.requires.listed (omega (arith, ints, is)) all
    )
