use Rattle.std.proofs.Common.{◌≡◌, ◌<◌, ◌≤◌, ◌+◌, ◌∷◌, ◌++◌, length, take, ap, sym, ◌∙◌, arith, rules, w64}
use Rattle.std.specs.Prelude.{FitsSigned}
use Rattle.std.proofs.lemmas.Int.{to_z-of_z}
use Rattle.std.proofs.lemmas.List.{length-take-le}
use Rattle.auc_graph.specs.declared.number.Number.TheVariants.{Value}
use Rattle.auc_graph.specs.Numbers.{numbers}
use Rattle.auc_graph.proofs.ShortLaws.{whole_front, signed_found, behind_sign}
use Rattle.auc_graph.proofs.front.long_cost.Goals as goal

pub returns-clause-found : goal.returns-clause-found
returns-clause-found c = λ more.
    let unsigned = c.split_sign_of-negative.result.1.now in
    let negative = c.split_sign_of-negative.result.0 in
    let is = c.in_ok-front.ensures.cases in
    let plain = c.in_ok-value.ensures in
    let enough : 11 ≤ length unsigned = is.enough in
    let same : c.in_ok-front.front.now ≡ take 11 unsigned = is.same in
    let lt : c.in_ok-value.len < 11 = plain.0 in
    let long : length c.in_ok-front.front.now ≡ 11 = ap length same ∙ length-take-le 11 unsigned enough in
    let found = signed_found c.args.bytes.now unsigned c.from_place.result.now negative c.in_ok-value.value c.in_ok-value.len c.split_sign_of-negative.ensures.parts c.split_sign_of-negative.ensures.few
    (whole_front 11 unsigned c.in_ok-front.front.now c.in_ok-value.value c.in_ok-value.len same (omega (arith, lt, long)) plain.1) (omega (arith, lt, enough)) c.from_place.ensures more in
    let fits : FitsSigned w64 c.signed_of.result = search rules in
    simp to_z-of_z (found ∙ ap (λ z. Value z ∷ numbers (c.from_place.result.now ++ more)) (sym c.signed_of.ensures))

pub returns-clause-behind : goal.returns-clause-behind
returns-clause-behind c =
    let front : 11 ≤ length c.split_sign_of-negative.result.1.now = c.in_ok-front.ensures.cases.enough in
    let lt : c.in_ok-value.len < 11 = c.in_ok-value.ensures.0 in
    let enough : c.in_ok-value.len + 1 ≤ length c.split_sign_of-negative.result.1.now = omega (arith, front, lt) in
    behind_sign c.args.bytes.now c.split_sign_of-negative.result.1.now c.from_place.result.now c.split_sign_of-negative.result.0 (c.in_ok-value.len + 1) c.split_sign_of-negative.ensures.parts c.split_sign_of-negative.ensures.few enough c.from_place.ensures
