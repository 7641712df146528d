use Rattle.std.proofs.Common.{◌≡◌, ◌<◌, ◌≤◌, length, take, ap, ◌∙◌, arith}
use Rattle.std.proofs.lemmas.List.{length-take-le}
use Rattle.auc_graph.proofs.ShortLaws.{whole_front, short_found}
use Rattle.auc_graph.proofs.front.short_number.Goals as goal

pub returns-clause-found : goal.returns-clause-found
returns-clause-found c =
    let is = c.in_ok-front.ensures.cases in
    let plain = c.in_ok-value.ensures in
    let enough : 8 ≤ length c.args.bytes.now = is.enough in
    let same : c.in_ok-front.front.now ≡ take 8 c.args.bytes.now = is.same in
    let lt : c.in_ok-value.len < 8 = plain.0 in
    let long : length c.in_ok-front.front.now ≡ 8 = ap length same ∙ length-take-le 8 c.args.bytes.now enough in
    short_found c.args.bytes.now c.from_place.result.now c.in_ok-value.value c.in_ok-value.len (whole_front 8 c.args.bytes.now c.in_ok-front.front.now c.in_ok-value.value c.in_ok-value.len same (omega (arith, lt, long)) plain.2) (omega (arith, lt, enough)) c.from_place.ensures
