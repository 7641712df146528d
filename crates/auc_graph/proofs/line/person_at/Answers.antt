use Rattle.std.proofs.Common.{◌≡◌, ◌<◌, ◌≤◌, ◌+◌, ◌-◌, ◌*◌, ◌/◌, ◌^◌, length, take, ap, ◌∙◌, arith}
use Rattle.std.proofs.lemmas.List.{length-take-le}
use Rattle.auc_graph.proofs.WrittenLaws.{mask_is, told_by_word}
use Rattle.auc_graph.proofs.line.person_at.Goals as goal

pub returns-clause-written : goal.returns-clause-written
returns-clause-written c = λ front word len all is under.
    let own = c.in_ok-front.front.now in
    let value = c.in_ok-value.value in
    let digits = c.in_ok-value.digits in
    let chunk = c.in_ok-front.ensures.cases in
    let same : own ≡ take 8 c.args.bytes.now = chunk.same in
    let enough : 8 ≤ length c.args.bytes.now = chunk.enough in
    let long : length own ≡ 8 = ap length same ∙ length-take-le 8 c.args.bytes.now enough in
    let few : digits < 8 = c.in_ok-value.ensures.0 in
    let person : value - 1 + 1 ≡ value = omega (arith, c.if-value-lt1.false) in
    let told = told_by_word own c.word_of.result value digits ((2 ^ 64 - 1) / 2 ^ (8 * (8 - 1 - digits))) long c.word_of.ensures.bytes c.word_of.ensures.word few (mask_is digits few) c.in_ok-value.ensures.2 front word len all is under in
    (told.0, rw person told.1)
