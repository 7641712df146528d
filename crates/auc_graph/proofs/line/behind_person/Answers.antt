use Rattle.std.proofs.Common.{◌≤◌, ◌+◌, length, arith}
use Rattle.auc_graph.proofs.ShortLaws.{short_found}
use Rattle.auc_graph.proofs.WrittenLaws.{written_front}
use Rattle.auc_graph.proofs.line.behind_person.Goals as goal

pub overflow_add-written : goal.overflow_add-written
overflow_add-written c =
    let is = c.in_ok-front.ensures.cases in
    let told = written_front c.args.bytes.now c.in_ok-front.front.now c.word_of.result c.args.written c.requires is.enough is.same c.word_of.ensures.bytes c.word_of.ensures.word c.if-word_of-written.false in
    omega (arith, told.0)

pub from_place-requires : goal.from_place-requires
from_place-requires c =
    let is = c.in_ok-front.ensures.cases in
    let told = written_front c.args.bytes.now c.in_ok-front.front.now c.word_of.result c.args.written c.requires is.enough is.same c.word_of.ensures.bytes c.word_of.ensures.word c.if-word_of-written.false in
    let enough : 8 ≤ length c.args.bytes.now = is.enough in
    omega (arith, told.0, enough)

pub returns-clause-found : goal.returns-clause-found
returns-clause-found c =
    let is = c.in_ok-front.ensures.cases in
    let told = written_front c.args.bytes.now c.in_ok-front.front.now c.word_of.result c.args.written c.requires is.enough is.same c.word_of.ensures.bytes c.word_of.ensures.word c.if-word_of-written.false in
    let enough : 8 ≤ length c.args.bytes.now = is.enough in
    short_found c.args.bytes.now c.from_place.result.now (c.args.written.person + 1) c.args.written.digits told.1 (omega (arith, told.0, enough)) c.from_place.ensures
