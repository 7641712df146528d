use Rattle.std.proofs.Common.{◌≡◌, length, sym, ◌∙◌, arith}
use Rattle.std.proofs.lemmas.Result.{err_from_is_err_and}
use Rattle.std.proofs.lemmas.Bool.Decides.{nat_tests}
use Rattle.auc_graph.specs.declared.read_error.ReadError.TheVariants.{NoMemory}
use Rattle.auc_graph.specs.Pieces.{reading_at}
use Rattle.auc_graph.proofs.EndLaws.{answers}
use Rattle.auc_graph.proofs.NumberLaws.{some_bytes}
use Rattle.auc_graph.proofs.PieceLaws.{reads_end, reads_last, reads_fault}
use Rattle.auc_graph.proofs.pieces.problem_behind.Goals as goal

pub returns-then-is_empty : goal.returns-then-is_empty
returns-then-is_empty c =
    let none : length c.args.token.now ≡ 0 = grind (arith, nat_tests) in
    answers NoMemory c.finished.result (reading_at c.args.limit c.args.stage c.args.arcs.items c.args.token.now) (reads_end c.args.limit c.args.stage c.args.arcs.items c.args.token.now none ∙ c.finished.ensures)

pub returns-in_err-last : goal.returns-in_err-last
returns-in_err-last c =
    let p = err_from_is_err_and c.from_residual.result c.from_residual.ensures.1 in
    let some = some_bytes c.args.token.now (sym c.is_empty.ensures ∙ c.if-is_empty.false) in
    rw (p.1, p.2) (λ other.
    reads_fault c.args.limit c.args.stage c.args.arcs.items c.args.token.now c.number_at-number.result.0 c.number_at-number.result.1 c.in_err-last.field-0.0 some c.requires.plain c.number_at-number.ensures.len c.number_at-number.ensures.number (c.in_err-last.ensures.exact other))

pub returns : goal.returns
returns c =
    let some = some_bytes c.args.token.now (sym c.is_empty.ensures ∙ c.if-is_empty.false) in
    answers NoMemory c.finished-2.result (reading_at c.args.limit c.args.stage c.args.arcs.items c.args.token.now) (reads_last c.args.limit c.args.stage c.args.arcs.items c.args.token.now c.number_at-number.result.0 c.number_at-number.result.1 c.in_ok-last.last c.after.new.arcs.items some c.requires.plain c.number_at-number.ensures.len c.number_at-number.ensures.number c.in_ok-last.ensures.exact
    ∙ c.finished-2.ensures)
