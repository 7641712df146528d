use Rattle.std.proofs.Common.{◌++◌, take, Ok, Err, sym, ap, ◌∙◌}
use Rattle.auc_graph.specs.Numbers.{numbers}
use Rattle.auc_graph.specs.Reading.{reading_on}
use Rattle.auc_graph.specs.Pieces.{reading_from}
use Rattle.auc_graph.proofs.StepLaws.{fault_stays}
use Rattle.auc_graph.proofs.PieceLaws.{tail_of_front}
use Rattle.auc_graph.proofs.pieces.known_behind.Goals as goal

pub keep-requires-clause-plain : goal.keep-requires-clause-plain
keep-requires-clause-plain c = rw (← tail_of_front c.args.piece.now c.args.len c.in-Ok-stage_behind.kept c.requires.len) c.in-Ok-stage_behind.ensures.plain

pub returns-in-Err-clause-exact : goal.returns-in-Err-clause-exact
returns-in-Err-clause-exact c = λ _ more.
    ap (λ k. reading_from c.args.limit k c.args.arcs.now.items (take c.args.len c.args.piece.now ++ more)) c.in-Err.is
    ∙ fault_stays c.args.limit c.in-Err.fault (numbers (take c.args.len c.args.piece.now ++ more)) ∙ sym (fault_stays c.args.limit c.in-Err.fault (numbers more))

pub returns-in-Err-stage_behind-clause-exact : goal.returns-in-Err-stage_behind-clause-exact
returns-in-Err-stage_behind-clause-exact c = λ other more.
    ap (λ k. reading_from c.args.limit k c.args.arcs.now.items (take c.args.len c.args.piece.now ++ more)) c.in-Ok.is
    ∙ c.in-Err-stage_behind.ensures.fault (λ e. other (ap (λ x. Err x) e)) more
    ∙ sym (fault_stays c.args.limit c.in-Err-stage_behind.fault (numbers more))

pub returns-in-Ok-stage_behind-clause-exact : goal.returns-in-Ok-stage_behind-clause-exact
returns-in-Ok-stage_behind-clause-exact c = λ _ more.
    let stage = c.in-Ok-stage_behind.stage in
    let arcs = c.stage_behind.new.arcs.items in
    ap (λ k. reading_from c.args.limit k c.args.arcs.now.items (take c.args.len c.args.piece.now ++ more)) c.in-Ok.is
    ∙ c.in-Ok-stage_behind.ensures.exact more
    ∙ ap (λ t. reading_on c.args.limit (Ok (stage, arcs)) (numbers (t ++ more))) (tail_of_front c.args.piece.now c.args.len c.in-Ok-stage_behind.kept c.requires.len)
    ∙ ap (reading_on c.args.limit (Ok (stage, arcs))) (c.keep.ensures.alike more)
