use Rattle.std.proofs.Common.{◌≡◌, ◌-◌, ◌++◌, length, sym, ap, ◌∙◌, arith}
use Rattle.std.specs.Prelude.{slice_range}
use Rattle.std.proofs.lemmas.Grind.{common_steps}
use Rattle.auc_graph.specs.Numbers.{numbers}
use Rattle.auc_graph.specs.Pieces.{spelled}
use Rattle.auc_graph.proofs.AlikeLaws.{spelled_plain, spelled_some}
use Rattle.auc_graph.proofs.PieceLaws.{alike_numbers}
use Rattle.auc_graph.proofs.unfinished.keep.Goals as goal

pub returns-clause-alike : goal.returns-clause-alike
returns-clause-alike c = λ more.
    let long : length (slice_range c.args.piece.now c.args.start c.args.end) ≡ c.args.end - c.args.start = grind (arith, common_steps, c.requires.room) in
    let short = spelled c.unfinished_of-unfinished.result in
    alike_numbers (slice_range c.args.piece.now c.args.start c.args.end) (spelled c.unfinished_of-unfinished.result) (omega (arith, long, c.if-end-start-le-MOST_KEPT.false)) c.requires.plain (spelled_some c.unfinished_of-unfinished.result) (spelled_plain c.unfinished_of-unfinished.result c.unfinished_of-unfinished.ensures.capped) c.unfinished_of-unfinished.ensures.alike more
    ∙ ap (λ t. numbers (t ++ more)) (sym c.spell.ensures.spelled)

pub returns-clause-plain : goal.returns-clause-plain
returns-clause-plain c = rw c.spell.ensures.spelled (spelled_plain c.unfinished_of-unfinished.result c.unfinished_of-unfinished.ensures.capped)
