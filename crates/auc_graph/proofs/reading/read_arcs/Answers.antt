use Rattle.std.proofs.Common.{◌≡◌, ◌-◌, ◌++◌, [], length, drop, sym, ap, ◌∙◌}
use Rattle.std.proofs.lemmas.List.{append-nil}
use Rattle.std.proofs.lemmas.Result.{err_from_is_err_and}
use Rattle.auc_graph.specs.declared.read_error.ReadError.TheVariants.{NoMemory}
use Rattle.auc_graph.specs.declared.stage.Stage.TheVariants.{AtCount}
use Rattle.auc_graph.specs.Reading.{reading}
use Rattle.auc_graph.specs.Pieces.{reading_at}
use Rattle.auc_graph.proofs.EndLaws.{answers_as}
use Rattle.auc_graph.proofs.reading.read_arcs.Goals as goal

pub returns-in_err-stage : goal.returns-in_err-stage
returns-in_err-stage c =
    let p = err_from_is_err_and c.from_residual.result c.from_residual.ensures.1 in
    let all : reading c.args.limits.persons c.args.limits.arcs c.args.limits.objects c.args.bytes.now ≡ reading_at c.args.limits.arcs (AtCount c.args.limits.persons c.args.limits.objects) c.new-arcs.result.items (c.args.bytes.now ++ []) =
    ap (reading c.args.limits.persons c.args.limits.arcs c.args.limits.objects) (sym (append-nil c.args.bytes.now)) ∙ ap (λ arcs. reading_at c.args.limits.arcs (AtCount c.args.limits.persons c.args.limits.objects) arcs (c.args.bytes.now ++ [])) (sym c.new-arcs.ensures.items) in
    rw (p.1, p.2) (λ other. all ∙ c.in_err-stage.ensures.fault other [])

pub returns : goal.returns
returns c =
    let stage = c.in_ok-stage.stage in
    let arcs = c.stage_behind.new.arcs.items in
    let all : reading c.args.limits.persons c.args.limits.arcs c.args.limits.objects c.args.bytes.now ≡ reading_at c.args.limits.arcs (AtCount c.args.limits.persons c.args.limits.objects) c.new-arcs.result.items (c.args.bytes.now ++ []) =
    ap (reading c.args.limits.persons c.args.limits.arcs c.args.limits.objects) (sym (append-nil c.args.bytes.now)) ∙ ap (λ arcs. reading_at c.args.limits.arcs (AtCount c.args.limits.persons c.args.limits.objects) arcs (c.args.bytes.now ++ [])) (sym c.new-arcs.ensures.items) in
    let left : drop (length c.args.bytes.now - c.in_ok-stage.left) c.args.bytes.now ++ [] ≡ c.from_place-token.result.now =
    append-nil (drop (length c.args.bytes.now - c.in_ok-stage.left) c.args.bytes.now) ∙ sym c.from_place-token.ensures in
    answers_as NoMemory c.problem_behind.result (reading c.args.limits.persons c.args.limits.arcs c.args.limits.objects c.args.bytes.now) (reading_at c.args.limits.arcs stage arcs c.from_place-token.result.now)
    (all ∙ c.in_ok-stage.ensures.exact [] ∙ ap (reading_at c.args.limits.arcs stage arcs) left) c.problem_behind.ensures
