use Rattle.std.proofs.Common.{◌∷◌, length, w64, rules}
use Rattle.std.specs.Prelude.{FitsSigned as SFits}
use Rattle.std.proofs.lemmas.Int.{to_z-of_z}
use Rattle.auc_cert.specs.Form.{form_of_sizes}
use Rattle.auc_cert.specs.Text.{bracket_line, head_line, joined, choice_lines}
use Rattle.auc_cert.proofs.WriteLaws.{two_parts, cut_in_head, cut}
use Rattle.auc_cert.proofs.writing.write_bracket.Goals as goal

pub returns-in_err-write_bracket_head : goal.returns-in_err-write_bracket_head
returns-in_err-write_bracket_head g c =
    let v = form_of_sizes (length c.args.choice.now) (length c.args.prices.now) in
    let cost_fits : SFits w64 c.args.cost = search rules in
    let lower_fits : SFits w64 c.args.lower = search rules in
    cut c.from_residual.result (g.W.Write.contents c.args.writer.now) (g.W.Write.contents c.write_bracket_head.new.writer) (joined (head_line v ∷ bracket_line v c.args.reason (length c.args.choice.now) (length c.args.prices.now) c.args.lower c.args.cost ∷ choice_lines c.args.choice.now c.args.prices.now)) c.from_residual.ensures.0
    (cut_in_head (g.W.Write.contents c.args.writer.now) (g.W.Write.contents c.write_bracket_head.new.writer) (head_line v) (bracket_line v c.args.reason (length c.args.choice.now) (length c.args.prices.now) c.args.lower c.args.cost) (choice_lines c.args.choice.now c.args.prices.now) (simp to_z-of_z at (rw c.of_sizes-form.ensures at c.in_err-write_bracket_head.ensures)))

pub returns : goal.returns
returns g c =
    let v = form_of_sizes (length c.args.choice.now) (length c.args.prices.now) in
    let cost_fits : SFits w64 c.args.cost = search rules in
    let lower_fits : SFits w64 c.args.lower = search rules in
    two_parts c.write_choice.result (g.W.Write.contents c.args.writer.now) (g.W.Write.contents c.write_bracket_head.new.writer) (g.W.Write.contents c.write_choice.new.writer) (head_line v) (bracket_line v c.args.reason (length c.args.choice.now) (length c.args.prices.now) c.args.lower c.args.cost) (choice_lines c.args.choice.now c.args.prices.now)
    (simp to_z-of_z at (rw c.of_sizes-form.ensures at c.in_ok-write_bracket_head.ensures)) c.write_choice.ensures
