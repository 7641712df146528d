use Rattle.std.proofs.Common.{◌∷◌, length}
use Rattle.auc_cert.specs.Form.{form_of_names}
use Rattle.auc_cert.specs.Text.{head_line, joined, numbered, infeasible_line, person_line, object_line, name_lines}
use Rattle.auc_cert.proofs.WriteLaws.{two_parts, two_lists, cut_in_head, cut_in_first, cut_in_rest, cut}
use Rattle.auc_cert.proofs.writing.write_infeasible.Goals as goal

pub returns-in_err-write_infeasible_head : goal.returns-in_err-write_infeasible_head
returns-in_err-write_infeasible_head g c =
    let head = head_line (form_of_names c.args.persons.now c.args.objects.now) in
    let second = infeasible_line (length c.args.persons.now) (length c.args.objects.now) in
    let names = name_lines c.args.persons.now c.args.objects.now in
    cut c.from_residual.result (g.W.Write.contents c.args.writer.now) (g.W.Write.contents c.write_infeasible_head.new.writer) (joined (head ∷ second ∷ names)) c.from_residual.ensures.0
    (cut_in_head (g.W.Write.contents c.args.writer.now) (g.W.Write.contents c.write_infeasible_head.new.writer) head second names (rw c.of_names-form.ensures at c.in_err-write_infeasible_head.ensures))

pub returns-in_err-write_numbers : goal.returns-in_err-write_numbers
returns-in_err-write_numbers g c =
    let head = head_line (form_of_names c.args.persons.now c.args.objects.now) in
    let second = infeasible_line (length c.args.persons.now) (length c.args.objects.now) in
    let names = name_lines c.args.persons.now c.args.objects.now in
    cut c.from_residual-in_err-write_numbers.result (g.W.Write.contents c.args.writer.now) (g.W.Write.contents c.write_numbers.new.writer) (joined (head ∷ second ∷ names)) c.from_residual-in_err-write_numbers.ensures.0
    (cut_in_rest (g.W.Write.contents c.args.writer.now) (g.W.Write.contents c.write_infeasible_head.new.writer) (g.W.Write.contents c.write_numbers.new.writer) head second names (rw c.of_names-form.ensures at c.in_ok-write_infeasible_head.ensures)
    (cut_in_first (g.W.Write.contents c.write_infeasible_head.new.writer) (g.W.Write.contents c.write_numbers.new.writer) (numbered person_line 0 c.args.persons.now) (numbered object_line 0 c.args.objects.now) c.in_err-write_numbers.ensures))

pub returns : goal.returns
returns g c =
    two_parts c.write_numbers-2.result (g.W.Write.contents c.args.writer.now) (g.W.Write.contents c.write_infeasible_head.new.writer) (g.W.Write.contents c.write_numbers-2.new.writer) (head_line (form_of_names c.args.persons.now c.args.objects.now)) (infeasible_line (length c.args.persons.now) (length c.args.objects.now)) (name_lines c.args.persons.now c.args.objects.now)
    (rw c.of_names-form.ensures at c.in_ok-write_infeasible_head.ensures)
    (two_lists c.write_numbers-2.result (g.W.Write.contents c.write_infeasible_head.new.writer) (g.W.Write.contents c.write_numbers.new.writer) (g.W.Write.contents c.write_numbers-2.new.writer) (numbered person_line 0 c.args.persons.now) (numbered object_line 0 c.args.objects.now)
    c.in_ok-write_numbers.ensures c.write_numbers-2.ensures)
