use Rattle.std.proofs.Common.{◌≡◌, ◌++◌, List, ℕ, append_assoc}
use Rattle.std.specs.Prelude.{codes}
use Rattle.std.specs.Fmt.{decimal}
use Rattle.auc_cert.specs.Text.{head_line, infeasible_line}
use Rattle.auc_cert.proofs.WriteLaws.{writes_as}
use Rattle.auc_cert.proofs.writing.write_infeasible_head.Goals as goal

regrouped : (head : List ℕ) (persons objects : ℕ) → ((((head ++ codes "infeasible ") ++ decimal persons) ++ codes " ") ++ decimal objects) ++ codes "\n" ≡ head ++ infeasible_line persons objects
regrouped head persons objects = simp append_assoc

pub returns : goal.returns
returns g c =
    let head = head_line c.args.form in
    writes_as c.write_parts.result (g.W.Write.contents c.args.writer.now) (g.W.Write.contents c.write_parts.new.writer) (((((head ++ codes "infeasible ") ++ decimal c.args.persons) ++ codes " ") ++ decimal c.args.objects) ++ codes "\n")
    (head ++ infeasible_line c.args.persons c.args.objects) (regrouped head c.args.persons c.args.objects) (rw c.head_line.ensures at c.write_parts.ensures)
