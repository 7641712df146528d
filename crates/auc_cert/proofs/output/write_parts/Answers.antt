use Rattle.std.proofs.Common.{◌≡◌, ap, subst, ◌∙◌, List, [], ℕ, take, arith}
use Rattle.std.specs.List.{flat_map}
use Rattle.std.specs.Io.KnownBytes.{Appends}
use Rattle.std.proofs.lemmas.List.{take_all}
use Rattle.auc_cert.specs.declared.output.Part.{Part}
use Rattle.auc_cert.specs.declared.output.Part.TheVariants.{Words}
use Rattle.auc_cert.specs.Writing.{Begins, line_of, spelled}
use Rattle.auc_cert.proofs.WriteLaws.{each_more, cut_in_one, line_is, cut}
use Rattle.auc_cert.proofs.output.write_parts.Goals as goal

abbrev blank : Part
blank = Words (record { ref_ptr = (0, 0); now = [] })

pub loop-part-preserved : goal.loop-part-preserved
loop-part-preserved g c =
    each_more spelled c.args.parts.now c.loop-part.part-index blank (g.W.Write.contents c.args.writer.now) (g.W.Write.contents c.loop-part.writer) (g.W.Write.contents c.write_part.new.writer) c.loop-part-test.true c.loop-part.invariant c.in_ok-write_part.ensures

pub returns-in_err-write_part : goal.returns-in_err-write_part
returns-in_err-write_part g c =
    cut c.from_residual.result (g.W.Write.contents c.args.writer.now) (g.W.Write.contents c.write_part.new.writer) (line_of c.args.parts.now) c.from_residual.ensures.0
    (subst (λ (t : List ℕ). Begins (g.W.Write.contents c.args.writer.now) (g.W.Write.contents c.write_part.new.writer) t) (line_is c.args.parts.now)
    (cut_in_one spelled c.args.parts.now c.loop-part.part-index blank (g.W.Write.contents c.args.writer.now) (g.W.Write.contents c.loop-part.writer) (g.W.Write.contents c.write_part.new.writer) c.loop-part-test.true c.loop-part.invariant c.in_err-write_part.ensures))

pub returns : goal.returns
returns g c =
    let all : flat_map spelled (take c.loop-part.part-index c.args.parts.now) ≡ line_of c.args.parts.now = ap (flat_map spelled) (take_all c.loop-part.part-index c.args.parts.now (omega arith)) ∙ line_is c.args.parts.now in
    subst (λ (t : List ℕ). Appends (g.W.Write.contents c.args.writer.now) (g.W.Write.contents c.loop-part.writer) t) all c.loop-part.invariant
