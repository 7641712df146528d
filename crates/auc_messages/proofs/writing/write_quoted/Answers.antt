use Rattle.std.proofs.Common.{◌≡◌, ◌++◌, ap, ◌∙◌}
use Rattle.std.specs.Prelude.{map}
use Rattle.auc_cert.proofs.WriteLaws.{begins_front, behind, cut}
use Rattle.auc_messages.specs.Sentences.{quoted_end, shown_byte}
use Rattle.auc_messages.proofs.writing.write_quoted.Goals as goal

pub returns-in_err-write_whole : goal.returns-in_err-write_whole
returns-in_err-write_whole g c =
    let place = c.args.place.now in
    let front = map shown_byte place.front.items in
    let rest = quoted_end place.whole c.args.phrase.now in
    let is : c.as_slice-2.result.now ≡ map shown_byte c.args.place.now.front.items = c.as_slice-2.ensures.value ∙ c.shown-front.ensures ∙ ap (map shown_byte) c.as_slice.ensures.value in
    cut c.from_residual.result (g.W.Write.contents c.args.writer.now) (g.W.Write.contents c.write_whole.new.writer) (front ++ rest) c.from_residual.ensures.0
    (begins_front (g.W.Write.contents c.args.writer.now) (g.W.Write.contents c.write_whole.new.writer) front rest (rw is at c.in_err-write_whole.ensures))

pub returns : goal.returns
returns g c =
    let place = c.args.place.now in
    let front = map shown_byte place.front.items in
    let rest = quoted_end place.whole c.args.phrase.now in
    let is : c.as_slice-2.result.now ≡ map shown_byte c.args.place.now.front.items = c.as_slice-2.ensures.value ∙ c.shown-front.ensures ∙ ap (map shown_byte) c.as_slice.ensures.value in
    behind c.write_end.result (g.W.Write.contents c.args.writer.now) (g.W.Write.contents c.write_whole.new.writer) (g.W.Write.contents c.write_end.new.writer) front rest (rw is at c.in_ok-write_whole.ensures) c.write_end.ensures
