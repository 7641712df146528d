use Rattle.std.proofs.Common.{◌++◌}
use Rattle.std.specs.Prelude.{map}
use Rattle.auc_cert.proofs.WriteLaws.{begins_front, behind, cut}
use Rattle.auc_messages.specs.Sentences.{place_words, quoted_end, sentence_at, shown_byte}
use Rattle.auc_messages.proofs.writing.write_at.Goals as goal

pub returns-in_err-write_place : goal.returns-in_err-write_place
returns-in_err-write_place g c =
    let place = c.args.place.now in
    let rest = map shown_byte place.front.items ++ quoted_end place.whole c.args.phrase.now in
    cut c.from_residual.result (g.W.Write.contents c.args.writer.now) (g.W.Write.contents c.write_place.new.writer) (sentence_at c.args.name.now place c.args.phrase.now) c.from_residual.ensures.0
    (begins_front (g.W.Write.contents c.args.writer.now) (g.W.Write.contents c.write_place.new.writer) (place_words c.args.name.now place) rest c.in_err-write_place.ensures)

pub returns : goal.returns
returns g c =
    let place = c.args.place.now in
    let rest = map shown_byte place.front.items ++ quoted_end place.whole c.args.phrase.now in
    behind c.write_quoted.result (g.W.Write.contents c.args.writer.now) (g.W.Write.contents c.write_place.new.writer) (g.W.Write.contents c.write_quoted.new.writer) (place_words c.args.name.now place) rest c.in_ok-write_place.ensures c.write_quoted.ensures
