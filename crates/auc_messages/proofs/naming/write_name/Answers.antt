use Rattle.std.specs.Str.Iter.{chars_rest}
use Rattle.std.proofs.lemmas.Str.{IsUtf8-past_char}
use Rattle.auc_cert.proofs.WriteLaws.{cut}
use Rattle.auc_messages.specs.Names.{shown_name}
use Rattle.auc_messages.proofs.NameLaws.{cut_in_character, goes_on, is_done}
use Rattle.auc_messages.proofs.naming.write_name.Goals as goal

pub loop-character-preserved : goal.loop-character-preserved
loop-character-preserved g c =
    let step = c.in-Some.ensures.steps.0 in
    let held = c.loop-character.invariant in
    record {
      text = IsUtf8-past_char (chars_rest c.loop-character.character-iterator) (chars_rest c.next.new.self) c.in-Some.character held.text step;
      completes =
          goes_on c.in-Some.character (chars_rest c.loop-character.character-iterator) (chars_rest c.next.new.self) (shown_name c.args.name.now) (g.W.Write.contents c.args.writer.now) (g.W.Write.contents c.loop-character.writer) (g.W.Write.contents c.write_character.new.writer)
          held.text step held.completes c.in_ok-write_character.ensures;
    }

pub returns-in_err-write_character : goal.returns-in_err-write_character
returns-in_err-write_character g c =
    let step = c.in-Some.ensures.steps.0 in
    let held = c.loop-character.invariant in
    cut c.from_residual.result (g.W.Write.contents c.args.writer.now) (g.W.Write.contents c.write_character.new.writer) (shown_name c.args.name.now) c.from_residual.ensures.0
    (cut_in_character c.in-Some.character (chars_rest c.loop-character.character-iterator) (chars_rest c.next.new.self) (shown_name c.args.name.now) (g.W.Write.contents c.args.writer.now) (g.W.Write.contents c.loop-character.writer) (g.W.Write.contents c.write_character.new.writer)
    held.text step held.completes c.in_err-write_character.ensures)

pub returns : goal.returns
returns g c =
    is_done (chars_rest c.loop-character.character-iterator) (shown_name c.args.name.now) (g.W.Write.contents c.args.writer.now) (g.W.Write.contents c.loop-character.writer) c.in-None.ensures.steps.0.0 c.loop-character.invariant.completes
