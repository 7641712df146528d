use Rattle.std.specs.Str.{IsUtf8}
use Rattle.std.specs.Str.Iter.{chars_rest}
use Rattle.auc_cert.proofs.WriteLaws.{Completes}
use Rattle.auc_messages.specs.Names.{shown_name}
use Rattle.auc_messages.proofs.naming.write_name.Given as goal

-- the characters that are left complete what was written
abbrev pub invariant-loop-character : goal.invariant-loop-character
invariant-loop-character g l = record {
  text : IsUtf8 (chars_rest l.character-iterator);
  completes : Completes (g.W.Write.contents l.fn.writer) (g.W.Write.contents l.writer) (shown_name (chars_rest l.character-iterator)) (shown_name l.fn.name);
}
