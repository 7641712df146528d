use Rattle.std.proofs.Common.{◌≡◌, ◌≤◌, ◌++◌, ℕ, List, length, take}
use Rattle.std.specs.Io.KnownBytes.{Consumes}
use Rattle.auc_graph.specs.Reading.{reading}
use Rattle.auc_graph.specs.declared.unfinished.TheConstants.{MOST_KEPT}
use Rattle.auc_graph.specs.Pieces.{reading_from, IsKnown, IsPlain}
use Rattle.auc_graph.proofs.reading.read_by_pieces.Given as goal

abbrev pub invariant-loop-done : goal.invariant-loop-done
invariant-loop-done g l = record {
  few : l.kept ≤ MOST_KEPT;
  long : length l.piece ≡ length l.fn.piece;
  sound : IsKnown l.limits.arcs l.known l.arcs.items;
  plain : IsPlain (take l.kept l.piece);
  -- the text so far, of at least a byte a read, and what it comes to with the bytes behind it
  text : List ℕ;
  taken : Consumes (g.R.Read.remaining l.fn.reader) (g.R.Read.remaining l.reader) text;
  done : l._done ≤ length text;
  reads : (more : List ℕ) → reading l.limits.persons l.limits.arcs l.limits.objects (text ++ more) ≡ reading_from l.limits.arcs l.known l.arcs.items (take l.kept l.piece ++ more);
}
