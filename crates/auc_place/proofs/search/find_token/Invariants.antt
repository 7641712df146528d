use Rattle.std.proofs.Common.{◌≡◌, ◌≤◌, ◌*◌, List, ℕ, length}
use Rattle.std.specs.Io.KnownBytes.{Consumes}
use Rattle.auc_place.specs.declared.search.TheConstants.{PIECE}
use Rattle.auc_place.specs.Search.{IsFinding, IsOpen}
use Rattle.auc_place.proofs.search.find_token.Given as goal

-- the text so far, of at least a byte a read and of at most a piece
abbrev pub invariant-loop-done : goal.invariant-loop-done
invariant-loop-done g l = record {
  long : length l.piece ≡ PIECE;
  known : IsOpen l.finding;
  seen : List ℕ;
  taken : Consumes (g.R.Read.remaining l.fn.reader) (g.R.Read.remaining l.reader) seen;
  least : l._done ≤ length seen;
  most : length seen ≤ l._done * PIECE;
  finds : IsFinding l.number seen l.finding;
}
