-- One pass over the blocks of a person: those that are left out, since their bounds are above a limit, and those that
-- get a new bound.
use Rattle.std.proofs.Common.{◌≡◌, ℕ, ◌+◌, ◌*◌, ◌/◌, ◌<◌, ◌≤◌, List, length, get_or, pos, refl, w64, arith}
use Rattle.std.specs.Prelude.{FitsSigned, ℤ, ◌<ℤ◌, set}
use Rattle.std.proofs.lemmas.Int.{ints}
use Rattle.std.proofs.lemmas.List.Elements.{All-get_or, All-set}
use Rattle.auc_graph.specs.declared.rows.RowArc.{RowArc}
use Rattle.auc_graph.specs.Bid.{value}
use Rattle.auc_graph.specs.Table.{Table, row_of}
use Rattle.auc_persons.specs.declared.bidder.bound.Bound.{Bound}
use Rattle.auc_persons.specs.declared.bidder.bound.Blocked.{Blocked}
use Rattle.auc_persons.specs.Blocks.{Above, AreNumbered, AreOfSame, AreRight, IsOf, of_bound}
use Rattle.auc_persons.specs.Candidates.{KeepsListed}
use Rattle.auc_persons.specs.Scan.{copy_in}
use Rattle.auc_persons.proofs.BlockBounds.{bound_is, bound_says}
use Rattle.auc_persons.proofs.BlockNumbers.{above_none, same_set}
use Rattle.auc_persons.proofs.SameRows.{Rises}

some_bound : Bound
some_bound = record { least = pos 0; person = record { marker = record {}; value = 0 }; block = record { marker = record {}; value = 0 } }

pub same_itself : (bounds : List Bound) → AreOfSame bounds bounds
same_itself bounds = record { many = refl; each = λ j person block d is. is }

-- what holds of the bounds all along
pub record Holds (made t : Table) (copies : List ℤ) (before bounds : List Bound) (b : Blocked) (person : ℕ) : Type 0 where
  pub own : b.person ≡ person
  pub arcs : b.arcs ≡ length (row_of t person)
  pub long : 256 < length (row_of t person)
  pub rises : Rises (row_of t person)
  pub row : row_of made person ≡ row_of t person
  pub numbered : AreNumbered before b
  pub same : AreOfSame before bounds
  pub right : AreRight made t copies bounds

module _ (made t : Table) (copies : List ℤ) (before bounds : List Bound) (b : Blocked) (person : ℕ) (h : Holds made t copies before bounds b person) where
  abbrev val : RowArc → ℤ
  val = value (pos (length t.rows + 1)) (copy_in copies)

  -- the place of the bound of a block
  stands : (block : ℕ) (d : Bound) → 16 * block < length (row_of t person) → (b.start + block < length bounds) × IsOf person block (get_or bounds (b.start + block) d)
  stands block d lt =
      let number = h.numbered block d (omega (arith, h.arcs, h.long)) (omega (arith, h.arcs, lt)) in
      (omega (arith, h.same.many, number.0), h.same.each (b.start + block) person block d (rw h.own at number.1))

  -- the arcs of blocks with bounds above a limit are above it, too
  pub left_out : (limit : ℤ) (from to : ℕ) → FitsSigned w64 limit → ((block : ℕ) (d : Bound) → from ≤ block → block < to → limit <ℤ (get_or bounds (b.start + block) d).least) → (k : ℕ) (d : RowArc) → 16 * from ≤ k → k < 16 * to → k < length (row_of t person) → limit <ℤ val (get_or (row_of t person) k d)
  left_out limit from to fits far k d low high lt =
      let block = k / 16 in
      let here = stands block some_bound (omega (arith, lt)) in
      let over = far block some_bound (omega (arith, low)) (omega (arith, high)) in
      let keeps = All-get_or (λ x. KeepsListed t copies (of_bound made x)) bounds (b.start + block) some_bound here.0 h.right in
      let says = bound_says made t copies (get_or bounds (b.start + block) some_bound) person block here.1 (above_none limit _ fits over) h.row (omega (arith, lt)) h.long h.rises keeps in
      omega (arith, ints, over, says k d (omega arith) (omega arith) lt)

  -- a block with a new bound
  pub looked_at : (block : ℕ) (d : Bound) (least : ℤ) → 16 * block < length (row_of t person) → Above val (row_of t person) (16 * block) (16 * block + 16) least
      → Holds made t copies before (set bounds (b.start + block) (record (get_or bounds (b.start + block) d) { least = least })) b person
  looked_at block d least lt above =
      let here = stands block d lt in
      let new : Bound = record (get_or bounds (b.start + block) d) { least = least } in
      record {
        own = h.own;
        arcs = h.arcs;
        long = h.long;
        rises = h.rises;
        row = h.row;
        numbered = h.numbered;
        same = same_set before bounds (b.start + block) d least here.0 h.same;
        right = All-set (λ x. KeepsListed t copies (of_bound made x)) bounds (b.start + block) new (bound_is made t copies new person block here.1 h.row (omega (arith, lt)) h.rises above) h.right;
      }
