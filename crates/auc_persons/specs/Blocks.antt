-- Blocks of long rows: the bound of a block, read as a candidate list of all arcs outside the block.
use Rattle.std.specs.Prelude.{◌≡◌, ◌<◌, ◌≤◌, ◌*◌, ◌+◌, ◌++◌, ◌≤ℤ◌, ℕ, ℤ, pos, int_lt, cond, List, [], length, take, drop, All, slice_index_or}
use Rattle.auc_graph.specs.declared.rows.RowArc.{RowArc}
use Rattle.auc_graph.specs.Table.{Table, row_of}
use Rattle.auc_persons.specs.declared.bidder.bound.TheConstants.{NO_BOUND}
use Rattle.auc_persons.specs.declared.bidder.bound.Bound.{Bound}
use Rattle.auc_persons.specs.declared.bidder.bound.Blocked.{Blocked}
use Rattle.auc_persons.specs.Candidates.{KeepsListed, Listed}

-- the arcs of a row outside a block of 16
abbrev pub beside : ℕ → List RowArc → List RowArc
beside block row = take (16 * block) row ++ drop (16 * block + 16) row

-- a bound, as a list of all arcs of the row outside the block; it is empty, and says nothing, while the block's bound
-- is unknown
abbrev pub of_bound : Table → Bound → Listed
of_bound t b = record
    { person = b.person.value; bound = b.least; arcs = cond (int_lt NO_BOUND b.least) (beside b.block.value (row_of t b.person.value)) [] }

-- the bound belongs to this block of a person's row
abbrev pub IsOf : ℕ → ℕ → Bound → Type 0
IsOf person block b = (b.person.value ≡ person) × (b.block.value ≡ block)

-- the bound of the block isn't known yet
abbrev pub IsUnknown : Bound → Type 0
IsUnknown b = b.least ≡ NO_BOUND

-- the bounds of a person who has blocks follow from `start` on, in the order of the blocks
abbrev pub AreNumbered : List Bound → Blocked → Type 0
AreNumbered bounds b =
    (k : ℕ) (d : Bound) → 256 < b.arcs → 16 * k < b.arcs → (b.start + k < length bounds)
    × IsOf b.person k (slice_index_or bounds (b.start + k) d)

-- the bounds belong to the same blocks as before
pub record AreOfSame (before after : List Bound) : Type 0 where
  pub many : length after ≡ length before
  pub each : (j person block : ℕ) (d : Bound) → IsOf person block (slice_index_or before j d) → IsOf person block (slice_index_or after j d)

-- unknown bounds for this number of blocks of a person are appended, and the earlier ones stay
pub record AreAppended (person blocks : ℕ) (before after : List Bound) : Type 0 where
  pub many : length after ≡ length before + blocks
  pub kept : (j : ℕ) (d : Bound) → j < length before → slice_index_or after j d ≡ slice_index_or before j d
  pub new : (k : ℕ) (d : Bound) → k < blocks → IsOf person k (slice_index_or after (length before + k) d)
      × IsUnknown (slice_index_or after (length before + k) d)

-- the whole row of a person, as a list
abbrev pub of_blocked : Table → Blocked → Listed
of_blocked t b = record { person = b.person; bound = pos 0; arcs = row_of t b.person }

-- the bounds found for one table are correct for this one, at these copies
abbrev pub AreRight : Table → Table → List ℤ → List Bound → Type 0
AreRight made t copies bounds = All (λ b. KeepsListed t copies (of_bound made b)) bounds

-- the length of the person's row is the one noted
abbrev pub HasArcs : Table → Blocked → Type 0
HasArcs t b = length (row_of t b.person) ≡ b.arcs

-- the values of the arcs from one place of the row to another are this value or above
abbrev pub Above : (RowArc → ℤ) → List RowArc → ℕ → ℕ → ℤ → Type 0
Above val row from to least = (k : ℕ) (d : RowArc) → from ≤ k → k < to → k < length row → least ≤ℤ val (slice_index_or row k d)
