-- The candidate lists that a world keeps beside its shards of the persons.
use Rattle.std.specs.Prelude.{ℕ, ◌<◌, ◌≡◌, ℤ, List, [], length, All, slice_index_or}
use Rattle.auc_graph.specs.Table.{Table}
use Rattle.auc_persons.specs.Candidates.{Kept, Listed}
use Rattle.auc_persons.specs.Persons.{Persons}
use Rattle.auc_phases.specs.Shards.{no_persons}

-- the lists of each shard are correct at its copies
pub record AreKept (t : Table) (persons : List Persons) (lists : List (List Listed)) : Type 0 where
  pub many : length lists ≡ length persons
  pub each : (s : ℕ) → s < length lists → Kept t (slice_index_or persons s no_persons).copies (slice_index_or lists s [])

-- the lists of this number of shards are correct at these prices
pub record MayKeep (t : Table) (shards : ℕ) (prices : List ℤ) (lists : List (List Listed)) : Type 0 where
  pub many : length lists ≡ shards
  pub each : All (Kept t prices) lists
