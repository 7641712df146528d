-- Which persons are free, and which belong to a shard.
use Rattle.std.specs.Prelude.{ℕ, ◌%◌, ◌==◌, Bool, true, false, List, filter}
use Rattle.std.specs.List.{range_with_len}
use Rattle.auc_letters.specs.declared.state.PersonState.{PersonState}

abbrev pub is_free : PersonState → Bool
is_free PersonState.Free = true
is_free (PersonState.Waits object) = false
is_free (PersonState.Holds object) = false

-- the persons of a shard in rising order, for these numbers of shards and persons
abbrev pub persons_of : ℕ → ℕ → ℕ → List ℕ
persons_of shard shards persons = filter (λ i. (i % shards) == shard) (range_with_len 0 persons)
