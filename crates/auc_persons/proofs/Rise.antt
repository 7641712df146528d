-- Invariants of all calls: copies never fall, and the numbers of persons and objects stay.
use Rattle.std.proofs.Common.{◌≡◌, ℕ, ◌<◌, ◌⊎◌, inl, inr, List, length, get_or, set, refl, arith, pos, get_or-set_same, get_or-set_other}
use Rattle.std.specs.Prelude.{ℤ, ◌≤ℤ◌}
use Rattle.std.proofs.lemmas.Int.{ints}
use Rattle.std.proofs.lemmas.Bool.{cases_eq}
use Rattle.auc_persons.specs.Persons.{Persons, NeverFall, SameShape, held_after, free_after, after_bid}
use Rattle.auc_letters.specs.declared.state.PersonState.TheVariants.{Free, Waits, Holds}
use Rattle.std.proofs.lemmas.List.{length-set}

rises_by : (q : List ℤ) (j : ℕ) (p : ℤ) (k : ℕ) → j < length q → get_or q j (pos 0) ≤ℤ p → (k ≡ j) ⊎ (k ≡ j → ⊥) → get_or q k (pos 0) ≤ℤ get_or (set q j p) k (pos 0)
rises_by q j p k lt le (inl e) = rw (e, get_or-set_same) le
rises_by q j p k lt le (inr ne) = rw get_or-set_other (omega (arith, ints))

pub rises_set : (q : List ℤ) (j : ℕ) (p : ℤ) → j < length q → get_or q j (pos 0) ≤ℤ p → NeverFall q (set q j p)
rises_set q j p lt le k = rises_by q j p k lt le (cases_eq k j)

pub rises_same : (q : List ℤ) → NeverFall q q
rises_same q k = omega (arith, ints)

pub shape_same : (s : Persons) → SameShape s s
shape_same s = record { shard = refl; of = refl; object_shards = refl; persons = refl; objects = refl }

pub shape_copy : (s : Persons) (j : ℕ) (p : ℤ) → SameShape s (record s { copies = set s.copies j p })
shape_copy s j p = record { shard = refl; of = refl; object_shards = refl; persons = refl; objects = length-set s.copies j p }

pub shape_held : (s : Persons) (i j : ℕ) (p : ℤ) → SameShape s (held_after s i j p)
shape_held s i j p = record { shard = refl; of = refl; object_shards = refl; persons = length-set s.states i (Holds j); objects = length-set s.copies j p }

pub shape_free : (s : Persons) (i j : ℕ) (p : ℤ) → SameShape s (free_after s i j p)
shape_free s i j p = record { shard = refl; of = refl; object_shards = refl; persons = length-set s.states i Free; objects = length-set s.copies j p }

pub shape_bid : (s : Persons) (i j : ℕ) → SameShape s (after_bid s i j)
shape_bid s i j = record { shard = refl; of = refl; object_shards = refl; persons = length-set s.states i (Waits j); objects = refl }
