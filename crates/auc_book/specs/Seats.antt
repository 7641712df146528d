-- The place of a worker's seat in a list of seats, and the list without it.
use Rattle.std.specs.Prelude.{◌≡◌, ℕ, ◌<◌, List, ◌∷◌, ◌++◌, length, slice_index_or}
use Rattle.auc_book.specs.Seat.{Account}

-- the seat at place i is the worker's
pub record IsPlaceOf {T : Type 0} (k : ℕ) (seats : List (Account T)) (i : ℕ) : Type 0 where
  pub here : i < length seats
  pub whose : (d : Account T) → (slice_index_or seats i d).worker ≡ k

-- the list without one seat of the worker
pub record TakesSeat {T : Type 0} (k : ℕ) (old : List (Account T)) (a : Account T) (new : List (Account T)) : Type 0 where
  pub front : List (Account T)
  pub back : List (Account T)
  pub before : old ≡ front ++ a ∷ back
  pub after : new ≡ front ++ back
  pub whose : a.worker ≡ k
