-- How the lists of an answer are read from flags and from the arcs of the persons.
use Rattle.std.specs.Prelude.{◌≡◌, ◌≢◌, ℕ, ◌+◌, ◌<◌, List, [], ◌∷◌, Bool, true, false, length, Option, Some, None, slice_get}
use Rattle.auc_graph.specs.declared.rows.RowArc.{RowArc}
use Rattle.auc_hall.specs.declared.search.Reached.{Reached}
use Rattle.auc_hall.specs.Search.{WasSeen, marked}

-- the places of the flags that are set, where the first place is k
abbrev pub places : ℕ → List Bool → List ℕ
places k [] = []
places k (true ∷ flags) = k ∷ places (k + 1) flags
places k (false ∷ flags) = places (k + 1) flags

-- the arcs of those persons who have one, in order
abbrev pub chosen : List (Option RowArc) → List RowArc
chosen [] = []
chosen (Some a ∷ picks) = a ∷ chosen picks
chosen (None ∷ picks) = chosen picks

-- the person is in the queue
pub record IsInQueue (queue : List Reached) (i : ℕ) : Type 0 where
  pub at : ℕ
  pub by : Reached
  pub there : slice_get queue at ≡ Some by
  pub person : by.person ≡ i

-- flags that are set for exactly the persons of the queue
pub record AreReached (queue : List Reached) (persons : ℕ) (flags : List Bool) : Type 0 where
  pub size : length flags ≡ persons
  pub all : (m : ℕ) (e : Reached) → slice_get queue m ≡ Some e → WasSeen flags e.person
  pub only : (i : ℕ) → WasSeen flags i → IsInQueue queue i
  pub count : marked flags ≡ length queue

-- the persons of the queue are distinct and in range
pub record ArePersons (queue : List Reached) (persons : ℕ) : Type 0 where
  pub within : (m : ℕ) (e : Reached) → slice_get queue m ≡ Some e → e.person < persons
  pub apart : (m n : ℕ) (e f : Reached) → slice_get queue m ≡ Some e → slice_get queue n ≡ Some f → m < n → e.person ≢ f.person
