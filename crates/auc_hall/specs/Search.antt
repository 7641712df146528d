-- The invariants of the search for a free object.
use Rattle.std.specs.Prelude.{◌≡◌, ◌≢◌, ℕ, ◌+◌, ◌<◌, List, [], ◌∷◌, ◌++◌, Bool, true, false, length, Contains, All, Option, Some, None, slice_get, slice_index_or}
use Rattle.auc_graph.specs.declared.rows.RowArc.{RowArc}
use Rattle.auc_graph.specs.Table.{Table, row_of}
use Rattle.auc_hall.specs.declared.search.Reached.{Reached}
use Rattle.auc_hall.specs.Matched.{holder_of, IsMatched}

-- the person at this place of the queue has this arc in its row
pub record HasArc (t : Table) (queue : List Reached) (at : ℕ) (a : RowArc) : Type 0 where
  pub by : Reached
  pub there : slice_get queue at ≡ Some by
  pub own : Contains (row_of t by.person) a

-- an arc of an earlier person leads to each person of the queue but the first
abbrev pub AreKnown : Table → List Reached → Type 0
AreKnown t queue = (m : ℕ) (e : Reached) → slice_get queue m ≡ Some e → 0 < m → HasArc t queue e.parent e.arc

-- each person of the queue but the first holds an object to which an arc of an earlier one leads
pub record IsTrail (t : Table) (holder : List (Option ℕ)) (queue : List Reached) : Type 0 where
  pub before : (m : ℕ) (e : Reached) → slice_get queue m ≡ Some e → 0 < m → e.parent < m
  pub known : AreKnown t queue
  pub held : (m : ℕ) (e : Reached) → slice_get queue m ≡ Some e → 0 < m → holder_of holder e.arc.object ≡ Some e.person
  pub within : (m : ℕ) (e : Reached) → slice_get queue m ≡ Some e → e.person < length t.rows
  pub apart : (m n : ℕ) (e f : Reached) → slice_get queue m ≡ Some e → slice_get queue n ≡ Some f → m < n → e.person ≢ f.person

-- the person holds no object
abbrev pub HoldsNothing : List (Option ℕ) → ℕ → Type 0
HoldsNothing holder i = (j : ℕ) → holder_of holder j ≢ Some i

-- the holders of the objects are persons, and none holds two
pub record AreHolders (t : Table) (holder : List (Option ℕ)) : Type 0 where
  pub objects : length holder ≡ t.objects
  pub within : (j i : ℕ) → holder_of holder j ≡ Some i → i < length t.rows
  pub once : (j k i : ℕ) → holder_of holder j ≡ Some i → holder_of holder k ≡ Some i → j ≡ k

-- the queue starts with a person who holds no object
pub record Starts (queue : List Reached) (holder : List (Option ℕ)) : Type 0 where
  pub by : Reached
  pub there : slice_get queue 0 ≡ Some by
  pub free : HoldsNothing holder by.person

-- the number of flags that are set
abbrev pub marked : List Bool → ℕ
marked [] = 0
marked (false ∷ flags) = marked flags
marked (true ∷ flags) = 1 + marked flags

-- the object's flag is set
abbrev pub WasSeen : List Bool → ℕ → Type 0
WasSeen seen j = slice_index_or seen j false ≡ true

-- the object is that of a person of the queue after the first
pub record Reaches (queue : List Reached) (j : ℕ) : Type 0 where
  pub at : ℕ
  pub by : Reached
  pub there : slice_get queue at ≡ Some by
  pub later : 0 < at
  pub object : by.arc.object ≡ j

-- an object to which no arc of the queue leads has no flag
abbrev pub AreMarks : List Reached → List Bool → Type 0
AreMarks queue seen =
    (j : ℕ) → ((m : ℕ) (e : Reached) → slice_get queue m ≡ Some e → e.arc.object ≢ j) → slice_index_or seen j false ≡ false

-- the objects seen so far are exactly those of the queue after its first person
pub record AreSeen (t : Table) (queue : List Reached) (seen : List Bool) : Type 0 where
  pub size : length seen ≡ t.objects
  pub reached : (m : ℕ) (e : Reached) → slice_get queue m ≡ Some e → 0 < m → WasSeen seen e.arc.object
  pub behind : (j : ℕ) → WasSeen seen j → Reaches queue j
  pub count : marked seen + 1 ≡ length queue

-- each arc of the first persons of the queue, up to this place, leads to an object that was seen
abbrev pub AreWalked : Table → List Reached → List Bool → ℕ → Type 0
AreWalked t queue seen at =
    (m : ℕ) (e : Reached) → m < at → slice_get queue m ≡ Some e → All (λ a. WasSeen seen a.object) (row_of t e.person)

-- the invariant of the search: a queue of reached persons that starts with one who holds nothing, and the objects seen
pub record IsSearch (t : Table) (holder : List (Option ℕ)) (queue : List Reached) (seen : List Bool) : Type 0 where
  pub trail : IsTrail t holder queue
  pub starts : Starts queue holder
  pub marks : AreSeen t queue seen

-- the person has this arc in its row, to a free object
pub record IsFreeArc (t : Table) (holder : List (Option ℕ)) (person : ℕ) (a : RowArc) : Type 0 where
  pub own : Contains (row_of t person) a
  pub free : holder_of holder a.object ≡ None
  pub room : a.object < length holder

-- the person at this place of the queue has this arc in its row, to a free object
pub record LeadsOut (t : Table) (holder : List (Option ℕ)) (queue : List Reached) (at : ℕ) (a : RowArc) : Type 0 where
  pub has : HasArc t queue at a
  pub free : holder_of holder a.object ≡ None
  pub room : a.object < length holder

-- the queue has grown at its end
abbrev pub Grows : List Reached → List Reached → Type 0
Grows queue longer = (more : List Reached) × (longer ≡ queue ++ more)

-- An augmenting path: its start is the first of the queue, who holds no object, and its end is an arc to a free object.
-- Each person before the end has an arc to the object that the next one holds.
pub record IsAugmentingPath (t : Table) (choice : List (Option RowArc)) (holder : List (Option ℕ)) (queue : List Reached)
    (at : ℕ) (a : RowArc) : Type 0 where
  pub matched : IsMatched t choice holder
  pub trail : IsTrail t holder queue
  pub starts : Starts queue holder
  pub out : LeadsOut t holder queue at a
