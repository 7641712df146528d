-- Persons and objects without shards. The state of a pair of a person and an object follows from the person's state,
-- from the answers under way, and from what the object's shard knows.
use Rattle.std.specs.Prelude.{ℕ, zero, suc, ◌+◌, ◌==◌, ◌≡◌, ◌≢◌, Bool, true, false, List, [], ◌∷◌, ◌++◌, Option, Some, None, if◌then◌else◌}
use Rattle.auc_letters.specs.declared.state.PersonState.{PersonState}
use Rattle.auc_letters.specs.declared.state.PersonState.TheVariants.{Free, Waits, Holds}
use Rattle.auc_model.specs.Put.{put, put2}

-- an answer to a person about an object
pub data Answer : Type 0 where
  Award : Answer
  Refused : Answer
  Outbid : Answer

-- the state of a person towards one object
pub data PairState : Type 0 where
  Unassigned : PairState
  Waiting : PairState
  Holding : PairState
  Wrong : PairState

-- the state of a pair after one answer; Wrong where the state doesn't allow it
abbrev pub pair_after : PairState → Answer → PairState
pair_after Waiting Award = Holding
pair_after Waiting Refused = Unassigned
pair_after Holding Outbid = Unassigned
pair_after Waiting Outbid = Wrong
pair_after Holding Award = Wrong
pair_after Holding Refused = Wrong
pair_after Unassigned a = Wrong
pair_after Wrong a = Wrong

-- the state of the pair after all answers under way
abbrev pub replay : PairState → List Answer → PairState
replay s [] = s
replay s (a ∷ xs) = replay (pair_after s a) xs

-- the state of the pair, from the state that the person's shard keeps
abbrev pub pair_state : PersonState → ℕ → PairState
pair_state Free j = Unassigned
pair_state (Waits k) j = if k == j then Waiting else Unassigned
pair_state (Holds k) j = if k == j then Holding else Unassigned

-- the state of the pair that the object's side knows, by whether the person holds the object, and the number of the
-- person's bids on it that are under way
abbrev pub pair_known : Bool → ℕ → PairState
pair_known true zero = Holding
pair_known true (suc n) = Wrong
pair_known false zero = Unassigned
pair_known false (suc zero) = Waiting
pair_known false (suc (suc n)) = Wrong

abbrev pub is_held_by : Option ℕ → ℕ → Bool
is_held_by None i = false
is_held_by (Some k) i = k == i

-- both sides agree: the person's own state after the answers under way is the state that the object's side knows
pub record Agree (s : PairState) (answers : List Answer) (known : PairState) : Type 0 where
  pub same : replay s answers ≡ known
  pub right : known ≢ Wrong

-- the state of persons and objects without shards: by person, by object, or by pair
pub record Places : Type 0 where
  pub state : ℕ → PersonState
  pub holder : ℕ → Option ℕ
  pub bids : ℕ → ℕ → ℕ
  pub answers : ℕ → ℕ → List Answer

-- both sides agree about every pair of a person and an object
abbrev pub InPlace : Places → Type 0
InPlace w = (i j : ℕ) → Agree (pair_state (w.state i) j) (w.answers i j) (pair_known (is_held_by (w.holder j) i) (w.bids i j))

abbrev pub answered : Places → ℕ → ℕ → Answer → ℕ → ℕ → List Answer
answered w i j a = put2 w.answers i j (w.answers i j ++ a ∷ [])

-- person i bids on object j
abbrev pub bid : Places → ℕ → ℕ → Places
bid w i j = record { state = put w.state i (Waits j); holder = w.holder; bids = put2 w.bids i j (w.bids i j + 1); answers = w.answers }

-- object j refuses one of person i's bids, of which n more are under way
abbrev pub refuse : Places → ℕ → ℕ → ℕ → Places
refuse w i j n = record { state = w.state; holder = w.holder; bids = put2 w.bids i j n; answers = answered w i j Refused }

-- object j, which has no holder, goes to person i
abbrev pub award : Places → ℕ → ℕ → ℕ → Places
award w i j n = record { state = w.state; holder = put w.holder j (Some i); bids = put2 w.bids i j n; answers = answered w i j Award }

-- object j goes from its holder k to person i
abbrev pub pass_on : Places → ℕ → ℕ → ℕ → ℕ → Places
pass_on w i j n k =
    record {
      state =
          w.state;
      holder = put w.holder j (Some i);
      bids = put2 w.bids i j n;
      answers = put2 (answered w k j Outbid) i
          j (answered w k j Outbid i j ++ Award ∷ []);
    }

-- the state of a person after an answer
abbrev pub heard : Answer → ℕ → PersonState
heard Award j = Holds j
heard Refused j = Free
heard Outbid j = Free

-- the state of a person allows the answer
abbrev pub Allows : PersonState → Answer → ℕ → Type 0
Allows s Award j = s ≡ Waits j
Allows s Refused j = s ≡ Waits j
Allows s Outbid j = s ≡ Holds j

-- person i takes the first answer about object j, and xs are left
abbrev pub hear : Places → ℕ → ℕ → Answer → List Answer → Places
hear w i j a xs = record { state = put w.state i (heard a j); holder = w.holder; bids = w.bids; answers = put2 w.answers i j xs }
