-- A shard of the persons, as callers see it, and the result of each call.
use Rattle.std.specs.Prelude.{◌≡◌, ◌≢◌, ◌<◌, ◌≤◌, ◌+◌, ◌-◌, ◌%◌, ◌^◌, ℕ, ℤ, pos, ◌≤ℤ◌, ◌<ℤ◌, List, [], ◌∷◌, ◌++◌, Result, Ok, Err, length, drop, All, slice_index_or, slice_set, count_by}
use Rattle.auc_graph.specs.declared.limits.TheConstants.{MOST_PERSONS}
use Rattle.auc_graph.specs.declared.rows.RowArc.{RowArc}
use Rattle.auc_graph.specs.Table.{Table, row_of}
use Rattle.auc_letters.specs.declared.letter.Letter.{Letter}
use Rattle.auc_letters.specs.declared.letter.Why.{Why}
use Rattle.auc_letters.specs.declared.state.PersonState.{PersonState}
use Rattle.auc_letters.specs.declared.state.PersonState.TheVariants.{Free, Waits, Holds}
use Rattle.auc_persons.specs.declared.bidding.Bidding.{Bidding}
use Rattle.auc_persons.specs.declared.bidding.PersonFault.{PersonFault}
use Rattle.auc_letters.specs.Persons.{is_free}
use Rattle.auc_graph.specs.Price.{IsPrice}
use Rattle.auc_letters.specs.Award.{bid_of, bid_out}
use Rattle.auc_graph.specs.Bid.{IsBid}
use Rattle.auc_persons.specs.Scan.{copy_in}

-- The shard's number and the number of such shards, the number of object shards, and the bids left. By object the copy
-- of its price, and by person its state. The free persons of the shard, longest free first.
pub record Persons : Type 0 where
  pub shard : ℕ
  pub of : ℕ
  pub object_shards : ℕ
  pub bids : ℕ
  pub copies : List ℤ
  pub states : List PersonState
  pub idle : List ℕ

-- the invariant of each shard
pub record ArePersons (s : Persons) : Type 0 where
  pub known : s.shard < s.of
  pub shards : 0 < s.object_shards
  pub few : length s.states ≤ MOST_PERSONS
  pub copies_are : All IsPrice s.copies
  pub idle_are : All (λ i. i < length s.states) s.idle
  pub room : length s.idle ≤ count_by is_free s.states

-- a person of the shard
pub record Owns (s : Persons) (person : ℕ) : Type 0 where
  pub known : person < length s.states
  pub own : person % s.of ≡ s.shard

abbrev pub copy_of : Persons → ℕ → ℤ
copy_of s object = copy_in s.copies object

abbrev pub state_of : Persons → ℕ → PersonState
state_of s person = slice_index_or s.states person Free

-- the shard has as many persons and objects as the table
pub record IsMadeFor (t : Table) (s : Persons) : Type 0 where
  pub persons : length t.rows ≡ length s.states
  pub objects : t.objects ≡ length s.copies

-- the shard with this copy of an object's price
abbrev pub with_copy : Persons → ℕ → ℤ → Persons
with_copy s object price = record s { copies = slice_set s.copies object price }

-- the person that has been free longest
abbrev pub first_idle : Persons → ℕ
first_idle s = slice_index_or s.idle 0 0

-- the bid of a person at the copies of the shard
abbrev pub Bids : Table → ℤ → Persons → ℕ → RowArc → ℤ → Type 0
Bids t eps s i arc amount = IsBid (pos (length t.rows + 1)) t.spread eps (copy_in s.copies) (row_of t i) arc amount

-- why a person can't bid, in this order: no bid is left, the row is empty, the bid would be above the greatest price
abbrev pub Stops : Table → ℤ → Persons → ℕ → Why → Type 0
Stops t eps s i Why.Bids = s.bids ≡ 0
Stops t eps s i Why.Stuck = (s.bids ≢ 0) × (row_of t i ≡ [])
Stops t eps s i Why.Ceiling = (s.bids ≢ 0) × ((arc : RowArc) × (amount : ℤ) × Bids t eps s i arc amount × (pos (2 ^ 61) <ℤ amount))
Stops t eps s i Why.Posts = ⊥
Stops t eps s i Why.Trail = ⊥
Stops t eps s i Why.Mail = ⊥
Stops t eps s i Why.Fell = ⊥
Stops t eps s i Why.Stray = ⊥

-- the shard after the bid of the first free person: that person waits, and a bid is used up
abbrev pub after_bid : Persons → ℕ → ℕ → Persons
after_bid s i j = record s { idle = drop 1 s.idle; bids = s.bids - 1; states = slice_set s.states i (Waits j) }

-- The next bid: no person is free, or the person that has been free longest can't bid, or it bids. Only the last
-- changes the shard.
abbrev pub NextBid : Table → ℤ → Persons → Bidding → Persons → Type 0
NextBid t eps s Bidding.Idle n = (s.idle ≡ []) × (n ≡ s)
NextBid t eps s (Bidding.Stop why) n = (s.idle ≢ []) × Stops t eps s (first_idle s) why × (n ≡ s)
NextBid t eps s (Bidding.Out out) n =
    (s.idle ≢ []) × (s.bids ≢ 0)
    ×
    ((arc : RowArc) × (amount : ℤ) × Bids t eps s (first_idle s) arc amount × (amount ≤ℤ pos (2 ^ 61)) × (out ≡
    bid_out s.object_shards (bid_of (first_idle s) arc.arc arc.object amount)) × (n ≡ after_bid s (first_idle s)
    arc.object))

-- an answer to a person about an object fits: numbers are in range, and the person is in the state wanted
abbrev pub FitsAnswer : Persons → ℕ → ℕ → ℤ → PersonState → Type 0
FitsAnswer s i j p wanted = (i < length s.states) × (i % s.of ≡ s.shard) × (j < length s.copies) × IsPrice p × (state_of s i ≡ wanted)

abbrev pub FitsPrice : Persons → ℕ → ℤ → Type 0
FitsPrice s j p = (j < length s.copies) × IsPrice p

abbrev pub held_after : Persons → ℕ → ℕ → ℤ → Persons
held_after s i j p = record s { copies = slice_set s.copies j p; states = slice_set s.states i (Holds j) }

abbrev pub free_after : Persons → ℕ → ℕ → ℤ → Persons
free_after s i j p = record s { copies = slice_set s.copies j p; states = slice_set s.states i Free; idle = s.idle ++ i ∷ [] }

-- the price is below the copy
abbrev pub Falls : Persons → ℕ → ℤ → Type 0
Falls s j p = p <ℤ copy_of s j

-- the copy is set to a price that is no less, or it stays and the fall is reported
abbrev pub Raised : Persons → ℕ → ℤ → Result (Unit {0}) PersonFault → Persons → Type 0
Raised s j p (Ok _) n = (copy_of s j ≤ℤ p) × (n ≡ with_copy s j p)
Raised s j p (Err PersonFault.Stray) n = ⊥
Raised s j p (Err PersonFault.Fell) n = Falls s j p × (n ≡ s)

-- the outcome of a letter: it fits and the price doesn't fall; or it doesn't fit; or it fits and the price falls
abbrev pub Outcome : Type 0 → Persons → ℕ → ℤ → Persons → Result (Unit {0}) PersonFault → Persons → Type 0
Outcome fits s j p after (Ok _) n = fits × (copy_of s j ≤ℤ p) × (n ≡ after)
Outcome fits s j p after (Err PersonFault.Stray) n = (fits → ⊥) × (n ≡ s)
Outcome fits s j p after (Err PersonFault.Fell) n = fits × Falls s j p × (n ≡ s)

abbrev pub Answered : Persons → ℕ → ℕ → ℤ → PersonState → Persons → Result (Unit {0}) PersonFault → Persons → Type 0
Answered s i j p wanted after r n = Outcome (FitsAnswer s i j p wanted) s j p after r n

abbrev pub Priced : Persons → ℕ → ℤ → Result (Unit {0}) PersonFault → Persons → Type 0
Priced s j p r n = Outcome (FitsPrice s j p) s j p (with_copy s j p) r n

-- the result of a letter to the shard, by its kind; a letter that is not for persons is stray
abbrev pub OnLetter : Persons → Letter → Result (Unit {0}) PersonFault → Persons → Type 0
OnLetter s (Letter.Award i j p) r n = Answered s i j p (Waits j) (held_after s i j p) r n
OnLetter s (Letter.Refused i j p) r n = Answered s i j p (Waits j) (free_after s i j p) r n
OnLetter s (Letter.Outbid i j p) r n = Answered s i j p (Holds j) (free_after s i j p) r n
OnLetter s (Letter.Price j p) r n = Priced s j p r n
OnLetter s (Letter.Bid i a j p) r n = (r ≡ Err PersonFault.Stray) × (n ≡ s)
OnLetter s (Letter.First j) r n = (r ≡ Err PersonFault.Stray) × (n ≡ s)
OnLetter s (Letter.Stop y) r n = (r ≡ Err PersonFault.Stray) × (n ≡ s)

-- the numbers of the shard stay: its persons, its objects, its own number and that of the shards
pub record SameShape (s n : Persons) : Type 0 where
  pub shard : n.shard ≡ s.shard
  pub of : n.of ≡ s.of
  pub object_shards : n.object_shards ≡ s.object_shards
  pub persons : length n.states ≡ length s.states
  pub objects : length n.copies ≡ length s.copies

-- no copy falls
abbrev pub NeverFall : List ℤ → List ℤ → Type 0
NeverFall q r = (k : ℕ) → slice_index_or q k (pos 0) ≤ℤ slice_index_or r k (pos 0)
