-- The award rule: the object after a bid, and the letters that answer the bid.
use Rattle.std.specs.Prelude.{ℕ, ℤ, ◌+ℤ◌, ◌==◌, ◌&&◌, int_le, Bool, List, [], ◌∷◌, Option, Some, None, if◌then◌else◌, filter_map}
use Rattle.std.specs.List.{fold}
use Rattle.auc_letters.specs.declared.letter.Letter.{Letter}
use Rattle.auc_letters.specs.declared.letter.Bid.{Bid}
use Rattle.auc_letters.specs.declared.out.Out.{Out}
use Rattle.auc_letters.specs.declared.state.Held.{Held}
use Rattle.auc_letters.specs.Price.{is_amount}
use Rattle.auc_letters.specs.Routing.{to_person, to_object, to_hub}

-- the state of an object in its shard: the price, and the holder
pub record Sale : Type 0 where
  pub price : ℤ
  pub holder : Option Held

-- the amount that a bid has to reach
abbrev pub least_amount : ℤ → ℤ → ℤ
least_amount price eps = price +ℤ eps

-- a bid is accepted exactly where its amount is at least the price plus eps
abbrev pub is_accepted : ℤ → Sale → Bid → Bool
is_accepted eps sale bid = int_le (least_amount sale.price eps) bid.amount

-- the object after an accepted bid: the bidder holds it by the arc of the bid, and the amount is its price
abbrev pub sold_by : Bid → Sale
sold_by bid = record { price = bid.amount; holder = Some (record { person = bid.person; arc = bid.arc }) }

-- The award: an accepted bid sells the object, and any other bid changes nothing.
abbrev pub award : ℤ → Sale → Bid → Sale
award eps sale bid = if is_accepted eps sale bid then sold_by bid else sale

-- the letters of an accepted bid: Outbid to the holder before, then the award; or the award, then First to the hub if
-- the object had no holder
abbrev pub awards : ℕ → Option Held → ℕ → ℕ → ℤ → List Out
awards shards None person object price = to_person shards person (Letter.Award person object price) ∷ to_hub (Letter.First object) ∷ []
awards shards (Some held) person object price =
    to_person shards held.person (Letter.Outbid held.person object price) ∷ to_person shards person
    (Letter.Award person object price) ∷ []

-- the letter of a bid that is too low, with the present price
abbrev pub refusal : ℕ → ℕ → ℕ → ℤ → List Out
refusal shards person object price = to_person shards person (Letter.Refused person object price) ∷ []

-- The letters that answer a bid, in the order in which they are sent, for this number of person shards.
abbrev pub answers : ℕ → ℤ → Sale → Bid → List Out
answers shards eps sale bid =
    if is_accepted eps sale bid then awards shards sale.holder bid.person bid.object bid.amount else refusal shards
    bid.person bid.object sale.price

-- the object after some bids on it, one after another
abbrev pub award_all : ℤ → Sale → List Bid → Sale
award_all eps sale bids = fold (award eps) sale bids

-- the bid of a person on an object, by the arc at this place
abbrev pub bid_of : ℕ → ℕ → ℕ → ℤ → Bid
bid_of person arc object amount = record { person = person; arc = arc; object = object; amount = amount }

-- a bid as a letter
abbrev pub bid_letter : Bid → Letter
bid_letter bid = Letter.Bid bid.person bid.arc bid.object bid.amount

-- a bid as a letter to the shard of its object, for this number of shards
abbrev pub bid_out : ℕ → Bid → Out
bid_out shards bid = to_object shards bid.object (bid_letter bid)

-- the bid on this object that a letter holds, if its amount is in range
abbrev pub bid_on : ℕ → Letter → Option Bid
bid_on object (Letter.Bid i a j amount) = if (j == object) && is_amount amount then Some (bid_of i a j amount) else None
bid_on object (Letter.Award i j p) = None
bid_on object (Letter.Refused i j p) = None
bid_on object (Letter.Outbid i j p) = None
bid_on object (Letter.Price j p) = None
bid_on object (Letter.First j) = None
bid_on object (Letter.Stop y) = None

-- the bids on an object among letters, in order
abbrev pub bids_on : ℕ → List Letter → List Bid
bids_on object letters = filter_map (bid_on object) letters
