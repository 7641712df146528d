-- A shard of the objects, as callers see it.
use Rattle.std.specs.Prelude.{◌≡◌, ◌<◌, ◌*◌, ◌%◌, ◌^◌, ℕ, ℤ, pos, List, Option, None, length, All, slice_index_or, slice_set}
use Rattle.auc_letters.specs.declared.letter.Letter.{Letter}
use Rattle.auc_letters.specs.declared.letter.Bid.{Bid}
use Rattle.auc_letters.specs.declared.state.Held.{Held}
use Rattle.auc_letters.specs.Award.{Sale, award, bid_letter}
use Rattle.auc_graph.specs.Price.{IsPrice}

-- The shard's number and the number of such shards, the number of person shards, and the number of persons. By object
-- the price and the holder.
pub record Objects : Type 0 where
  pub shard : ℕ
  pub of : ℕ
  pub person_shards : ℕ
  pub persons : ℕ
  pub prices : List ℤ
  pub holders : List (Option Held)

-- the invariant of each shard
pub record AreObjects (s : Objects) : Type 0 where
  pub known : s.shard < s.of
  pub person_shards : 0 < s.person_shards
  pub few : 2 * s.persons < 2 ^ 32
  pub each : length s.holders ≡ length s.prices
  pub prices_are : All IsPrice s.prices

-- an object of the shard
pub record Owns (s : Objects) (object : ℕ) : Type 0 where
  pub known : object < length s.prices
  pub own : object % s.of ≡ s.shard

abbrev pub price_of : Objects → ℕ → ℤ
price_of s object = slice_index_or s.prices object (pos 0)

abbrev pub holder_of : Objects → ℕ → Option Held
holder_of s object = slice_index_or s.holders object None

-- the price and the holder of an object
abbrev pub sale_of : Objects → ℕ → Sale
sale_of s object = record { price = price_of s object; holder = holder_of s object }

-- the shard with this price and this holder of an object; nothing else changes
abbrev pub with_sale : Objects → ℕ → Sale → Objects
with_sale s object sale = record s { prices = slice_set s.prices object sale.price; holders = slice_set s.holders object sale.holder }

-- the shard after a bid, by the award rule
abbrev pub after_bid : Objects → ℤ → Bid → Objects
after_bid s eps bid = with_sale s bid.object (award eps (sale_of s bid.object) bid)

-- the letter is this bid, and the shard may accept it: the object is the shard's, and the amount is in range
pub record IsBidIn (s : Objects) (letter : Letter) (bid : Bid) : Type 0 where
  pub letter_is : letter ≡ bid_letter bid
  pub owns : Owns s bid.object
  pub amount : IsPrice bid.amount

-- the numbers of the shard stay: its objects, its own number and that of the shards
pub record SameShape (s n : Objects) : Type 0 where
  pub shard : n.shard ≡ s.shard
  pub of : n.of ≡ s.of
  pub person_shards : n.person_shards ≡ s.person_shards
  pub persons : n.persons ≡ s.persons
  pub objects : length n.prices ≡ length s.prices
  pub holders : length n.holders ≡ length s.holders
