-- Bid: a shard of the persons asks the person that has been free longest for a bid, and puts a letter into its outbox.
use Rattle.std.specs.Prelude.{ℕ, ◌-◌, ◌^◌, ◌<◌, ◌≤◌, ◌≡◌, ◌≢◌, ◌⊎◌, ℤ, pos, ◌≤ℤ◌, ◌<ℤ◌, true, false, List, [], ◌∷◌}
use Rattle.auc_graph.specs.declared.rows.RowArc.{RowArc}
use Rattle.auc_graph.specs.Bid.{IsBid}
use Rattle.auc_letters.specs.declared.letter.Letter.{Letter}
use Rattle.auc_letters.specs.declared.letter.Why.{Why}
use Rattle.auc_letters.specs.declared.state.PersonState.{PersonState}
use Rattle.auc_letters.specs.Award.{bid_of, bid_out}
use Rattle.auc_letters.specs.Routing.{to_hub}
use Rattle.auc_model.specs.declared.turn.TurnReply.{TurnReply}
use Rattle.auc_model.specs.Put.{put}
use Rattle.auc_model.specs.World.{Phase, World, scale}

-- the bid of person i at the copies of the shard s
abbrev pub Bids : Phase → World → ℕ → ℕ → RowArc → ℤ → Type 0
Bids g w s i arc amount = IsBid (scale g) g.spread g.eps (w.copy s) (g.row i) arc amount

-- bids are left, and the bid of person i would be above the greatest price
pub record BidsTooHigh (g : Phase) (w : World) (s i : ℕ) : Type 0 where
  pub left : w.bids_left s ≢ 0
  pub arc : RowArc
  pub amount : ℤ
  pub bid : Bids g w s i arc amount
  pub above : pos (2 ^ 61) <ℤ amount

-- why person i can't bid, in this order: no bid is left, the row is empty, the bid would be above the greatest price
abbrev pub Stops : Phase → World → ℕ → ℕ → Why → Type 0
Stops g w s i Why.Bids = w.bids_left s ≡ 0
Stops g w s i Why.Stuck = (w.bids_left s ≢ 0) × (g.row i ≡ [])
Stops g w s i Why.Ceiling = BidsTooHigh g w s i
Stops g w s i Why.Posts = ⊥
Stops g w s i Why.Trail = ⊥
Stops g w s i Why.Mail = ⊥
Stops g w s i Why.Fell = ⊥
Stops g w s i Why.Stray = ⊥

-- a person has no arc
pub record SomeoneStuck (g : Phase) : Type 0 where
  pub person : ℕ
  pub known : person < g.persons
  pub no_arc : g.row person ≡ []

-- the world after the shard s has made a Stop
abbrev pub after_stop : World → ℕ → Why → World
after_stop w s y = record w { has_stopped = put w.has_stopped s true; person_out = put w.person_out s (to_hub (Letter.Stop y) ∷ []) }

-- the world after person i of the shard s has bid: i waits, rest are the free persons, and a bid is used up
abbrev pub after_bid : Phase → World → ℕ → ℕ → List ℕ → RowArc → ℤ → World
after_bid g w s i rest arc amount = record w {
  state = put w.state i (PersonState.Waits arc.object);
  idle = put w.idle s rest;
  bids_left = put w.bids_left s (w.bids_left s - 1);
  person_out = put w.person_out s (bid_out g.shards (bid_of i arc.arc arc.object amount) ∷ []);
}

-- The shard s may bid: it exists, its outbox is empty, and it has made no Stop. Person i has been free longest, before
-- rest.
pub record MayBid (g : Phase) (w : World) (s i : ℕ) (rest : List ℕ) : Type 0 where
  pub known : s < g.shards
  pub empty : w.person_out s ≡ []
  pub going : w.has_stopped s ≡ false
  pub first : w.idle s ≡ i ∷ rest

-- Bid(s): nothing happens, or the shard makes a Stop, or its person bids
pub data BidTurn (g : Phase) (w : World) (s : ℕ) (r : TurnReply) (v : World) : Type 0 where
  barred : ((g.shards ≤ s) ⊎ (w.person_out s ≢ []) ⊎ (w.has_stopped s ≡ true) ⊎ (w.idle s ≡ []))
      → r ≡ TurnReply.Nothing → v ≡ w → BidTurn g w s r v
  stops : (i : ℕ) (rest : List ℕ) (y : Why) → MayBid g w s i rest → Stops g w s i y → r ≡ TurnReply.Moved
      → v ≡ after_stop w s y → BidTurn g w s r v
  bids : (i : ℕ) (rest : List ℕ) (arc : RowArc) (amount : ℤ) → MayBid g w s i rest
      → w.bids_left s ≢ 0 → Bids g w s i arc amount → amount ≤ℤ pos (2 ^ 61)
      → r ≡ TurnReply.Moved → v ≡ after_bid g w s i rest arc amount → BidTurn g w s r v
