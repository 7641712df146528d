-- A phase with one shard of each kind, played without a world: its parameters, its start, and its invariants.
use Rattle.std.specs.Prelude.{ℕ, ◌+◌, ◌*◌, ◌-◌, ◌<◌, ◌≡◌, ℤ, pos, List, [], ◌∷◌, ◌++◌, Some, None, length, drop, replicate, slice_index_or, slice_set}
use Rattle.auc_graph.specs.Table.{IsTable, Table}
use Rattle.auc_letters.specs.declared.letter.Bid.{Bid}
use Rattle.auc_letters.specs.declared.letter.Why.{Why}
use Rattle.auc_letters.specs.declared.state.Held.{Held}
use Rattle.auc_letters.specs.Award.{award}
use Rattle.auc_letters.specs.Persons.{persons_of}
use Rattle.auc_letters.specs.Price.{IsEps}
use Rattle.auc_model.specs.Schedule.{Reached}
use Rattle.auc_model.specs.World.{Phase, World, phase_of}
use Rattle.auc_model.specs.declared.turn.End.{End}
use Rattle.auc_phases.specs.declared.limits.Limits.{Limits}
use Rattle.auc_phases.specs.Begins.{ArePrices}
use Rattle.auc_phases.specs.Limits.{AreLimits}
use Rattle.auc_answers.specs.Prepared.{NobodyStuck}
use Rattle.auc_world.specs.declared.single_shard.notice.Notice.{Notice}
use Rattle.auc_world.specs.SingleState.{SingleState, Going, Halfway, first_of, firsts_of, freed_by, sale_at, notices_of, notices_of_sale}
use Rattle.auc_machine.specs.Making.{IsMade}
use Rattle.auc_machine.specs.Parts.{Parts, world_of}
use Rattle.auc_machine.specs.Rounds.{Rounds}

-- the parameters of a phase: the rows of the problem, the limits, the prices that it begins with, and eps
pub record Given : Type 0 where
  pub table : Table
  pub limits : Limits
  pub prices : List ℤ
  pub eps : ℤ

-- the limits allow it: one shard of each kind, the usual number of letters that may wait, and more than two posts for
-- each bid
pub record MayPlaySingleShard (limits : Limits) : Type 0 where
  pub one : limits.shards ≡ 1
  pub usual : limits.nodes ≡ 0
  pub enough : 2 * limits.bids < limits.posts

pub record IsGiven (x : Given) : Type 0 where
  pub table : IsTable x.table
  pub limits : AreLimits x.limits
  pub single_shard : MayPlaySingleShard x.limits
  pub prices : ArePrices x.table x.prices
  pub eps : IsEps x.eps
  pub arcs : NobodyStuck x.table

-- the start: no object has a holder, and every person is free
abbrev pub begun : Given → SingleState
begun x = record {
  persons = length x.table.rows;
  copies = x.prices;
  prices = x.prices;
  holders = replicate (length x.prices) None;
  notices = [];
  idle = persons_of 0 1 (length x.table.rows);
  bids = x.limits.bids;
  count = 0;
}

-- the state without the first free person
abbrev pub without_first : SingleState → SingleState
without_first s = record s { idle = drop 1 s.idle }

-- the state after that person's bid was answered
abbrev pub answered : ℤ → SingleState → Bid → SingleState
answered eps s bid = record s {
  prices = slice_set s.prices bid.object (award eps (sale_at s bid.object) bid).price;
  holders = slice_set s.holders bid.object (award eps (sale_at s bid.object) bid).holder;
  notices = s.notices ++ notices_of eps (sale_at s bid.object) bid;
  bids = s.bids - 1;
  count = s.count + firsts_of eps (sale_at s bid.object) bid;
}

-- the state after the sale of an object at this price, to a holder with this arc
abbrev pub with_sale : SingleState → ℕ → ℤ → Held → SingleState
with_sale s object price held = record s {
  prices = slice_set s.prices object price;
  holders = slice_set s.holders object (Some held);
  notices = s.notices ++ notices_of_sale (sale_at s object).holder object price;
  count = s.count + first_of (sale_at s object).holder;
}

-- the state with one more notice for the persons
abbrev pub with_notice : SingleState → Notice → SingleState
with_notice s t = record s { notices = s.notices ++ t ∷ [] }

-- the state without the first notice
abbrev pub without_notice : SingleState → SingleState
without_notice s = record s { notices = drop 1 s.notices }

-- the state after the persons have noted this notice
abbrev pub noted : SingleState → Notice → SingleState
noted s t = record s { copies = slice_set s.copies t.object t.price; idle = s.idle ++ freed_by t }

-- the invariant after whole rounds of a world of the phase
pub record IsGoing (x : Given) (s : SingleState) : Type 0 where
  pub given : IsGiven x
  pub parts : Parts
  pub made : IsMade x.table x.limits x.prices x.eps parts
  pub going : Going (phase_of x.table 1 x.eps) (world_of parts) x.limits.bids x.limits.posts s
  pub persons : s.persons ≡ length x.table.rows

-- the invariant after whole rounds, and the turns of the next one up to the answers to a bid
pub record IsHalfway (x : Given) (s : SingleState) : Type 0 where
  pub given : IsGiven x
  pub parts : Parts
  pub made : IsMade x.table x.limits x.prices x.eps parts
  pub half : Halfway (phase_of x.table 1 x.eps) (world_of parts) x.limits.bids x.limits.posts s
  pub persons : s.persons ≡ length x.table.rows

-- A limit has stopped the phase, for this reason, after whole rounds. The prices and holders are those of its last
-- world.
pub record StopEnds (g : Phase) (start : World) (s : SingleState) (why : Why) : Type 0 where
  pub rounds : ℕ
  pub world : World
  pub led : Rounds g start rounds world
  pub reached : Reached g world
  pub end : world.end ≡ Some (End.Stopped why)
  pub price : (j : ℕ) → world.price j ≡ slice_index_or s.prices j (pos 0)
  pub holder : (j : ℕ) → world.holder j ≡ slice_index_or s.holders j None

pub record IsStopped (x : Given) (s : SingleState) (why : Why) : Type 0 where
  pub given : IsGiven x
  pub parts : Parts
  pub made : IsMade x.table x.limits x.prices x.eps parts
  pub ends : StopEnds (phase_of x.table 1 x.eps) (world_of parts) s why
  pub prices_are : length s.prices ≡ x.table.objects
  pub holders_are : length s.holders ≡ x.table.objects

-- A bound on the rounds that are left: each round uses up a bid, which makes at most two notices, or a notice.
abbrev pub left_of : SingleState → ℕ
left_of s = 3 * s.bids + length s.notices
