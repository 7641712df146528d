-- The phases of a run with as many objects as persons, one after another, and what they leave.
use Rattle.std.specs.Prelude.{Bool, ℕ, ℤ, ◌≡◌, ◌≤ℤ◌}
use Rattle.auc_graph.specs.Assignment.{total}
use Rattle.auc_market.specs.declared.ending.Ending.{Ending}
use Rattle.auc_market.specs.Bids.{State}
use Rattle.auc_market.specs.Endings.{IsLeft, IsSold, IsStopped, IsToldOr}
use Rattle.auc_market.specs.Phases.{AreAnew, IsOpened}
use Rattle.auc_market.specs.Position.{Position, state_at}

-- phases, each after an opening
pub record Plays (bids : ℕ) (old new : Position) : Type 0 where
  pub table : new.table ≡ old.table
  pub phases : AreAnew old.table bids (state_at old) (state_at new)
  pub risen : total old.prices ≤ℤ total new.prices

-- one such phase at this eps, and its ending
pub record IsPlayedAt (eps : ℤ) (bids : ℕ) (before after : Bool) (ending : Ending) (old new : Position) : Type 0 where
  pub eps_is : new.eps ≡ eps
  pub sold : IsSold old.table ending new.owns
  pub first : State
  pub opened : IsOpened (state_at old) first
  pub stopped : IsToldOr before after ending (IsStopped old.table bids first ending new.prices)

-- what all phases leave, and why the last one, which began at `first`, has ended
pub record IsRunOut (bids : ℕ) (before after : Bool) (ending : Ending) (old new : Position) : Type 0 where
  pub table : new.table ≡ old.table
  pub left : IsLeft old.table ending new.prices new.holders new.owns
  pub phases : AreAnew old.table bids (state_at old) (state_at new)
  pub between : State
  pub earlier : AreAnew old.table bids (state_at old) between
  pub first : State
  pub opened : IsOpened between first
  pub risen : total old.prices ≤ℤ total first.prices
  pub stopped : IsToldOr before after ending (IsStopped old.table bids first ending new.prices)
