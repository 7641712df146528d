-- The objects of a shard after the letters that it takes, by the award rule.
use Rattle.std.specs.Prelude.{◌≡◌, ℕ, ℤ, List}
use Rattle.auc_letters.specs.declared.letter.Letter.{Letter}
use Rattle.auc_letters.specs.Award.{award_all, bids_on}
use Rattle.auc_objects.specs.Objects.{Objects, Owns, SameShape, sale_of}
use Rattle.auc_threads.specs.Taking.{Takes}
use Rattle.auc_threads.specs.Worker.{Taker}

-- An object shard took letters from its box, and dealt with the bids among them. Each of its objects is what the award
-- rule gives for the bids on it, in order.
pub record Sells (eps : ℤ) (room : ℕ) (old new : Taker Objects) : Type 0 where
  pub shape : SameShape old.shard new.shard
  pub letters : List Letter
  pub took : Takes room old.shard.shard old.seat letters new.seat
  pub sold : (j : ℕ) → Owns old.shard j → sale_of new.shard j ≡ award_all eps (sale_of old.shard j) (bids_on j letters)
