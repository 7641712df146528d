-- Augmenting paths as a phase sees them: which person is free after one.
use Rattle.std.specs.Prelude.{ℕ, ℤ, ◌≡◌, ◌≢◌, ◌<◌, List, length}
use Rattle.auc_rows.specs.declared.arc.ShortArc.{ShortArc}
use Rattle.auc_rows.specs.Rows.{FlatTable}
use Rattle.auc_letters.specs.declared.limits.TheConstants.{NOBODY}
use Rattle.auc_market.specs.Market.{AreHigher, AreUnsold, HaveAllBut, Stands, own_at}

-- The result of an augmenting path of a free person, whole or in part. The invariant between two bids holds, no price
-- has fallen, and one person is free instead, or none. No object's price has risen that nobody holds.
pub record IsAugmented (r : FlatTable) (eps : ℤ) (person : ℕ) (prices new : List ℤ) (holders sold : List ℕ)
    (owns left : List ShortArc) (free : ℕ) : Type 0 where
  pub stands : Stands r eps new sold left
  pub higher : AreHigher prices new
  pub unsold : AreUnsold prices holders → AreUnsold new sold
  pub none : (own_at left free).object ≡ NOBODY
  pub below : free ≢ NOBODY → free < length r.rows
  pub but : (n other : ℕ) → HaveAllBut n owns person other → HaveAllBut n left free other
