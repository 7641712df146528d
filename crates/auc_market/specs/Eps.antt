-- The eps of a phase, in epsilon scaling.
use Rattle.std.specs.Prelude.{ℤ, pos, ◌≡◌, ◌⊎◌, ◌*ℤ◌, ◌≤ℤ◌}
use Rattle.auc_rows.specs.Rows.{FlatTable, scale_in}

-- from 1 up to the scaled spread of the costs, or 1
pub record IsEpsOf (r : FlatTable) (eps : ℤ) : Type 0 where
  pub low : pos 1 ≤ℤ eps
  pub high : (eps ≡ pos 1) ⊎ (eps ≤ℤ (scale_in r *ℤ r.spread))
