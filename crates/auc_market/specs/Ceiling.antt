-- Which problems may have no prices up to the greatest.
use Rattle.std.specs.Prelude.{ℕ, ℤ, pos, ◌≡◌, ◌<◌, ◌^◌, ◌+ℤ◌, ◌*ℤ◌, ◌≤ℤ◌, ◌<ℤ◌, length, Contains}
use Rattle.auc_rows.specs.declared.arc.ShortArc.{ShortArc}
use Rattle.auc_rows.specs.Rows.{FlatTable, flat_row_of, scale_in}

-- no arc costs more than another one plus the spread
abbrev pub AreSpread : FlatTable → Type 0
AreSpread r = (i k : ℕ) (a b : ShortArc) → Contains (flat_row_of r i) a → Contains (flat_row_of r k) b → a.cost ≤ℤ (b.cost +ℤ r.spread)

-- an arc of each person, no two of them to the same object
pub record IsMatching (r : FlatTable) (choice : ℕ → ShortArc) : Type 0 where
  pub listed : (i : ℕ) → i < length r.rows → Contains (flat_row_of r i) (choice i)
  pub apart : (i k : ℕ) → i < length r.rows → k < length r.rows → (choice i).object ≡ (choice k).object → i ≡ k

-- A price may have to pass the greatest one. Along the arcs of as many persons as there are, prices may differ by
-- the scaled spread and eps each.
abbrev pub IsWide : FlatTable → ℤ → Type 0
IsWide r eps = pos (2 ^ 61) <ℤ ((pos (length r.rows) *ℤ ((scale_in r *ℤ r.spread) +ℤ eps)) +ℤ eps)
