-- Rows in rising order of their objects, and a pass over one.
use Rattle.std.specs.Prelude.{◌≡◌, ◌<◌, ℤ, ◌≤ℤ◌, ◌<ℤ◌, List, AllPairs}
use Rattle.auc_graph.specs.declared.rows.RowArc.{RowArc}
use Rattle.auc_persons.specs.declared.bidder.rising.Nearest.{Nearest}

abbrev pub IsRisingRow : List RowArc → Type 0
IsRisingRow row = AllPairs (λ a b. a.object < b.object) row

-- best and second after one more arc, by cases
pub record Drawn (l : Nearest) (v : ℤ) (a : RowArc) (r : Nearest) : Type 0 where
  pub wins : v <ℤ l.value → (r.value ≡ v) × ((r.second ≡ l.value) × (r.best.now ≡ a))
  pub next : l.value ≤ℤ v → v <ℤ l.second → (r.value ≡ l.value) × ((r.second ≡ v) × (r.best.now ≡ l.best.now))
  pub stays : l.value ≤ℤ v → l.second ≤ℤ v → (r.value ≡ l.value) × ((r.second ≡ l.second) × (r.best.now ≡ l.best.now))
