-- Candidate lists: what they say of a row, which stays true while copies rise.
use Rattle.std.specs.Prelude.{◌≡◌, ◌<◌, ◌≤◌, ◌+◌, ◌^◌, ◌⊎◌, ℕ, Bool, true, ℤ, pos, ◌≤ℤ◌, ◌<ℤ◌, List, [], length, take, All, AllPairs, Contains}
use Rattle.auc_graph.specs.declared.rows.RowArc.{RowArc}
use Rattle.auc_graph.specs.Bid.{value}
use Rattle.auc_graph.specs.Table.{Table, row_of}
use Rattle.auc_persons.specs.declared.bidder.scan.Scan.{Scan}
use Rattle.auc_persons.specs.Rising.{IsRisingRow}
use Rattle.auc_persons.specs.Scan.{copy_in, endless}

-- the candidate list of a person: some arcs of the row, and a bound
pub record Listed : Type 0 where
  pub person : ℕ
  pub bound : ℤ
  pub arcs : List RowArc

abbrev pub no_list : ℕ → Listed
no_list person = record { person = person; bound = pos 0; arcs = [] }

-- The arcs of the list are arcs of the row, in the row's order. If there are any, the value of each other arc of the
-- row is the bound at least.
pub record Keeps (val : RowArc → ℤ) (row arcs : List RowArc) (bound : ℤ) : Type 0 where
  pub members : All (Contains row) arcs
  pub rising : AllPairs (λ a b. a.arc < b.arc) arcs
  pub rest : (arcs ≡ []) ⊎ All (λ b. Contains arcs b ⊎ (bound ≤ℤ val b)) row

-- the list of a person is correct at these copies
abbrev pub KeepsListed : Table → List ℤ → Listed → Type 0
KeepsListed t copies l = Keeps (value (pos (length t.rows + 1)) (copy_in copies)) (row_of t l.person) l.arcs l.bound

-- all lists are correct at these copies
abbrev pub Kept : Table → List ℤ → List Listed → Type 0
Kept t copies lists = All (KeepsListed t copies) lists

-- what a pass over a list has found decides: the best is below the bound of the arcs left out, and the second is at
-- most the bound
pub record Decides (bound : ℤ) (f : Scan) : Type 0 where
  pub best : f.value <ℤ bound
  pub next : f.second ≤ℤ bound
  pub some : f.second <ℤ endless

-- a list of the arcs of a row seen so far: its arcs are among them, and the value of each other one is the bound at
-- least
pub record Gathered (val : RowArc → ℤ) (seen arcs : List RowArc) (bound : ℤ) : Type 0 where
  pub members : All (Contains seen) arcs
  pub rising : AllPairs (λ a b. a.arc < b.arc) arcs
  pub rest : All (λ b. Contains arcs b ⊎ (bound ≤ℤ val b)) seen

-- the parts of a list of at most 24 arcs, of which the first `count` are in it: how far its next bound is above the
-- second-best value, its bound, and whether its arcs rise by object
pub record AreListParts (count : ℕ) (arcs : List RowArc) (delta bound : ℤ) (rises : Bool) : Type 0 where
  pub few : count ≤ 24
  pub room : length arcs ≡ 24
  pub least : pos 1 ≤ℤ delta
  pub most : delta ≤ℤ pos (2 ^ 60)
  pub bounded : bound ≤ℤ pos (2 ^ 62)
  pub rising : rises ≡ true → IsRisingRow (take count arcs)
