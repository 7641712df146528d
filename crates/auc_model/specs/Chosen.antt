-- The arcs of the holders.
use Rattle.std.specs.Prelude.{◌≡◌, ℕ, ℤ, List, Some, slice_get, All}
use Rattle.auc_graph.specs.declared.arc.Arc.{Arc}
use Rattle.auc_graph.specs.Assignment.{IsAssignment}
use Rattle.auc_graph.specs.Dual.{price_at}
use Rattle.auc_graph.specs.Problem.{Problem}
use Rattle.auc_letters.specs.declared.state.Held.{Held}
use Rattle.auc_model.specs.World.{World}

-- the arc's person holds its object, by exactly this arc of the problem
pub record IsHeldArc (p : Problem) (w : World) (arc : Arc) : Type 0 where
  pub held : Held
  pub holds : w.holder arc.object ≡ Some held
  pub person : held.person ≡ arc.person
  pub place : slice_get p.arcs held.arc ≡ Some arc

-- person i holds an object
pub record HoldsAnObject (w : World) (i : ℕ) : Type 0 where
  pub object : ℕ
  pub held : Held
  pub holds : w.holder object ≡ Some held
  pub person : held.person ≡ i

-- the choice is an assignment of the problem, and all its arcs are those of holders
pub record HoldersAreAssigned (p : Problem) (w : World) : Type 0 where
  pub choice : List Arc
  pub assigned : IsAssignment p choice
  pub held : All (IsHeldArc p w) choice

-- the prices of a world as a list, by object
abbrev pub ArePricesOf : World → List ℤ → Type 0
ArePricesOf w prices = (j : ℕ) → price_at prices j ≡ w.price j
