-- What shows that a table has no assignment: persons who together know fewer objects than they number.
use Rattle.std.specs.Prelude.{◌≡◌, ◌≢◌, ◌⊎◌, Bool, ℕ, ◌<◌, get_or, List, length, Contains, ℤ, pos}
use Rattle.auc_graph.specs.Problem.{Problem}
use Rattle.auc_graph.specs.Rising.{IsRising}
use Rattle.auc_hall.specs.Search.{WasSeen}
use Rattle.auc_call.specs.declared.solved.Solved.{Solved}
use Rattle.auc_call.specs.declared.solved.Solved.TheVariants.{Optimal, Infeasible, Bracket}
use Rattle.auc_call.specs.Memory.{StaysAfter}
use Rattle.auc_call.specs.Shown.{IsHallAt}
use Rattle.auc_dense.specs.Table.{row_of}

-- the person of this row knows the object: their entry is no gap
abbrev pub Knows : ℤ → List ℤ → ℕ → Type 0
Knows gap row object = get_or row object (pos 0) ≢ gap

-- The persons listed know exactly the objects listed, and these are fewer. Both lists rise.
pub record ShowShortage (persons objects : ℕ) (costs : List ℤ) (stride : ℕ) (gap : ℤ) (listed known : List ℕ)
    : Type 0 where
  pub listed_below : (person : ℕ) → Contains listed person → person < persons
  pub listed_rise : IsRising listed
  pub known_below : (object : ℕ) → Contains known object → object < objects
  pub known_rise : IsRising known
  pub all : (person object : ℕ) → Contains listed person → object < objects
      → Knows gap (row_of objects costs stride person) object → Contains known object
  pub only : (object : ℕ) → Contains known object → (person : ℕ) × Contains listed person
      × Knows gap (row_of objects costs stride person) object
  pub fewer : length known < length listed

-- Of the objects before this place, those that the person of a row knows are marked. Any other is marked only if it was
-- before, or the person knows it.
pub record IsRowMarked (gap : ℤ) (row : List ℤ) (before after : List Bool) (end : ℕ) : Type 0 where
  pub size : length after ≡ length before
  pub kept : (object : ℕ) → WasSeen before object → WasSeen after object
  pub all : (object : ℕ) → object < end → Knows gap row object → WasSeen after object
  pub only : (object : ℕ) → WasSeen after object → WasSeen before object ⊎ Knows gap row object

-- Of the persons before this one, those flagged know only objects that are marked. Each object marked is known by a
-- person who is flagged.
pub record AreRowsMarked (objects : ℕ) (costs : List ℤ) (stride : ℕ) (gap : ℤ) (flags : List Bool) (end : ℕ)
    (known : List Bool) : Type 0 where
  pub size : length known ≡ objects
  pub all : (person object : ℕ) → person < end → WasSeen flags person → object < objects
      → Knows gap (row_of objects costs stride person) object → WasSeen known object
  pub only : (object : ℕ) → WasSeen known object → (person : ℕ) × WasSeen flags person
      × Knows gap (row_of objects costs stride person) object

-- what was found is a Hall set, which stands at the front of the caller's memory; what stands after it has stayed
abbrev pub IsHallFound : Problem → List ℕ → List ℕ → List ℕ → List ℕ → Solved → Type 0
IsHallFound p choice_before choice set_before set (Optimal cost) = ⊥
IsHallFound p choice_before choice set_before set (Infeasible persons objects) =
    IsHallAt p choice set persons objects × StaysAfter persons choice_before choice × StaysAfter objects set_before set
IsHallFound p choice_before choice set_before set (Bracket reason lower cost) = ⊥
