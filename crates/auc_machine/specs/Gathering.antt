-- The holders and the prices of a world, as lists.
use Rattle.std.specs.Prelude.{ℕ, ◌≡◌, ℤ, pos, List, Option, None, length, slice_index_or}
use Rattle.auc_letters.specs.declared.state.Held.{Held}
use Rattle.auc_model.specs.World.{World}
use Rattle.auc_machine.specs.Parts.{Parts, world_of}

-- the holder and the price of each object, for this number of objects
pub record AreSales (objects : ℕ) (w : World) (holders : List (Option Held)) (prices : List ℤ) : Type 0 where
  pub holders_are : length holders ≡ objects
  pub prices_are : length prices ≡ objects
  pub holder_is : (j : ℕ) → slice_index_or holders j None ≡ w.holder j
  pub price_is : (j : ℕ) → slice_index_or prices j (pos 0) ≡ w.price j

-- the holders and the prices of all objects of the world
abbrev pub IsGathered : Parts → List (Option Held) → List ℤ → Type 0
IsGathered p holders prices = AreSales p.table.objects (world_of p) holders prices
