-- The packed form of an object in a phase with one shard of each kind: its price and its holder.
use Rattle.std.specs.Prelude.{ℕ, ◌==◌, if◌then◌else◌, ℤ, Option, Some, None}
use Rattle.auc_letters.specs.declared.state.Held.{Held}
use Rattle.auc_world.specs.declared.single_shard.lot.Lot.{Lot}
use Rattle.auc_world.specs.SingleState.{nobody}

abbrev pub price_in : Lot → ℤ
price_in l = l.price

-- the object has a holder unless the person is nobody
abbrev pub holder_by : ℕ → ℕ → Option Held
holder_by person arc = if person == nobody then None else Some (record { person = person; arc = arc })

abbrev pub holder_in : Lot → Option Held
holder_in l = holder_by l.person l.arc
