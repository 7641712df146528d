-- A phase of a run, its outcome, and the candidate lists after it.
use Rattle.std.specs.Prelude.{ℕ, ℤ, ◌≡◌, ◌≢◌, List, Some, None, All, ⊤}
use Rattle.auc_graph.specs.Table.{Table}
use Rattle.auc_graph.specs.Price.{IsPrice}
use Rattle.auc_model.specs.declared.turn.End.{End}
use Rattle.auc_model.specs.Schedule.{Reached}
use Rattle.auc_model.specs.World.{World, phase_of}
use Rattle.auc_persons.specs.Candidates.{Listed}
use Rattle.auc_answers.specs.declared.gathered.Gathered.{Gathered}
use Rattle.auc_phases.specs.declared.limits.Limits.{Limits}
use Rattle.auc_answers.specs.Answers.{why_of}
use Rattle.auc_world.specs.declared.solving.Outcome.{Outcome}
use Rattle.auc_machine.specs.Gathering.{AreSales}
use Rattle.auc_machine.specs.Lists.{MayKeep}
use Rattle.auc_machine.specs.Making.{IsMade}
use Rattle.auc_machine.specs.Parts.{Parts, world_of}
use Rattle.auc_machine.specs.Rounds.{Rounds}

-- one phase: its eps, the prices that it begins with, and the world that its last round led to
pub record Stage : Type 0 where
  pub eps : ℤ
  pub prices : List ℤ
  pub world : World

-- The phase was played from the new world of its limits and prices, in whole rounds, up to the first one after which
-- the end is set.
pub record IsPlayed (t : Table) (limits : Limits) (s : Stage) : Type 0 where
  pub parts : Parts
  pub made : IsMade t limits s.prices s.eps parts
  pub rounds : ℕ
  pub played : Rounds (phase_of t limits.shards s.eps) (world_of parts) rounds s.world
  pub ended : s.world.end ≢ None

-- these are the holders and the prices that the phase has left
pub record Leaves (t : Table) (limits : Limits) (s : Stage) (gathered : Gathered) : Type 0 where
  pub played : IsPlayed t limits s
  pub reached : Reached (phase_of t limits.shards s.eps) s.world
  pub sales : AreSales t.objects s.world gathered.holders.items gathered.prices.items
  pub within : All IsPrice gathered.prices.items

-- the phase at these prices and this eps was played, has this end, and leaves what was gathered
pub record EndsWith (t : Table) (limits : Limits) (prices : List ℤ) (eps : ℤ) (gathered : Gathered) (end : End) : Type 0 where
  pub world : World
  pub left : Leaves t limits (record { eps = eps; prices = prices; world = world }) gathered
  pub ended : world.end ≡ Some end

-- The outcome of a phase at these prices and this eps: each person has an object, or a limit has stopped it. No guard
-- is hit, and it never stalls.
abbrev pub ComesOf : Table → Limits → List ℤ → ℤ → Outcome → Type 0
ComesOf t limits prices eps (Outcome.Sold gathered) = EndsWith t limits prices eps gathered End.All
ComesOf t limits prices eps (Outcome.Stopped reason gathered) = EndsWith t limits prices eps gathered (End.Stopped (why_of reason))
ComesOf t limits prices eps (Outcome.Broken guard) = ⊥

-- after a phase that has sold all, the lists are correct at the prices that it left
abbrev pub StayKept : Table → ℕ → List (List Listed) → Outcome → Type 0
StayKept t shards lists (Outcome.Sold gathered) = MayKeep t shards gathered.prices.items lists
StayKept t shards lists (Outcome.Stopped reason gathered) = ⊤
StayKept t shards lists (Outcome.Broken guard) = ⊤
