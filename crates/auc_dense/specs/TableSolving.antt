-- What a solve of a table comes to.
use Rattle.std.specs.Prelude.{Bool, ◌≡◌, ℕ, ◌<◌, ℤ, List, length, All, Some, None, Result, Ok, Err, ⊤}
use Rattle.auc_graph.specs.declared.arc.Arc.{Arc}
use Rattle.auc_graph.specs.Problem.{IsProblem, Problem}
use Rattle.auc_claim.specs.declared.reason.Reason.{Reason}
use Rattle.auc_call.specs.declared.driver.Driver.TheVariants.{Direct}
use Rattle.auc_call.specs.declared.solved.Solved.{Solved}
use Rattle.auc_call.specs.declared.solved.Solved.TheVariants.{Optimal, Infeasible, Bracket}
use Rattle.auc_call.specs.declared.solved.Failed.{Failed}
use Rattle.auc_call.specs.declared.solved.Failed.TheVariants.{Sizes, Fault, Start, NoMemory}
use Rattle.auc_call.specs.Limited.{IsLimitAt, UnlessStopped}
use Rattle.auc_call.specs.Memory.{Memory, AreSizes, StaysAfter}
use Rattle.auc_call.specs.Shown.{IsLeastAt, IsBracketAt, IsHallAt}
use Rattle.auc_call.specs.Solving.{IsStop}
use Rattle.auc_call.specs.Start.{start_fault}
use Rattle.auc_dense.specs.Naming.{ByObjects, objects_at}
use Rattle.auc_dense.specs.Table.{IsTable, table_fault}

-- each row lies within so many entries, and the caller's memory has room
pub record AreTableSizes (p : Problem) (stride entries : ℕ) (m : Memory) : Type 0 where
  pub table : IsTable p.persons p.objects stride entries
  pub memory : AreSizes p m

-- where an assignment was found, an arc stands at each place
abbrev pub AreNamed : List Arc → Solved → List ℕ → Type 0
AreNamed arcs (Optimal cost) choice = All (λ place. place < length arcs) choice
AreNamed arcs (Infeasible persons objects) choice = ⊤
AreNamed arcs (Bracket reason lower cost) choice = All (λ place. place < length arcs) choice

-- of an assignment the objects stand in place of the arcs
abbrev pub named : List Arc → Solved → List ℕ → List ℕ
named arcs (Optimal cost) choice = objects_at arcs choice
named arcs (Infeasible persons objects) choice = choice
named arcs (Bracket reason lower cost) choice = objects_at arcs choice

-- What was found is right for the problem and for what was written, and what isn't named stays as it was. A bracket is
-- left only by a limit, or by a watch that has stopped.
abbrev pub IsTableSolved : Problem → List ℤ → ℕ → Bool → Memory → Memory → Solved → Type 0
IsTableSolved p start bids stopped before after (Optimal cost) =
    ByObjects p.arcs after.choice (λ places. IsLeastAt p places after.prices cost) × (after.set ≡ before.set)
IsTableSolved p start bids stopped before after (Infeasible persons objects) =
    IsHallAt p after.choice after.set persons objects × (after.prices ≡ before.prices)
    × StaysAfter persons before.choice after.choice × StaysAfter objects before.set after.set
IsTableSolved p start bids stopped before after (Bracket reason lower cost) =
    ByObjects p.arcs after.choice
    (λ places. IsBracketAt p places after.prices reason lower cost
    × UnlessStopped stopped (reason ≡ Reason.Bids) (IsLimitAt p start bids places after.prices reason lower cost))
    × (after.set ≡ before.set)

-- why a table's problem isn't built
abbrev pub IsRefused : Problem → Failed → Type 0
IsRefused p Sizes = ⊥
IsRefused p (Fault fault) = table_fault p ≡ Some fault
IsRefused p (Start fault) = ⊥
IsRefused p NoMemory = ⊤

-- what a run by the arcs of a table came to is right; where there is none, nothing is written
abbrev pub SolvesArcs : Problem → List ℤ → ℕ → Bool → Memory → Memory → Result Solved Failed → Type 0
SolvesArcs p start bids stopped before after (Ok solved) = (start_fault p start ≡ None) × IsTableSolved p start bids stopped before after solved
SolvesArcs p start bids stopped before after (Err failed) = IsStop Direct p start failed × (after ≡ before)

-- the cause of a refusal; of want of memory nothing is said
abbrev pub IsTableCause : Problem → ℕ → ℕ → List ℤ → Memory → Failed → Type 0
IsTableCause p stride entries start before Sizes = AreTableSizes p stride entries before → ⊥
IsTableCause p stride entries start before (Fault fault) = AreTableSizes p stride entries before × (table_fault p ≡ Some fault)
IsTableCause p stride entries start before (Start fault) =
    AreTableSizes p stride entries before × IsProblem p × (start_fault p start ≡ Some fault)
IsTableCause p stride entries start before NoMemory = AreTableSizes p stride entries before

-- what a solve came to is right; where it is refused, nothing is written
abbrev pub SolvesTable : Problem → ℕ → ℕ → List ℤ → ℕ → Bool → Memory → Memory → Result Solved Failed → Type 0
SolvesTable p stride entries start bids stopped before after (Ok solved) =
    AreTableSizes p stride entries before × (start_fault p start ≡ None)
    × IsTableSolved p start bids stopped before after solved
SolvesTable p stride entries start bids stopped before after (Err failed) = IsTableCause p stride entries start before failed × (after ≡ before)
