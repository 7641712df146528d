-- What a solve comes to.
use Rattle.std.specs.Prelude.{◌≡◌, ℤ, List, Some, None, Result, Ok, Err, ⊤}
use Rattle.auc_graph.specs.Problem.{Problem, IsProblem}
use Rattle.auc_graph.specs.InMemory.{problem_fault}
use Rattle.auc_call.specs.declared.driver.Driver.{Driver}
use Rattle.auc_call.specs.declared.solved.Solved.{Solved}
use Rattle.auc_call.specs.declared.solved.Solved.TheVariants.{Optimal, Infeasible, Bracket}
use Rattle.auc_call.specs.declared.solved.Failed.{Failed}
use Rattle.auc_call.specs.declared.solved.Failed.TheVariants.{Sizes, Fault, Start, NoMemory}
use Rattle.auc_call.specs.Memory.{Memory, AreSizes, StaysAfter}
use Rattle.auc_call.specs.Shown.{IsLeastAt, IsBracketAt, IsHallAt}
use Rattle.auc_call.specs.Start.{start_fault_by}

-- What was found is right for the problem and for what was written, and what isn't named stays as it was.
abbrev pub IsSolved : Problem → Memory → Memory → Solved → Type 0
IsSolved p before after (Optimal cost) = IsLeastAt p after.choice after.prices cost × (after.set ≡ before.set)
IsSolved p before after (Infeasible persons objects) =
    IsHallAt p after.choice after.set persons objects × (after.prices ≡ before.prices)
    × StaysAfter persons before.choice after.choice × StaysAfter objects before.set after.set
IsSolved p before after (Bracket reason lower cost) = IsBracketAt p after.choice after.prices reason lower cost × (after.set ≡ before.set)

-- why there is no run of a problem
abbrev pub IsStop : Driver → Problem → List ℤ → Failed → Type 0
IsStop driver p start Sizes = ⊥
IsStop driver p start (Fault fault) = ⊥
IsStop driver p start (Start fault) = start_fault_by driver p start ≡ Some fault
IsStop driver p start NoMemory = ⊤

-- what a run of a problem came to is right; where there is none, nothing is written
abbrev pub Runs : Driver → Problem → List ℤ → Memory → Memory → Result Solved Failed → Type 0
Runs driver p start before after (Ok solved) = (start_fault_by driver p start ≡ None) × IsSolved p before after solved
Runs driver p start before after (Err failed) = IsStop driver p start failed × (after ≡ before)

-- the cause of a refusal; of want of memory nothing is said
abbrev pub IsCause : Driver → Problem → List ℤ → Memory → Failed → Type 0
IsCause driver p start before Sizes = AreSizes p before → ⊥
IsCause driver p start before (Fault fault) = AreSizes p before × (problem_fault p ≡ Some fault)
IsCause driver p start before (Start fault) = AreSizes p before × IsProblem p × (start_fault_by driver p start ≡ Some fault)
IsCause driver p start before NoMemory = AreSizes p before

-- what a solve came to is right; where it is refused, nothing is written
abbrev pub Solves : Driver → Problem → List ℤ → Memory → Memory → Result Solved Failed → Type 0
Solves driver p start before after (Ok solved) = AreSizes p before × (start_fault_by driver p start ≡ None) × IsSolved p before after solved
Solves driver p start before after (Err failed) = IsCause driver p start before failed × (after ≡ before)
