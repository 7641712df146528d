-- What a run of a problem says of its solve.
use Rattle.std.proofs.Common.{List}
use Rattle.std.specs.Prelude.{ℤ, Result, Ok, Err}
use Rattle.auc_graph.specs.Problem.{Problem, IsProblem}
use Rattle.auc_call.specs.declared.driver.Driver.{Driver}
use Rattle.auc_call.specs.declared.solved.Solved.{Solved}
use Rattle.auc_call.specs.declared.solved.Failed.{Failed}
use Rattle.auc_call.specs.declared.solved.Failed.TheVariants.{Sizes, Fault, Start, NoMemory}
use Rattle.auc_call.specs.Memory.{Memory, AreSizes}
use Rattle.auc_call.specs.Solving.{Runs, Solves}

pub runs_solves : (d : Driver) (p : Problem) (start : List ℤ) (before after : Memory) (r : Result Solved Failed) → AreSizes p before → IsProblem p → Runs d p start before after r → Solves d p start before after r
runs_solves d p start before after (Ok solved) sizes is h = (sizes, h.0, h.1)
runs_solves d p start before after (Err Sizes) sizes is h = absurd h.0
runs_solves d p start before after (Err (Fault fault)) sizes is h = absurd h.0
runs_solves d p start before after (Err (Start fault)) sizes is h = ((sizes, is, h.0), h.1)
runs_solves d p start before after (Err NoMemory) sizes is h = (sizes, h.1)
