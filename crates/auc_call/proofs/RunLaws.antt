-- Where a run by messages starts, and what is told of it.
use Rattle.std.proofs.Common.{◌≡◌, ◌≢◌, ℕ, List, [], ◌∷◌, Some, refl}
use Rattle.std.specs.Prelude.{ℤ, pos, Result, Ok, Err, IfOk}
use Rattle.auc_graph.specs.Problem.{Problem}
use Rattle.auc_call.specs.declared.found.Found.{Found}
use Rattle.auc_call.specs.declared.solved.Solved.{Solved}
use Rattle.auc_call.specs.declared.solved.Failed.{Failed}
use Rattle.auc_call.specs.declared.solved.Failed.TheVariants.{Sizes, Fault, Start, NoMemory}
use Rattle.auc_call.specs.Memory.{Memory}
use Rattle.auc_call.specs.Running.{IsOfRunFrom, IsRunTold, start_in}
use Rattle.auc_call.specs.Telling.{solve_status, solve_found}

pub some_start : (start : List ℤ) → start ≢ [] → start_in start ≡ Some start
some_start [] some = absurd (some refl)
some_start (price ∷ prices) some = refl

pub told_run : (p : Problem) (start : List ℤ) (bids : ℕ) (after : Memory) (r : Result Solved Failed) (status : ℤ) (old new : Found) → IfOk r (IsOfRunFrom p start bids after) → status ≡ solve_status r → new ≡ solve_found r old
    → status ≢ pos 2 → status ≢ pos 5 → status ≢ pos 6 → status ≢ pos 7 → IsRunTold p start bids after status old new
told_run p start bids after (Ok solved) status old new h s f two five six seven = record { solved = solved; run = h; status_is = s; found_is = f }
told_run p start bids after (Err Sizes) status old new h s f two five six seven = absurd (two s)
told_run p start bids after (Err (Fault fault)) status old new h s f two five six seven = absurd (five s)
told_run p start bids after (Err (Start fault)) status old new h s f two five six seven = absurd (seven s)
told_run p start bids after (Err NoMemory) status old new h s f two five six seven = absurd (six s)
