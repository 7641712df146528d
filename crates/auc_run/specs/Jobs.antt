-- The numbers that a job may have, and what it reads.
use Rattle.std.specs.Prelude.{◌≡◌, ℕ, ◌≤◌, Bool, true, false, ⊤}
use Rattle.auc_run.specs.declared.command.Job.{Job}
use Rattle.auc_run.specs.declared.command.Job.TheVariants.{Solve, Check, Hall, Mail}
use Rattle.auc_run.specs.declared.command.Sizes.{Sizes}
use Rattle.auc_run.specs.declared.command.SolveNumbers.{SolveNumbers}
use Rattle.auc_run.specs.Problems.{objects_limit, sizes_with}

-- The numbers of a solve: the threads of each kind of shard, the bids, the lines of a trail, and the objects, where 0
-- stands for as many as persons. Without threads there is no trail, whatever number is given for one. The direct
-- solver has no threads, and it alone reads a problem within the limits of a problem.
pub record AreSolverNumbers (workers bids audit objects : ℕ) (direct large : Bool) : Type 0 where
  pub most_workers : workers ≤ 16
  pub some_bids : 1 ≤ bids
  pub most_bids : bids ≤ 1000000000000
  pub most_audit : audit ≤ 1000000
  pub most_objects : objects ≤ objects_limit large
  pub alone : direct ≡ true → workers ≡ 0
  pub large_direct : large ≡ true → direct ≡ true

-- a job's numbers are in range
abbrev pub IsInRange : Job → Type 0
IsInRange (Solve workers bids audit objects from direct large) = AreSolverNumbers workers bids audit objects direct large
IsInRange (Check objects large) = objects ≤ objects_limit large
IsInRange (Hall objects large) = objects ≤ objects_limit large
IsInRange Mail = ⊤

-- a job that starts no thread
abbrev pub IsPlain : Job → Type 0
IsPlain (Solve workers bids audit objects from direct large) = workers ≡ 0
IsPlain (Check objects large) = ⊤
IsPlain (Hall objects large) = ⊤
IsPlain Mail = ⊤

-- how many objects the problem is to have, and within which limits it is read
abbrev pub sizes_of : Job → Sizes
sizes_of (Solve workers bids audit objects from direct large) = sizes_with objects large
sizes_of (Check objects large) = sizes_with objects large
sizes_of (Hall objects large) = sizes_with objects large
sizes_of Mail = sizes_with 0 false

-- whether a job reads a problem within the limits of a problem, and not the usual ones of reading
abbrev pub is_large : Job → Bool
is_large job = (sizes_of job).large

-- whether a job has a second input: a check, and a solve that starts from an old certificate
abbrev pub has_second : Job → Bool
has_second (Solve workers bids audit objects from direct large) = from
has_second (Check objects large) = true
has_second (Hall objects large) = false
has_second Mail = false

-- the solve with these numbers
abbrev pub solve_by : SolveNumbers → Job
solve_by n = Solve n.workers n.bids n.audit n.sizes.objects n.from n.direct n.sizes.large
