-- The numbers that options give, and the jobs that they ask for.
use Rattle.std.specs.Prelude.{◌≡◌, ◌≤◌, ◌<◌, ◌⊎◌, ℕ, List, Option, Some, None, Result, Ok, Err, Bool, codes, is_some, true, false, ⊤}
use Rattle.std.specs.Str.Parse.{ParsesUnsigned}
use Rattle.clap.specs.Words.{Row, first_of}
use Rattle.auc_run.specs.declared.command.Job.{Job}
use Rattle.auc_run.specs.declared.command.Job.TheVariants.{Solve, Check, Hall}
use Rattle.auc_run.specs.Problems.{objects_limit}
use Rattle.auction.specs.CommandLine.{AsksFor}
use Rattle.auction.specs.declared.asked.Solve.{Solve as SolveAsked}
use Rattle.auction.specs.declared.asked.Watching.{Watching}
use Rattle.auction.specs.declared.asked.Words.{Words}
use Rattle.auction.specs.declared.words_error.WordsError.{WordsError}
use Rattle.auction.specs.declared.words_error.WordsError.TheVariants.{Usage, AuditAlone, NoMemory, FromObjects, DirectThreads, WatchAlone, LargeAlone}

-- the text is read as this number by `from_str` of the numbers of 64 bits
abbrev pub IsNumber : List ℕ → ℕ → Type 0
IsNumber text n = ParsesUnsigned {E = ⊤} 64 10 text (Ok n)

-- the text is read as this number from `least` to `most`; or as none, which is a fault of usage
abbrev pub IsNumberIn : ℕ → ℕ → List ℕ → Result ℕ WordsError → Type 0
IsNumberIn least most text (Ok n) = IsNumber text n × (least ≤ n) × (n ≤ most)
IsNumberIn least most text (Err e) = (e ≡ Usage) × ((n : ℕ) → IsNumber text n → ¬ ((least ≤ n) × (n ≤ most)))

-- the number that an option's value gives, from `least` to `most`; without a value the usual one
abbrev pub HasNumber : ℕ → ℕ → ℕ → Option (List ℕ) → ℕ → Type 0
HasNumber least most usual None n = n ≡ usual
HasNumber least most usual (Some value) n = IsNumber value n × (least ≤ n) × (n ≤ most)

-- the number of objects that the option's value gives, of a large problem or not; without a value 0, which stands for
-- as many as persons
abbrev pub HasObjects : Bool → Option (List ℕ) → ℕ → Type 0
HasObjects large value n = HasNumber 1 (objects_limit large) 0 value n

-- the number of bids that the option's value gives; without a value the usual one, which for a large problem is the
-- greatest
abbrev pub usual_bids : Bool → ℕ
usual_bids false = 100000000
usual_bids true = 1000000000000

abbrev pub HasBids : Bool → Option (List ℕ) → ℕ → Type 0
HasBids large value n = HasNumber 1 1000000000000 (usual_bids large) value n

-- a large problem is asked for
abbrev pub is_large : (List ℕ → Option (List ℕ)) → Bool
is_large values = is_some (values (codes "large"))

-- the number of seconds that the option's value gives; without a value 0, which stands for any number
abbrev pub HasSeconds : Option (List ℕ) → ℕ → Type 0
HasSeconds value n = HasNumber 1 1000000 0 value n

-- The numbers that the options' values give. That of the seconds isn't part of the job.
pub record AreNumbers (values : List ℕ → Option (List ℕ)) (workers bids audit objects : ℕ) : Type 0 where
  pub of_workers : HasNumber 0 16 0 (values (codes "workers")) workers
  pub of_bids : HasBids (is_large values) (values (codes "bids")) bids
  pub of_audit : HasNumber 0 1000000 0 (values (codes "audit")) audit
  pub of_objects : HasObjects (is_large values) (values (codes "objects")) objects
  pub of_seconds : (seconds : ℕ) × HasSeconds (values (codes "seconds")) seconds

-- how the options' values ask that the solve be watched
pub record IsWatchedBy (values : List ℕ → Option (List ℕ)) (watching : Watching) : Type 0 where
  pub seconds : HasSeconds (values (codes "seconds")) watching.seconds
  pub progress : watching.progress ≡ is_some (values (codes "progress"))

-- a certificate to start from and a number of objects are both given
abbrev pub HasBoth : (List ℕ → Option (List ℕ)) → Type 0
HasBoth values = (is_some (values (codes "from")) ≡ true) × (is_some (values (codes "objects")) ≡ true)

-- the direct solver is asked for
abbrev pub is_direct : (List ℕ → Option (List ℕ)) → Bool
is_direct values = is_some (values (codes "direct"))

-- a number of threads is given, or one of lines in a trail
abbrev pub HasThreads : (List ℕ → Option (List ℕ)) → Type 0
HasThreads values = (is_some (values (codes "workers")) ≡ true) ⊎ (is_some (values (codes "audit")) ≡ true)

-- a number of seconds is given, or the flag for progress
abbrev pub HasWatch : (List ℕ → Option (List ℕ)) → Type 0
HasWatch values = (is_some (values (codes "seconds")) ≡ true) ⊎ (is_some (values (codes "progress")) ≡ true)

-- What goes together: the direct solver has no threads and no trail; the other one has a trail only where there
-- are threads, starts from a certificate only without a number of objects, isn't watched, and has no large problem.
pub record GoTogether (values : List ℕ → Option (List ℕ)) (workers audit : ℕ) : Type 0 where
  pub direct : is_direct values ≡ true → ¬ HasThreads values
  pub trail : is_direct values ≡ false → workers ≡ 0 → audit ≡ 0
  pub start : is_direct values ≡ false → ¬ HasBoth values
  pub watch : is_direct values ≡ false → ¬ HasWatch values
  pub large : is_direct values ≡ false → is_large values ≡ false

-- whether they go together, or why not, where a fault of a direct solve is told alone, and a trail before a start,
-- that before a watch, and this before a large problem
abbrev pub AreTogether : (List ℕ → Option (List ℕ)) → ℕ → ℕ → Result ⊤ WordsError → Type 0
AreTogether values workers audit (Ok _) = GoTogether values workers audit
AreTogether values workers audit (Err Usage) = ⊥
AreTogether values workers audit (Err AuditAlone) = (is_direct values ≡ false) × (workers ≡ 0) × (0 < audit)
AreTogether values workers audit (Err NoMemory) = ⊥
AreTogether values workers audit (Err FromObjects) = (is_direct values ≡ false) × (workers ≡ 0 → audit ≡ 0) × HasBoth values
AreTogether values workers audit (Err DirectThreads) = (is_direct values ≡ true) × HasThreads values
AreTogether values workers audit (Err WatchAlone) =
    (is_direct values ≡ false) × (workers ≡ 0 → audit ≡ 0) × (¬ HasBoth values) × HasWatch values
AreTogether values workers audit (Err LargeAlone) =
    (is_direct values ≡ false) × (workers ≡ 0 → audit ≡ 0) × (¬ HasBoth values) × (¬ HasWatch values) × (is_large values ≡ true)

-- the solve that the options' values ask for: with their numbers, where these go together
pub record AsksToSolve (values : List ℕ → Option (List ℕ)) (job : Job) : Type 0 where
  pub workers : ℕ
  pub bids : ℕ
  pub audit : ℕ
  pub objects : ℕ
  pub numbers : AreNumbers values workers bids audit objects
  pub together : GoTogether values workers audit
  pub job_is : job ≡ Solve workers bids audit objects (is_some (values (codes "from"))) (is_direct values) (is_large values)

-- all numbers are in their ranges, and these don't go together: the direct solver, and threads or a trail
pub record WantThreads (values : List ℕ → Option (List ℕ)) : Type 0 where
  pub workers : ℕ
  pub bids : ℕ
  pub audit : ℕ
  pub objects : ℕ
  pub numbers : AreNumbers values workers bids audit objects
  pub direct : is_direct values ≡ true
  pub threads : HasThreads values

-- or a trail without threads
pub record WantTrail (values : List ℕ → Option (List ℕ)) : Type 0 where
  pub bids : ℕ
  pub audit : ℕ
  pub objects : ℕ
  pub numbers : AreNumbers values 0 bids audit objects
  pub direct : is_direct values ≡ false
  pub some : 0 < audit

-- or, with no fault of that kind, a start from a certificate with a number of objects
pub record WantBoth (values : List ℕ → Option (List ℕ)) : Type 0 where
  pub workers : ℕ
  pub bids : ℕ
  pub audit : ℕ
  pub objects : ℕ
  pub numbers : AreNumbers values workers bids audit objects
  pub direct : is_direct values ≡ false
  pub trail : workers ≡ 0 → audit ≡ 0
  pub both : HasBoth values

-- or, with none of these faults, that another solver be watched
pub record WantWatch (values : List ℕ → Option (List ℕ)) : Type 0 where
  pub workers : ℕ
  pub bids : ℕ
  pub audit : ℕ
  pub objects : ℕ
  pub numbers : AreNumbers values workers bids audit objects
  pub direct : is_direct values ≡ false
  pub trail : workers ≡ 0 → audit ≡ 0
  pub apart : ¬ HasBoth values
  pub watch : HasWatch values

-- or, with none of these faults, that another solver solve a large problem
pub record WantLarge (values : List ℕ → Option (List ℕ)) : Type 0 where
  pub workers : ℕ
  pub bids : ℕ
  pub audit : ℕ
  pub objects : ℕ
  pub numbers : AreNumbers values workers bids audit objects
  pub direct : is_direct values ≡ false
  pub trail : workers ≡ 0 → audit ≡ 0
  pub apart : ¬ HasBoth values
  pub unwatched : ¬ HasWatch values
  pub large : is_large values ≡ true

-- why the options' values ask for no solve
abbrev pub AskWrongly : (List ℕ → Option (List ℕ)) → WordsError → Type 0
AskWrongly values Usage = (workers bids audit objects : ℕ) → ¬ AreNumbers values workers bids audit objects
AskWrongly values AuditAlone = WantTrail values
AskWrongly values NoMemory = ⊥
AskWrongly values FromObjects = WantBoth values
AskWrongly values DirectThreads = WantThreads values
AskWrongly values WatchAlone = WantWatch values
AskWrongly values LargeAlone = WantLarge values

-- the options' values ask for this solve, watched so, or for none
abbrev pub IsSolveOf : (List ℕ → Option (List ℕ)) → Result SolveAsked WordsError → Type 0
IsSolveOf values (Ok solve) = AsksToSolve values solve.job × IsWatchedBy values solve.watching
IsSolveOf values (Err e) = AskWrongly values e

-- the words ask for the solve that these rows ask for, of the files that they name, and watched so
pub record IsSolveOfRows (w : Words) (rows : List Row) : Type 0 where
  pub solve : AsksToSolve (λ name. first_of name rows) w.job
  pub names : AsksFor w.job (Ok w) (first_of (codes "file") rows) (first_of (codes "from") rows)
  pub watched : IsWatchedBy (λ name. first_of name rows) w.watching

-- the words were read as the solve that a subcommand's matches ask for, of the files that they name, and watched so; or
-- refused, where they ask for none, or memory ran out
abbrev pub HasSolveOf : Result Words WordsError → List Row → Type 0
HasSolveOf (Ok w) rows = IsSolveOfRows w rows
HasSolveOf (Err e) rows = (e ≡ NoMemory) ⊎ AskWrongly (λ name. first_of name rows) e

-- the words ask for the job with the number of objects that this value gives, of a large problem or not, on these files
pub record IsJobOfObjects (job : ℕ → Bool → Job) (w : Words) (large : Bool) (value first second : Option (List ℕ)) : Type 0 where
  pub objects : ℕ
  pub given : HasObjects large value objects
  pub asked : AsksFor (job objects large) (Ok w) first second

-- the words were read as the job with the number of objects that this value gives, of a large problem or not, on these
-- files; or refused, where it gives none, or memory ran out
abbrev pub HasObjectsJob : (ℕ → Bool → Job) → Result Words WordsError → Bool → Option (List ℕ) → Option (List ℕ) → Option (List ℕ) → Type 0
HasObjectsJob job (Ok w) large value first second = IsJobOfObjects job w large value first second
HasObjectsJob job (Err e) large value first second = (e ≡ NoMemory) ⊎ ((e ≡ Usage) × ((objects : ℕ) → ¬ HasObjects large value objects))

-- the words were read as the check, or the hall, that a subcommand's matches ask for
abbrev pub HasCheckOf : Result Words WordsError → List Row → Type 0
HasCheckOf r rows = HasObjectsJob Check r (is_large (λ name. first_of name rows)) (first_of (codes "objects") rows) (first_of (codes "file") rows) (first_of (codes "cert") rows)

abbrev pub HasHallOf : Result Words WordsError → List Row → Type 0
HasHallOf r rows = HasObjectsJob Hall r (is_large (λ name. first_of name rows)) (first_of (codes "objects") rows) (first_of (codes "file") rows) None
