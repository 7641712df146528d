-- What the words of the command line ask for.
use Rattle.std.specs.Prelude.{◌≡◌, ◌⊎◌, ℕ, List, Option, Result, Ok, Err, option_map}
use Rattle.std.specs.String.{string_bytes}
use Rattle.auc_run.specs.declared.command.Job.{Job}
use Rattle.auction.specs.declared.asked.Words.{Words}
use Rattle.auction.specs.declared.words_error.WordsError.{WordsError}
use Rattle.auction.specs.declared.words_error.WordsError.TheVariants.{Usage, AuditAlone, NoMemory, FromObjects, DirectThreads, WatchAlone, LargeAlone}

-- the words are this job on these files
pub record AreJobOn (job : Job) (w : Words) (first second : Option (List ℕ)) : Type 0 where
  pub job_is : w.job ≡ job
  pub first_is : option_map string_bytes w.first ≡ first
  pub second_is : option_map string_bytes w.second ≡ second

-- the words were read as this job on these files, unless memory ran out
abbrev pub AsksFor : Job → Result Words WordsError → Option (List ℕ) → Option (List ℕ) → Type 0
AsksFor job (Ok w) first second = AreJobOn job w first second
AsksFor job (Err e) first second = e ≡ NoMemory

-- the words are no job, unless memory ran out
abbrev pub IsUsage : Result Words WordsError → Type 0
IsUsage (Ok w) = ⊥
IsUsage (Err e) = (e ≡ Usage) ⊎ (e ≡ NoMemory)

-- the words ask for a trail without threads, unless memory ran out
abbrev pub IsAuditAlone : Result Words WordsError → Type 0
IsAuditAlone (Ok w) = ⊥
IsAuditAlone (Err e) = (e ≡ AuditAlone) ⊎ (e ≡ NoMemory)

-- the words ask for a start from a certificate and for a number of objects, unless memory ran out
abbrev pub IsFromObjects : Result Words WordsError → Type 0
IsFromObjects (Ok w) = ⊥
IsFromObjects (Err e) = (e ≡ FromObjects) ⊎ (e ≡ NoMemory)

-- the words ask for the direct solver and for threads, or for a trail, unless memory ran out
abbrev pub IsDirectThreads : Result Words WordsError → Type 0
IsDirectThreads (Ok w) = ⊥
IsDirectThreads (Err e) = (e ≡ DirectThreads) ⊎ (e ≡ NoMemory)

-- the words ask that another solver be watched, unless memory ran out
abbrev pub IsWatchAlone : Result Words WordsError → Type 0
IsWatchAlone (Ok w) = ⊥
IsWatchAlone (Err e) = (e ≡ WatchAlone) ⊎ (e ≡ NoMemory)

-- the words ask for a large problem of another solver, unless memory ran out
abbrev pub IsLargeAlone : Result Words WordsError → Type 0
IsLargeAlone (Ok w) = ⊥
IsLargeAlone (Err e) = (e ≡ LargeAlone) ⊎ (e ≡ NoMemory)

-- the status where the words are no job: 2, or 6 where memory ran out
abbrev pub words_status : WordsError → ℕ
words_status Usage = 2
words_status AuditAlone = 2
words_status NoMemory = 6
words_status FromObjects = 2
words_status DirectThreads = 2
words_status WatchAlone = 2
words_status LargeAlone = 2
