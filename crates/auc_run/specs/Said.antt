-- What a job may write, and its status, by what it was given to read.
use Rattle.std.specs.Prelude.{◌≡◌, ◌≢◌, ℕ, List, Option, Result, Ok, Err, ℤ}
use Rattle.std.specs.Io.KnownBytes.{Appends}
use Rattle.auc_cert.specs.Writing.{Begins}
use Rattle.auc_mail.specs.declared.call.Reply.{Reply}
use Rattle.auc_answers.specs.declared.answer.Answer.{Answer}
use Rattle.auc_run.specs.declared.command.Job.{Job}
use Rattle.auc_run.specs.declared.command.Job.TheVariants.{Solve, Check, Hall, Mail}
use Rattle.auc_run.specs.declared.command.SolveNumbers.{SolveNumbers}
use Rattle.auc_run.specs.declared.ending.Ending.{Ending}
use Rattle.auc_run.specs.declared.found.Found.{Found}
use Rattle.auc_run.specs.declared.refusal.Refusal.{Refusal}
use Rattle.auc_run.specs.declared.report.Report.{Report}
use Rattle.auc_run.specs.declared.report.Report.TheVariants.{Solved, Judged, Completed, Replied}
use Rattle.auc_run.specs.declared.valid.Valid.{Valid}
use Rattle.auc_run.specs.Problems.{HaveFiles, sizes_with}
use Rattle.auc_run.specs.Verdicts.{BearOut}
use Rattle.auc_run.specs.Completions.{BearOutFound}
use Rattle.auc_run.specs.Solutions.{Watched, onward}
use Rattle.auc_run.specs.Starts.{BearOutSolving}
use Rattle.auc_run.specs.Replies.{BearOutReplies}
use Rattle.auc_run.specs.Reports.{outcome_text, outcome_status, refusal_of, reason_of}

-- what a job of one kind has found is its report
abbrev pub reported : {X : Type 0} → (X → Report) → Result X Refusal → Result Report Refusal
reported report (Ok x) = Ok (report x)
reported report (Err refusal) = Err refusal

-- The bytes of the two inputs bear the outcome of the job out: an answer about the problem, a verdict on the
-- certificate's claim, a full assignment or the certificate that there is none, or the replies of a run of the mail. A
-- direct solve may be watched.
abbrev pub BearOutJob : Watched → Job → List ℕ → List ℕ → Result Report Refusal → Type 0
BearOutJob w (Solve workers bids audit objects from direct large) file cert outcome =
    let n : SolveNumbers =
    record { workers = workers; bids = bids; audit = audit; sizes = sizes_with objects large; from = from; direct = direct }
    in (answer : Result Answer Refusal) × BearOutSolving from direct w n file cert answer × (outcome ≡ reported Solved answer)
BearOutJob w (Check objects large) file cert outcome =
    (verdict : Result Valid Refusal) × BearOut (sizes_with objects large) file cert verdict × (outcome ≡ reported Judged verdict)
BearOutJob w (Hall objects large) file cert outcome =
    (found : Result Found Refusal) × BearOutFound (sizes_with objects large) file found × (outcome ≡ reported Completed found)
BearOutJob w Mail file cert outcome =
    (replies : Result (List (Reply ℤ)) Refusal) × BearOutReplies file replies × (outcome ≡ reported Replied replies)

-- an outcome of the job on what two readers have; bytes that a reader does not tell are some bytes
abbrev pub IsOutcome : Watched → Job → Option (List ℕ) → Option (List ℕ) → Result Report Refusal → Type 0
IsOutcome w job first second outcome = HaveFiles first second (λ file cert. BearOutJob w job file cert outcome)

-- a job that nobody watches wrote, after what the writer had, the text of an outcome on what the two readers had, and
-- gave its status
pub record Said (job : Job) (first second before after : Option (List ℕ)) (status : ℕ) : Type 0 where
  pub outcome : Result Report Refusal
  pub is : IsOutcome onward job first second outcome
  pub text : Appends before after (outcome_text outcome)
  pub status_is : status ≡ outcome_status outcome

-- it wrote a beginning of the text of an outcome on what the two readers had, and not all of it
pub record SaidInPart (job : Job) (first second before after : Option (List ℕ)) : Type 0 where
  pub outcome : Result Report Refusal
  pub is : IsOutcome onward job first second outcome
  pub text : Begins before after (outcome_text outcome)

-- How a job ended that has this outcome: its text stands after what the writer had, or a beginning of it where the
-- status says so; and the refusal, and the limit that ended a search, are the outcome's.
pub record EndsBy (before after : Option (List ℕ)) (outcome : Result Report Refusal) (ending : Ending) : Type 0 where
  pub whole : ending.status ≢ 8 → Appends before after (outcome_text outcome) × (ending.status ≡ outcome_status outcome)
  pub cut : ending.status ≡ 8 → Begins before after (outcome_text outcome)
  pub refusal : ending.refusal ≡ refusal_of outcome
  pub reason : ending.reason ≡ reason_of outcome

-- a job ended so, by an outcome on what the two readers had
pub record Ended (w : Watched) (job : Job) (first second before after : Option (List ℕ)) (ending : Ending) : Type 0 where
  pub outcome : Result Report Refusal
  pub is : IsOutcome w job first second outcome
  pub ends : EndsBy before after outcome ending
