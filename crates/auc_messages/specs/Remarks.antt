-- What a remark is about.
use Rattle.std.specs.Prelude.{◌≡◌, ℕ, ◌==◌, ◌||◌, if◌then◌else◌, Option, Some, None}
use Rattle.auc_claim.specs.declared.reason.Reason.{Reason}
use Rattle.auc_run.specs.declared.command.Job.{Job}
use Rattle.auc_run.specs.Jobs.{is_large}
use Rattle.auc_run.specs.declared.ending.Ending.{Ending}
use Rattle.auc_run.specs.declared.refusal.Refusal.{Refusal}
use Rattle.auc_messages.specs.declared.remark.Remark.{Remark}
use Rattle.auc_messages.specs.declared.spot.Spot.TheVariants.{All}
use Rattle.auc_messages.specs.declared.spot.Subject.{Subject}
use Rattle.auc_messages.specs.declared.spot.Subject.TheVariants.{First, Neither}
use Rattle.auc_messages.specs.Phrases.{phrase_for}
use Rattle.auc_messages.specs.Spots.{spot_of, subject_of}

-- the refusal that is told: none where the answer was not written, since that is told then
abbrev pub told_refusal : Ending → Option Refusal
told_refusal ending = if ending.status == 8 then None else ending.refusal

-- the limit that is told to have ended the search: none where the answer was not written
abbrev pub told_reason : Ending → Option Reason
told_reason ending = if ending.status == 8 then None else ending.reason

-- without a refusal it is about the problem where there is no assignment, or a limit ended the search
abbrev pub subject_of_status : ℕ → Subject
subject_of_status status = if status == 3 || status == 4 then First else Neither

-- it is about the input that was refused, and the spot there
abbrev pub IsRemarkOn : Job → ℕ → Option Refusal → Remark → Type 0
IsRemarkOn job status (Some refusal) remark = (remark.subject ≡ subject_of job refusal) × (remark.spot ≡ spot_of (is_large job) refusal)
IsRemarkOn job status None remark = (remark.subject ≡ subject_of_status status) × (remark.spot ≡ All)

abbrev pub IsRemark : Job → Ending → Remark → Type 0
IsRemark job ending remark = IsRemarkOn job ending.status (told_refusal ending) remark

-- its words are those of the refusal, without one those of the limit that ended the search, and without that those of
-- the status
abbrev pub HasWords : Job → Ending → Remark → Type 0
HasWords job ending remark = remark.phrase.now ≡ phrase_for (is_large job) ending.status (told_reason ending) (told_refusal ending)
