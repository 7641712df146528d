-- What a job has to tell, or why it was refused: the text that tells it, its status, and the limit that it names.
use Rattle.std.specs.Prelude.{ℕ, List, Option, Some, None, Result, Ok, Err, ⊤}
use Rattle.auc_claim.specs.declared.cert.CertParts.{CertParts}
use Rattle.auc_claim.specs.declared.cert.CertParts.TheVariants.{Optimal, Infeasible, Bracket}
use Rattle.auc_claim.specs.declared.reason.Reason.{Reason}
use Rattle.auc_answers.specs.declared.answer.Answer.{Answer}
use Rattle.auc_run.specs.declared.refusal.Refusal.{Refusal}
use Rattle.auc_run.specs.declared.report.Report.{Report}
use Rattle.auc_run.specs.declared.report.Report.TheVariants.{Solved, Judged, Completed, Replied}
use Rattle.auc_run.specs.Lines.{refusal_line, valid_line}
use Rattle.auc_run.specs.Statuses.{refusal_status}
use Rattle.auc_run.specs.Solutions.{answer_text, answer_status}
use Rattle.auc_run.specs.Completions.{IsSmall, found_text, found_status}
use Rattle.auc_script.specs.Replies.{reply_lines}

abbrev pub report_text : Report → List ℕ
report_text (Solved answer) = answer_text answer
report_text (Judged valid) = valid_line valid
report_text (Completed found) = found_text found
report_text (Replied replies) = reply_lines replies

abbrev pub report_status : Report → ℕ
report_status (Solved answer) = answer_status answer
report_status (Judged valid) = 0
report_status (Completed found) = found_status found
report_status (Replied replies) = 0

-- a job's outcome is its report, or a refusal
abbrev pub outcome_text : Result Report Refusal → List ℕ
outcome_text (Ok report) = report_text report
outcome_text (Err refusal) = refusal_line refusal

abbrev pub outcome_status : Result Report Refusal → ℕ
outcome_status (Ok report) = report_status report
outcome_status (Err refusal) = refusal_status refusal

-- why an outcome is no report
abbrev pub refusal_of : Result Report Refusal → Option Refusal
refusal_of (Ok report) = None
refusal_of (Err refusal) = Some refusal

-- the limit that a claim names
abbrev pub reason_in : CertParts → Option Reason
reason_in (Optimal cost choice prices) = None
reason_in (Infeasible persons objects) = None
reason_in (Bracket reason lower cost choice prices) = Some reason

-- the limit that ended the search of an answer, where one did
abbrev pub reason_of_answer : Answer → Option Reason
reason_of_answer (Answer.Optimal cert) = reason_in cert
reason_of_answer (Answer.Infeasible cert) = reason_in cert
reason_of_answer (Answer.Bracket cert) = reason_in cert
reason_of_answer (Answer.Broken guard) = None

abbrev pub reason_of_report : Report → Option Reason
reason_of_report (Solved answer) = reason_of_answer answer
reason_of_report (Judged valid) = None
reason_of_report (Completed found) = None
reason_of_report (Replied replies) = None

abbrev pub reason_of : Result Report Refusal → Option Reason
reason_of (Ok report) = reason_of_report report
reason_of (Err refusal) = None

-- a report of picks has no more of them than a problem can have persons
abbrev pub IsWritable : Report → Type 0
IsWritable (Solved answer) = ⊤
IsWritable (Judged valid) = ⊤
IsWritable (Completed found) = IsSmall found
IsWritable (Replied replies) = ⊤
