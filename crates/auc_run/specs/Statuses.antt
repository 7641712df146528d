-- The status that the program gives for a refusal: 3 for a claim that doesn't hold, 5 for an input that can't be read
-- or is none of its kind, and 6 where memory ran out.
use Rattle.std.specs.Prelude.{ℕ}
use Rattle.auc_graph.specs.declared.read_error.ReadError.{ReadError}
use Rattle.auc_graph.specs.declared.read_error.ReadError.TheVariants.{Empty, BadNumber, CountRange, TooManyArcs, PersonRange, ObjectRange, CostRange, Cut, NoMemory, ReadFault, TooManyReads, TooFewObjects}
use Rattle.auc_claim.specs.declared.refused.CertRefused.{CertRefused}
use Rattle.auc_claim.specs.declared.refused.CertRefused.TheVariants.{WrongSize, NoSuchArc, ObjectTwice, WrongCost, Slack, LeftOver, NotHall, WrongBound, NoMemory as NoMemoryToCheck}
use Rattle.auc_claim.specs.declared.start_error.StartError.{StartError}
use Rattle.auc_claim.specs.declared.start_error.StartError.TheVariants.{NotSquare, NoPrices, OtherSize, TooHigh, NoMemory as NoMemoryToStart}
use Rattle.auc_cert.specs.declared.text_error.CertTextError.{CertTextError}
use Rattle.auc_cert.specs.declared.text_error.CertTextError.TheVariants.{Line, NoMemory as NoMemoryForText}
use Rattle.auc_run.specs.declared.input.ReadFault.{ReadFault as InputFault}
use Rattle.auc_run.specs.declared.input.ReadFault.TheVariants.{Failed, TooManyReads as TooManyInputReads, NoMemory as NoMemoryToRead}
use Rattle.auc_run.specs.declared.refusal.Refusal.{Refusal}
use Rattle.auc_run.specs.declared.refusal.Refusal.TheVariants.{NotRead, NoProblem, NoCertificate, Invalid, NoStart, NoScript, NoMemory as NoMemoryForJob, NoThreads}
use Rattle.auc_script.specs.declared.script_error.ScriptError.{ScriptError}
use Rattle.auc_script.specs.declared.script_error.ScriptError.TheVariants.{Word, Range, Cut as CutScript, TooManyCalls, NoMemory as NoMemoryForScript}

abbrev pub input_status : InputFault → ℕ
input_status Failed = 5
input_status TooManyInputReads = 5
input_status NoMemoryToRead = 6

abbrev pub problem_status : ReadError → ℕ
problem_status Empty = 5
problem_status (BadNumber token) = 5
problem_status CountRange = 5
problem_status TooManyArcs = 5
problem_status (PersonRange arc) = 5
problem_status (ObjectRange arc) = 5
problem_status (CostRange arc) = 5
problem_status (Cut tokens) = 5
problem_status NoMemory = 6
problem_status ReadFault = 5
problem_status TooManyReads = 5
problem_status TooFewObjects = 5

abbrev pub certificate_status : CertTextError → ℕ
certificate_status (Line k) = 5
certificate_status NoMemoryForText = 6

abbrev pub claim_status : CertRefused → ℕ
claim_status WrongSize = 3
claim_status (NoSuchArc person) = 3
claim_status (ObjectTwice object) = 3
claim_status WrongCost = 3
claim_status (Slack person) = 3
claim_status (LeftOver object) = 3
claim_status NotHall = 3
claim_status WrongBound = 3
claim_status NoMemoryToCheck = 6

abbrev pub start_status : StartError → ℕ
start_status NotSquare = 5
start_status NoPrices = 5
start_status OtherSize = 5
start_status (TooHigh object) = 5
start_status NoMemoryToStart = 6

abbrev pub script_status : ScriptError → ℕ
script_status (Word token) = 5
script_status (Range token) = 5
script_status (CutScript tokens) = 5
script_status TooManyCalls = 5
script_status NoMemoryForScript = 6

abbrev pub refusal_status : Refusal → ℕ
refusal_status (NotRead fault) = input_status fault
refusal_status (NoProblem error) = problem_status error
refusal_status (NoCertificate error) = certificate_status error
refusal_status (Invalid error) = claim_status error
refusal_status (NoStart error) = start_status error
refusal_status (NoScript error) = script_status error
refusal_status NoMemoryForJob = 6
refusal_status NoThreads = 6
