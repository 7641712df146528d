-- The words of each refusal, and of each status without one: what was wrong or wanted, and what to do.
use Rattle.std.specs.Prelude.{ℕ, Bool, ◌==◌, if◌then◌else◌, List, Option, Some, None}
use Rattle.auc_graph.specs.declared.read_error.ReadError.{ReadError}
use Rattle.auc_graph.specs.declared.read_error.ReadError.TheVariants.{Empty, BadNumber, CountRange, TooManyArcs, PersonRange, ObjectRange, CostRange, Cut, NoMemory, ReadFault, TooManyReads, TooFewObjects}
use Rattle.auc_claim.specs.declared.reason.Reason.{Reason}
use Rattle.auc_claim.specs.declared.refused.CertRefused.{CertRefused}
use Rattle.auc_claim.specs.declared.refused.CertRefused.TheVariants.{WrongSize, NoSuchArc, ObjectTwice, WrongCost, Slack, LeftOver, NotHall, WrongBound, NoMemory as NoMemoryToCheck}
use Rattle.auc_claim.specs.declared.start_error.StartError.{StartError}
use Rattle.auc_claim.specs.declared.start_error.StartError.TheVariants.{NotSquare, NoPrices, OtherSize, TooHigh, NoMemory as NoMemoryToStart}
use Rattle.auc_cert.specs.declared.text_error.CertTextError.{CertTextError}
use Rattle.auc_cert.specs.declared.text_error.CertTextError.TheVariants.{Line, NoMemory as NoMemoryForText}
use Rattle.auc_run.specs.declared.input.ReadFault.{ReadFault as InputFault}
use Rattle.auc_run.specs.declared.input.ReadFault.TheVariants.{Failed, TooManyReads as TooManyInputReads, NoMemory as NoMemoryToRead}
use Rattle.auc_run.specs.declared.refusal.Refusal.{Refusal}
use Rattle.auc_run.specs.declared.refusal.Refusal.TheVariants.{NotRead, NoProblem, NoCertificate, Invalid, NoStart, NoScript, NoMemory as NoMemoryForJob, NoThreads}
use Rattle.auc_script.specs.declared.script_error.ScriptError.{ScriptError}
use Rattle.auc_script.specs.declared.script_error.ScriptError.TheVariants.{Word, Range, Cut as CutScript, TooManyCalls, NoMemory as NoMemoryForScript}
use Rattle.auc_messages.specs.declared.texts.TheConstants.{OUT_OF_MEMORY, READ_FAILED, TOO_MANY_READS, EMPTY, BAD_NUMBER, COUNT_RANGE, LARGE_COUNT_RANGE, TOO_FEW_OBJECTS, TOO_MANY_ARCS, LARGE_TOO_MANY_ARCS, PERSON_RANGE, OBJECT_RANGE, COST_RANGE, CUT_PROBLEM, CERTIFICATE_LINE, WRONG_SIZE, NO_SUCH_ARC, OBJECT_TWICE, WRONG_COST, SLACK, LEFT_OVER, NOT_HALL, WRONG_BOUND, NOT_SQUARE, NO_PRICES, OTHER_SIZE, TOO_HIGH, SCRIPT_WORD, SCRIPT_RANGE, CUT_SCRIPT, TOO_MANY_CALLS, NO_THREADS, BIDS_RAN_OUT, CEILING_PASSED, POSTS_RAN_OUT, TRAIL_FULL, MAIL_FULL, NO_ASSIGNMENT, BRACKET_ALONE, GUARD_HIT, NOT_WRITTEN, INPUT_REFUSED, STATUS_ALONE}

-- the limits of persons and arcs are named as they are for a large problem, or for another one
unfoldable pub phrase_of_problem : Bool → ReadError → List ℕ
phrase_of_problem large Empty = EMPTY.now
phrase_of_problem large (BadNumber token) = BAD_NUMBER.now
phrase_of_problem large CountRange = if large then LARGE_COUNT_RANGE.now else COUNT_RANGE.now
phrase_of_problem large TooFewObjects = TOO_FEW_OBJECTS.now
phrase_of_problem large TooManyArcs = if large then LARGE_TOO_MANY_ARCS.now else TOO_MANY_ARCS.now
phrase_of_problem large (PersonRange arc) = PERSON_RANGE.now
phrase_of_problem large (ObjectRange arc) = OBJECT_RANGE.now
phrase_of_problem large (CostRange arc) = COST_RANGE.now
phrase_of_problem large (Cut tokens) = CUT_PROBLEM.now
phrase_of_problem large NoMemory = OUT_OF_MEMORY.now
phrase_of_problem large ReadFault = READ_FAILED.now
phrase_of_problem large TooManyReads = TOO_MANY_READS.now

unfoldable pub phrase_of_input : InputFault → List ℕ
phrase_of_input Failed = READ_FAILED.now
phrase_of_input TooManyInputReads = TOO_MANY_READS.now
phrase_of_input NoMemoryToRead = OUT_OF_MEMORY.now

unfoldable pub phrase_of_certificate : CertTextError → List ℕ
phrase_of_certificate (Line line) = CERTIFICATE_LINE.now
phrase_of_certificate NoMemoryForText = OUT_OF_MEMORY.now

unfoldable pub phrase_of_claim : CertRefused → List ℕ
phrase_of_claim WrongSize = WRONG_SIZE.now
phrase_of_claim (NoSuchArc person) = NO_SUCH_ARC.now
phrase_of_claim (ObjectTwice object) = OBJECT_TWICE.now
phrase_of_claim WrongCost = WRONG_COST.now
phrase_of_claim (Slack person) = SLACK.now
phrase_of_claim (LeftOver object) = LEFT_OVER.now
phrase_of_claim NotHall = NOT_HALL.now
phrase_of_claim WrongBound = WRONG_BOUND.now
phrase_of_claim NoMemoryToCheck = OUT_OF_MEMORY.now

unfoldable pub phrase_of_start : StartError → List ℕ
phrase_of_start NotSquare = NOT_SQUARE.now
phrase_of_start NoPrices = NO_PRICES.now
phrase_of_start OtherSize = OTHER_SIZE.now
phrase_of_start (TooHigh object) = TOO_HIGH.now
phrase_of_start NoMemoryToStart = OUT_OF_MEMORY.now

unfoldable pub phrase_of_script : ScriptError → List ℕ
phrase_of_script (Word token) = SCRIPT_WORD.now
phrase_of_script (Range token) = SCRIPT_RANGE.now
phrase_of_script (CutScript tokens) = CUT_SCRIPT.now
phrase_of_script TooManyCalls = TOO_MANY_CALLS.now
phrase_of_script NoMemoryForScript = OUT_OF_MEMORY.now

unfoldable pub phrase_of_refusal : Bool → Refusal → List ℕ
phrase_of_refusal large (NotRead fault) = phrase_of_input fault
phrase_of_refusal large (NoProblem error) = phrase_of_problem large error
phrase_of_refusal large (NoCertificate error) = phrase_of_certificate error
phrase_of_refusal large (Invalid error) = phrase_of_claim error
phrase_of_refusal large (NoStart error) = phrase_of_start error
phrase_of_refusal large (NoScript error) = phrase_of_script error
phrase_of_refusal large NoMemoryForJob = OUT_OF_MEMORY.now
phrase_of_refusal large NoThreads = NO_THREADS.now

-- of a limit that ended a search, with what to do against it
unfoldable pub phrase_of_reason : Reason → List ℕ
phrase_of_reason Reason.Bids = BIDS_RAN_OUT.now
phrase_of_reason Reason.Ceiling = CEILING_PASSED.now
phrase_of_reason Reason.Posts = POSTS_RAN_OUT.now
phrase_of_reason Reason.Trail = TRAIL_FULL.now
phrase_of_reason Reason.Mail = MAIL_FULL.now

-- without a refusal or a limit: 3 no assignment, 4 a bracket, 7 a guard, 8 not written, 6 no memory, 5 a refused input,
-- and any other
unfoldable pub phrase_of_status : ℕ → List ℕ
phrase_of_status status =
    if status == 3 then NO_ASSIGNMENT.now else
    (if status == 4 then BRACKET_ALONE.now else
    (if status == 7 then GUARD_HIT.now else
    (if status == 8 then NOT_WRITTEN.now else
    (if status == 6 then OUT_OF_MEMORY.now else
    (if status == 5 then INPUT_REFUSED.now else STATUS_ALONE.now)))))

-- a limit is told by its own words, and where none ended the search, the status
abbrev pub phrase_of_end : ℕ → Option Reason → List ℕ
phrase_of_end status (Some reason) = phrase_of_reason reason
phrase_of_end status None = phrase_of_status status

-- a refusal of a job, whose problem may be large or not, is told by its own words, and where there is none, the end
abbrev pub phrase_for : Bool → ℕ → Option Reason → Option Refusal → List ℕ
phrase_for large status reason (Some refusal) = phrase_of_refusal large refusal
phrase_for large status reason None = phrase_of_end status reason
