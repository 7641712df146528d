-- Each phrase says something, on one line.
use Rattle.std.proofs.Common.{◌≡◌, ℕ, Bool, true, false, cond, eqb, List, Option, Some, None, refl}
use Rattle.auc_graph.specs.declared.read_error.ReadError.{ReadError}
use Rattle.auc_graph.specs.declared.read_error.ReadError.TheVariants.{Empty, BadNumber, CountRange, TooManyArcs, PersonRange, ObjectRange, CostRange, Cut, NoMemory, ReadFault, TooManyReads, TooFewObjects}
use Rattle.auc_claim.specs.declared.reason.Reason.{Reason}
use Rattle.auc_claim.specs.declared.reason.Reason.TheVariants.{Bids, Ceiling, Posts, Trail, Mail}
use Rattle.auc_claim.specs.declared.refused.CertRefused.{CertRefused}
use Rattle.auc_claim.specs.declared.refused.CertRefused.TheVariants.{WrongSize, NoSuchArc, ObjectTwice, WrongCost, Slack, LeftOver, NotHall, WrongBound, NoMemory as NoMemoryToCheck}
use Rattle.auc_claim.specs.declared.start_error.StartError.{StartError}
use Rattle.auc_claim.specs.declared.start_error.StartError.TheVariants.{NotSquare, NoPrices, OtherSize, TooHigh, NoMemory as NoMemoryToStart}
use Rattle.auc_cert.specs.declared.text_error.CertTextError.{CertTextError}
use Rattle.auc_cert.specs.declared.text_error.CertTextError.TheVariants.{Line as BadLine, NoMemory as NoMemoryForText}
use Rattle.auc_run.specs.declared.input.ReadFault.{ReadFault as InputFault}
use Rattle.auc_run.specs.declared.input.ReadFault.TheVariants.{Failed, TooManyReads as TooManyInputReads, NoMemory as NoMemoryToRead}
use Rattle.auc_run.specs.declared.refusal.Refusal.{Refusal}
use Rattle.auc_run.specs.declared.refusal.Refusal.TheVariants.{NotRead, NoProblem, NoCertificate, Invalid, NoStart, NoScript, NoMemory as NoMemoryForJob, NoThreads}
use Rattle.auc_script.specs.declared.script_error.ScriptError.{ScriptError}
use Rattle.auc_script.specs.declared.script_error.ScriptError.TheVariants.{Word, Range, Cut as CutScript, TooManyCalls, NoMemory as NoMemoryForScript}
use Rattle.auc_messages.specs.declared.texts.TheConstants.{OUT_OF_MEMORY, NO_ASSIGNMENT, BRACKET_ALONE, GUARD_HIT, NOT_WRITTEN, INPUT_REFUSED, STATUS_ALONE}
use Rattle.auc_messages.specs.Phrases.{phrase_of_certificate, phrase_of_claim, phrase_of_end, phrase_of_input, phrase_of_problem, phrase_of_reason, phrase_of_refusal, phrase_of_script, phrase_of_start, phrase_of_status}
use Rattle.auc_messages.specs.Sentences.{is_phrase}

of_either : (b : Bool) (x y : List ℕ) → is_phrase x ≡ true → is_phrase y ≡ true → is_phrase (cond b x y) ≡ true
of_either true x y p q = p
of_either false x y p q = q

of_problem : (large : Bool) (e : ReadError) → is_phrase (phrase_of_problem large e) ≡ true
unfolding phrase_of_problem
of_problem large Empty = refl
of_problem large (BadNumber token) = refl
of_problem true CountRange = refl
of_problem false CountRange = refl
of_problem large TooFewObjects = refl
of_problem true TooManyArcs = refl
of_problem false TooManyArcs = refl
of_problem large (PersonRange arc) = refl
of_problem large (ObjectRange arc) = refl
of_problem large (CostRange arc) = refl
of_problem large (Cut tokens) = refl
of_problem large NoMemory = refl
of_problem large ReadFault = refl
of_problem large TooManyReads = refl

of_input : (e : InputFault) → is_phrase (phrase_of_input e) ≡ true
unfolding phrase_of_input
of_input Failed = refl
of_input TooManyInputReads = refl
of_input NoMemoryToRead = refl

of_certificate : (e : CertTextError) → is_phrase (phrase_of_certificate e) ≡ true
unfolding phrase_of_certificate
of_certificate (BadLine line) = refl
of_certificate NoMemoryForText = refl

of_claim : (e : CertRefused) → is_phrase (phrase_of_claim e) ≡ true
unfolding phrase_of_claim
of_claim WrongSize = refl
of_claim (NoSuchArc person) = refl
of_claim (ObjectTwice object) = refl
of_claim WrongCost = refl
of_claim (Slack person) = refl
of_claim (LeftOver object) = refl
of_claim NotHall = refl
of_claim WrongBound = refl
of_claim NoMemoryToCheck = refl

of_start : (e : StartError) → is_phrase (phrase_of_start e) ≡ true
unfolding phrase_of_start
of_start NotSquare = refl
of_start NoPrices = refl
of_start OtherSize = refl
of_start (TooHigh object) = refl
of_start NoMemoryToStart = refl

of_script : (e : ScriptError) → is_phrase (phrase_of_script e) ≡ true
unfolding phrase_of_script
of_script (Word token) = refl
of_script (Range token) = refl
of_script (CutScript tokens) = refl
of_script TooManyCalls = refl
of_script NoMemoryForScript = refl

pub refusal_is_phrase : (large : Bool) (e : Refusal) → is_phrase (phrase_of_refusal large e) ≡ true
unfolding phrase_of_refusal
refusal_is_phrase large (NotRead fault) = of_input fault
refusal_is_phrase large (NoProblem error) = of_problem large error
refusal_is_phrase large (NoCertificate error) = of_certificate error
refusal_is_phrase large (Invalid error) = of_claim error
refusal_is_phrase large (NoStart error) = of_start error
refusal_is_phrase large (NoScript error) = of_script error
refusal_is_phrase large NoMemoryForJob = refl
refusal_is_phrase large NoThreads = refl

of_reason : (reason : Reason) → is_phrase (phrase_of_reason reason) ≡ true
unfolding phrase_of_reason
of_reason Bids = refl
of_reason Ceiling = refl
of_reason Posts = refl
of_reason Trail = refl
of_reason Mail = refl

-- the words of a status, from the last test on
abbrev from_5 : ℕ → List ℕ
from_5 status = cond (eqb status 5) INPUT_REFUSED.now STATUS_ALONE.now

abbrev from_6 : ℕ → List ℕ
from_6 status = cond (eqb status 6) OUT_OF_MEMORY.now (from_5 status)

abbrev from_8 : ℕ → List ℕ
from_8 status = cond (eqb status 8) NOT_WRITTEN.now (from_6 status)

abbrev from_7 : ℕ → List ℕ
from_7 status = cond (eqb status 7) GUARD_HIT.now (from_8 status)

abbrev from_4 : ℕ → List ℕ
from_4 status = cond (eqb status 4) BRACKET_ALONE.now (from_7 status)

of_status : (status : ℕ) → is_phrase (phrase_of_status status) ≡ true
unfolding phrase_of_status
of_status status =
    of_either (eqb status 3) NO_ASSIGNMENT.now (from_4 status) refl
    (of_either (eqb status 4) BRACKET_ALONE.now (from_7 status) refl
    (of_either (eqb status 7) GUARD_HIT.now (from_8 status) refl
    (of_either (eqb status 8) NOT_WRITTEN.now (from_6 status) refl
    (of_either (eqb status 6) OUT_OF_MEMORY.now (from_5 status) refl
    (of_either (eqb status 5) INPUT_REFUSED.now STATUS_ALONE.now refl refl)))))

pub end_is_phrase : (status : ℕ) (reason : Option Reason) → is_phrase (phrase_of_end status reason) ≡ true
end_is_phrase status (Some reason) = of_reason reason
end_is_phrase status None = of_status status
