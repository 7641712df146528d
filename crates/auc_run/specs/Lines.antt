-- The one line that the program writes for a claim that holds, and for a refusal.
use Rattle.std.specs.Prelude.{ℕ, ◌+◌, List, ◌++◌, codes}
use Rattle.std.specs.Fmt.{decimal, signed_decimal}
use Rattle.auc_graph.specs.declared.read_error.ReadError.{ReadError}
use Rattle.auc_graph.specs.declared.read_error.ReadError.TheVariants.{Empty, BadNumber, CountRange, TooManyArcs, PersonRange, ObjectRange, CostRange, Cut, NoMemory, ReadFault, TooManyReads, TooFewObjects}
use Rattle.auc_claim.specs.declared.refused.CertRefused.{CertRefused}
use Rattle.auc_claim.specs.declared.refused.CertRefused.TheVariants.{WrongSize, NoSuchArc, ObjectTwice, WrongCost, Slack, LeftOver, NotHall, WrongBound, NoMemory as NoMemoryToCheck}
use Rattle.auc_claim.specs.declared.start_error.StartError.{StartError}
use Rattle.auc_claim.specs.declared.start_error.StartError.TheVariants.{NotSquare, NoPrices, OtherSize, TooHigh, NoMemory as NoMemoryToStart}
use Rattle.auc_cert.specs.declared.text_error.CertTextError.{CertTextError}
use Rattle.auc_cert.specs.declared.text_error.CertTextError.TheVariants.{Line, NoMemory as NoMemoryForText}
use Rattle.auc_cert.specs.Writing.{counted}
use Rattle.auc_run.specs.declared.input.ReadFault.{ReadFault as InputFault}
use Rattle.auc_run.specs.declared.input.ReadFault.TheVariants.{Failed, TooManyReads as TooManyInputReads, NoMemory as NoMemoryToRead}
use Rattle.auc_run.specs.declared.refusal.Refusal.{Refusal}
use Rattle.auc_run.specs.declared.refusal.Refusal.TheVariants.{NotRead, NoProblem, NoCertificate, Invalid, NoStart, NoScript, NoMemory as NoMemoryForJob, NoThreads}
use Rattle.auc_run.specs.declared.valid.Valid.{Valid}
use Rattle.auc_run.specs.declared.valid.Valid.TheVariants.{Optimal, Bracket, Infeasible}
use Rattle.auc_script.specs.declared.script_error.ScriptError.{ScriptError}
use Rattle.auc_script.specs.declared.script_error.ScriptError.TheVariants.{Word, Range, Cut as CutScript, TooManyCalls, NoMemory as NoMemoryForScript}

abbrev pub input_line : InputFault → List ℕ
input_line Failed = codes "refused read\n"
input_line TooManyInputReads = codes "refused reads\n"
input_line NoMemoryToRead = codes "refused memory\n"

-- tokens and arcs are written from 1 on
abbrev pub problem_line : ReadError → List ℕ
problem_line Empty = codes "refused empty\n"
problem_line (BadNumber token) = counted (codes "refused number ") (token + 1)
problem_line CountRange = codes "refused count\n"
problem_line TooManyArcs = codes "refused arcs\n"
problem_line (PersonRange arc) = counted (codes "refused person ") (arc + 1)
problem_line (ObjectRange arc) = counted (codes "refused object ") (arc + 1)
problem_line (CostRange arc) = counted (codes "refused cost ") (arc + 1)
problem_line (Cut tokens) = counted (codes "refused cut ") tokens
problem_line NoMemory = codes "refused memory\n"
problem_line ReadFault = codes "refused read\n"
problem_line TooManyReads = codes "refused reads\n"
problem_line TooFewObjects = codes "refused objects\n"

-- lines are written from 1 on
abbrev pub certificate_line : CertTextError → List ℕ
certificate_line (Line k) = counted (codes "refused certificate ") (k + 1)
certificate_line NoMemoryForText = codes "refused memory\n"

-- persons and objects are written from 1 on
abbrev pub claim_line : CertRefused → List ℕ
claim_line WrongSize = codes "invalid size\n"
claim_line (NoSuchArc person) = counted (codes "invalid arc ") (person + 1)
claim_line (ObjectTwice object) = counted (codes "invalid twice ") (object + 1)
claim_line WrongCost = codes "invalid cost\n"
claim_line (Slack person) = counted (codes "invalid slack ") (person + 1)
claim_line (LeftOver object) = counted (codes "invalid leftover ") (object + 1)
claim_line NotHall = codes "invalid hall\n"
claim_line WrongBound = codes "invalid bound\n"
claim_line NoMemoryToCheck = codes "refused memory\n"

abbrev pub start_line : StartError → List ℕ
start_line NotSquare = codes "refused start\n"
start_line NoPrices = codes "refused start\n"
start_line OtherSize = codes "refused start\n"
start_line (TooHigh object) = codes "refused start\n"
start_line NoMemoryToStart = codes "refused memory\n"

-- tokens are written from 1 on
abbrev pub script_line : ScriptError → List ℕ
script_line (Word token) = counted (codes "refused word ") (token + 1)
script_line (Range token) = counted (codes "refused range ") (token + 1)
script_line (CutScript tokens) = counted (codes "refused cut ") tokens
script_line TooManyCalls = codes "refused calls\n"
script_line NoMemoryForScript = codes "refused memory\n"

abbrev pub refusal_line : Refusal → List ℕ
refusal_line (NotRead fault) = input_line fault
refusal_line (NoProblem error) = problem_line error
refusal_line (NoCertificate error) = certificate_line error
refusal_line (Invalid error) = claim_line error
refusal_line (NoStart error) = start_line error
refusal_line (NoScript error) = script_line error
refusal_line NoMemoryForJob = codes "refused memory\n"
refusal_line NoThreads = codes "refused threads\n"

-- a valid claim is told by its cost, by a bound and a cost, or by how many persons and objects it names
abbrev pub valid_line : Valid → List ℕ
valid_line (Optimal cost) = codes "valid optimal " ++ signed_decimal cost ++ codes "\n"
valid_line (Bracket lower cost) = codes "valid bracket " ++ signed_decimal lower ++ codes " " ++ signed_decimal cost ++ codes "\n"
valid_line (Infeasible persons objects) = codes "valid infeasible " ++ decimal persons ++ codes " " ++ decimal objects ++ codes "\n"
