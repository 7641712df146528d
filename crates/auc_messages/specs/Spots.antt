-- Which input a refusal is about, and where in it. Tokens, lines, persons and objects are numbered from 0.
use Rattle.std.specs.Prelude.{ℕ, Bool, zero, suc, ◌+◌, ◌*◌, ◌-◌, ◌^◌, min}
use Rattle.auc_graph.specs.declared.read_error.ReadError.{ReadError}
use Rattle.auc_graph.specs.declared.read_error.ReadError.TheVariants.{Empty, BadNumber, CountRange, TooManyArcs, PersonRange, ObjectRange, CostRange, Cut, NoMemory, ReadFault, TooManyReads, TooFewObjects}
use Rattle.auc_claim.specs.declared.refused.CertRefused.{CertRefused}
use Rattle.auc_claim.specs.declared.refused.CertRefused.TheVariants.{WrongSize, NoSuchArc, ObjectTwice, WrongCost, Slack, LeftOver, NotHall, WrongBound, NoMemory as NoMemoryToCheck}
use Rattle.auc_claim.specs.declared.start_error.StartError.{StartError}
use Rattle.auc_claim.specs.declared.start_error.StartError.TheVariants.{NotSquare, NoPrices, OtherSize, TooHigh, NoMemory as NoMemoryToStart}
use Rattle.auc_cert.specs.declared.text_error.CertTextError.{CertTextError}
use Rattle.auc_cert.specs.declared.text_error.CertTextError.TheVariants.{Line as BadLine, NoMemory as NoMemoryForText}
use Rattle.auc_run.specs.declared.command.Job.{Job}
use Rattle.auc_run.specs.declared.command.Job.TheVariants.{Solve, Check, Hall, Mail}
use Rattle.auc_run.specs.Problems.{arcs_limit}
use Rattle.auc_run.specs.declared.refusal.Refusal.{Refusal}
use Rattle.auc_run.specs.declared.refusal.Refusal.TheVariants.{NotRead, NoProblem, NoCertificate, Invalid, NoStart, NoScript, NoMemory as NoMemoryForJob, NoThreads}
use Rattle.auc_script.specs.declared.script_error.ScriptError.{ScriptError}
use Rattle.auc_script.specs.declared.script_error.ScriptError.TheVariants.{Word, Range, Cut as CutScript, TooManyCalls, NoMemory as NoMemoryForScript}
use Rattle.auc_messages.specs.declared.spot.Spot.{Spot}
use Rattle.auc_messages.specs.declared.spot.Spot.TheVariants.{All, Token, Line, Person, Object}
use Rattle.auc_messages.specs.declared.spot.Subject.{Subject}
use Rattle.auc_messages.specs.declared.spot.Subject.TheVariants.{First, Second, Neither}

abbrev pub last_of : ℕ → Spot
last_of zero = All
last_of (suc before) = Token before

-- the token of an arc at which its person, its object or its cost stands, by a field of 1, 2 or 3: token 0 is the
-- number of persons. No text has 2^64 tokens.
abbrev pub token_of_arc : ℕ → ℕ → Spot
token_of_arc arc field = Token (min (arc * 3 + field) (2 ^ 64 - 1))

-- the arc after the last one that is allowed is the first too many
abbrev pub spot_in_problem : Bool → ReadError → Spot
spot_in_problem large Empty = All
spot_in_problem large (BadNumber token) = Token token
spot_in_problem large CountRange = Token 0
spot_in_problem large TooManyArcs = token_of_arc (arcs_limit large) 1
spot_in_problem large (PersonRange arc) = token_of_arc arc 1
spot_in_problem large (ObjectRange arc) = token_of_arc arc 2
spot_in_problem large (CostRange arc) = token_of_arc arc 3
spot_in_problem large (Cut tokens) = last_of tokens
spot_in_problem large NoMemory = All
spot_in_problem large ReadFault = All
spot_in_problem large TooManyReads = All
spot_in_problem large TooFewObjects = Token 0

abbrev pub spot_in_certificate : CertTextError → Spot
spot_in_certificate (BadLine line) = Line line
spot_in_certificate NoMemoryForText = All

abbrev pub spot_in_claim : CertRefused → Spot
spot_in_claim WrongSize = All
spot_in_claim (NoSuchArc person) = Person person
spot_in_claim (ObjectTwice object) = Object object
spot_in_claim WrongCost = All
spot_in_claim (Slack person) = Person person
spot_in_claim (LeftOver object) = Object object
spot_in_claim NotHall = All
spot_in_claim WrongBound = All
spot_in_claim NoMemoryToCheck = All

abbrev pub spot_in_start : StartError → Spot
spot_in_start NotSquare = All
spot_in_start NoPrices = All
spot_in_start OtherSize = All
spot_in_start (TooHigh object) = Object object
spot_in_start NoMemoryToStart = All

abbrev pub spot_in_script : ScriptError → Spot
spot_in_script (Word token) = Token token
spot_in_script (Range token) = Token token
spot_in_script (CutScript tokens) = last_of tokens
spot_in_script TooManyCalls = All
spot_in_script NoMemoryForScript = All

-- in the problem by whether it may be large
abbrev pub spot_of : Bool → Refusal → Spot
spot_of large (NotRead fault) = All
spot_of large (NoProblem error) = spot_in_problem large error
spot_of large (NoCertificate error) = spot_in_certificate error
spot_of large (Invalid error) = spot_in_claim error
spot_of large (NoStart error) = spot_in_start error
spot_of large (NoScript error) = spot_in_script error
spot_of large NoMemoryForJob = All
spot_of large NoThreads = All

-- what was not read to its end is a mail's script, and else the certificate
abbrev pub unread_of : Job → Subject
unread_of (Solve workers bids audit objects from direct large) = Second
unread_of (Check objects large) = Second
unread_of (Hall objects large) = Second
unread_of Mail = First

abbrev pub subject_of : Job → Refusal → Subject
subject_of job (NotRead fault) = unread_of job
subject_of job (NoProblem error) = First
subject_of job (NoCertificate error) = Second
subject_of job (Invalid error) = Second
subject_of job (NoStart error) = Second
subject_of job (NoScript error) = First
subject_of job NoMemoryForJob = Neither
subject_of job NoThreads = Neither
