-- How a text is read as a script: as a mail and the calls on it, or as its first fault.
use Rattle.std.specs.Prelude.{◌≡◌, ℕ, zero, suc, ◌+◌, ◌-◌, Bool, List, [], ◌∷◌, codes, Option, Some, None, Result, Ok, Err, ℤ, pos, neg_ℤ, unsigned_abs, nat_eq, if◌then◌else◌}
use Rattle.std.specs.Cmp.Lexicographic.{pointwise}
use Rattle.auc_graph.specs.declared.number.Number.{Number}
use Rattle.auc_graph.specs.declared.number.Number.TheVariants.{Bad, Value, Huge}
use Rattle.auc_graph.specs.Tokens.{tokens}
use Rattle.auc_graph.specs.Numbers.{number}
use Rattle.auc_graph.specs.Reading.{is_between}
use Rattle.auc_graph.specs.Memory.{AnswersUnless}
use Rattle.auc_mail.specs.declared.call.Call.{Call}
use Rattle.auc_mail.specs.declared.call.Call.TheVariants.{Post, Take, Close}
use Rattle.auc_script.specs.declared.command_word.CommandWord.{CommandWord}
use Rattle.auc_script.specs.declared.command_word.CommandWord.TheVariants.{MailWord, PostWord, TakeWord, CloseWord}
use Rattle.auc_script.specs.declared.script.Script.{Script}
use Rattle.auc_script.specs.ScriptLimits.{most_boxes, most_nodes, most_posts, most_item, most_calls}
use Rattle.auc_script.specs.declared.script_error.ScriptError.{ScriptError}
use Rattle.auc_script.specs.declared.script_error.ScriptError.TheVariants.{Word, Range, Cut, TooManyCalls, NoMemory}

infixl 10 ◌>>=◌
abbrev pub ◌>>=◌ : {A B : Type 0} → Result A ScriptError → (A → Result B ScriptError) → Result B ScriptError
(Ok x) >>= f = f x
(Err e) >>= f = Err e

abbrev pub is_word : List ℕ → List ℕ → Bool
is_word word token = pointwise nat_eq token word

-- the command that a token names
unfoldable pub command : List ℕ → Option CommandWord
command token =
    if is_word (codes "post") token then Some PostWord
    else (if is_word (codes "take") token then Some TakeWord
    else (if is_word (codes "close") token then Some CloseWord
    else (if is_word (codes "mail") token then Some MailWord else None)))

-- the number at token k, from least to most
abbrev pub number_in : ℤ → ℤ → ℕ → Number → Result ℤ ScriptError
number_in least most k Bad = Err (Word k)
number_in least most k Huge = Err (Range k)
number_in least most k (Value z) = if is_between least most z then Ok z else Err (Range k)

-- the operand at token k, from least to most, and the tokens after it
abbrev pub operand : ℤ → ℤ → ℕ → List (List ℕ) → Result (ℤ × List (List ℕ)) ScriptError
operand least most k [] = Err (Cut k)
operand least most k (token ∷ more) = do
  z ← number_in least most k (number token)
  Ok (z, more)

-- an operand from 1 to most, as a number from 0
abbrev pub index : ℕ → ℕ → List (List ℕ) → Result (ℕ × List (List ℕ)) ScriptError
index most k more = do
  x ← operand (pos 1) (pos most) k more
  Ok (unsigned_abs x.0 - 1, x.1)

-- an operand from least to most, neither below 0
abbrev pub count : ℕ → ℕ → ℕ → List (List ℕ) → Result (ℕ × List (List ℕ)) ScriptError
count least most k more = do
  x ← operand (pos least) (pos most) k more
  Ok (unsigned_abs x.0, x.1)

-- a call, the number of tokens up to its end, and the tokens after it
abbrev pub ReadCall : Type 0
ReadCall = (Call ℤ × ℕ) × List (List ℕ)

unfoldable pub post_at : ℕ → ℕ → ℕ → List (List ℕ) → Result ReadCall ScriptError
post_at boxes senders k more = do
  sender ← index senders (k + 1) more
  to ← index boxes (k + 2) sender.1
  item ← operand (neg_ℤ most_item) most_item (k + 3) to.1
  reserve ← count 0 most_nodes (k + 4) item.1
  Ok ((Post sender.0 to.0 item.0 reserve.0, k + 5), reserve.1)

-- the call whose command is token k
abbrev pub call_by : ℕ → ℕ → ℕ → List (List ℕ) → Option CommandWord → Result ReadCall ScriptError
call_by boxes senders k more (Some PostWord) = post_at boxes senders k more
call_by boxes senders k more (Some TakeWord) = do
  at ← index boxes (k + 1) more
  Ok ((Take at.0, k + 2), at.1)
call_by boxes senders k more (Some CloseWord) = do
  at ← index boxes (k + 1) more
  Ok ((Close at.0, k + 2), at.1)
call_by boxes senders k more (Some MailWord) = Err (Word k)
call_by boxes senders k more None = Err (Word k)

abbrev pub call_at : ℕ → ℕ → ℕ → List ℕ → List (List ℕ) → Result ReadCall ScriptError
call_at boxes senders k word more = call_by boxes senders k more (command word)

-- the calls from token k on, of which at most `left` may come
unfoldable pub calls_from : ℕ → ℕ → ℕ → ℕ → List (List ℕ) → Result (List (Call ℤ)) ScriptError
calls_from left boxes senders k [] = Ok []
calls_from zero boxes senders k (word ∷ more) = Err TooManyCalls
calls_from (suc left) boxes senders k (word ∷ more) = do
  call ← call_at boxes senders k word more
  calls ← calls_from left boxes senders call.0.1 call.1
  Ok (call.0.0 ∷ calls)

-- the first word of a script has to be `mail`
abbrev pub opening : Option CommandWord → Result ℕ ScriptError
opening (Some MailWord) = Ok 1
opening (Some PostWord) = Err (Word 0)
opening (Some TakeWord) = Err (Word 0)
opening (Some CloseWord) = Err (Word 0)
opening None = Err (Word 0)

unfoldable pub script_of : List (List ℕ) → Result Script ScriptError
script_of [] = Err (Cut 0)
script_of (word ∷ more) = do
  _ ← opening (command word)
  boxes ← count 1 most_boxes 1 more
  senders ← count 1 most_boxes 2 boxes.1
  nodes ← count 0 most_nodes 3 senders.1
  most ← operand (pos 0) most_posts 4 nodes.1
  calls ← calls_from most_calls boxes.0 senders.0 5 most.1
  Ok (record { boxes = boxes.0; senders = senders.0; nodes = nodes.0; most = unsigned_abs most.0; calls = calls })

abbrev pub script_in : List ℕ → Result Script ScriptError
script_in text = script_of (tokens text)

-- the text is this script, or has this first fault, unless memory ran out
abbrev pub ReadsAsScript : List ℕ → Result Script ScriptError → Type 0
ReadsAsScript text script = AnswersUnless NoMemory (λ s. s) script (λ r. script_in text ≡ r)
