-- The takes of a worker, and its next step.
use Rattle.std.specs.Prelude.{◌≡◌, ◌≢◌, ◌⊎◌, ℕ, ◌<◌, List, [], ◌∷◌, ◌++◌, Result, Ok, Err}
use Rattle.auc_letters.specs.declared.letter.Letter.{Letter}
use Rattle.auc_letters.specs.declared.letter.Why.{Why}
use Rattle.auc_mail.specs.declared.call.Taken.{Taken}
use Rattle.auc_mail.specs.declared.call.Call.{Call}
use Rattle.auc_mail.specs.declared.call.Call.TheVariants.{Take}
use Rattle.auc_mail.specs.declared.call.Reply.{Reply}
use Rattle.auc_mail.specs.declared.call.Reply.TheVariants.{Took}
use Rattle.auc_book.specs.declared.error.TrailFull.{TrailFull}
use Rattle.auc_book.specs.declared.line.TrailLine.{TrailLine}
use Rattle.auc_book.specs.Replies.{take_reply}
use Rattle.auc_book.specs.Seat.{Account}
use Rattle.auc_letters.specs.declared.out.Out.{Out}
use Rattle.auc_model.specs.Mails.{box_of}
use Rattle.auc_threads.specs.declared.calls.Step.{Step}
use Rattle.auc_threads.specs.Calling.{Called, Makes}

-- the letter of a call that took one
abbrev pub letter_by : {T : Type 0} → Call T → Reply T → List T
letter_by (Take b) (Took (Taken.Letter s n x)) = x ∷ []
letter_by call reply = []

-- the letters that were taken, in order
abbrev pub letters_in : {T : Type 0} → List (TrailLine T) → List T
letters_in [] = []
letters_in (l ∷ ls) = letter_by l.call l.reply ++ letters_in ls

-- the type of the answer to a take
abbrev pub Answer : Type 0
Answer = Result (Taken Letter) TrailFull

-- the letter of an answer, and those of several
abbrev pub letter_of : Answer → List Letter
letter_of (Ok (Taken.Letter s n x)) = x ∷ []
letter_of (Ok Taken.Empty) = []
letter_of (Ok Taken.Over) = []
letter_of (Err e) = []

abbrev pub letters_taken : List Answer → List Letter
letters_taken [] = []
letters_taken (r ∷ rs) = letter_of r ++ letters_taken rs

-- the calls that take from one box, with these answers
abbrev pub calls_taken : ℕ → List Answer → List Called
calls_taken at [] = []
calls_taken at (r ∷ rs) = record { call = Take at; reply = take_reply r } ∷ calls_taken at rs

-- The worker took exactly these letters from the box, and made no other call at its mail.
pub record Takes (room at : ℕ) (a : Account Letter) (letters : List Letter) (b : Account Letter) : Type 0 where
  pub answers : List Answer
  pub letters_are : letters ≡ letters_taken answers
  pub makes : Makes room a (calls_taken at answers) b

-- The possible steps after a take. It is over exactly if no letter will come any more, and is stopped for the trail
-- exactly if the call was turned away.
abbrev pub AfterTake : Answer → Step → Type 0
AfterTake (Ok (Taken.Letter s n x)) step = (step ≢ Step.Over) × (step ≢ Step.Stop Why.Trail)
AfterTake (Ok Taken.Empty) step = step ≡ Step.On
AfterTake (Ok Taken.Over) step = step ≡ Step.Over
AfterTake (Err e) step = step ≡ Step.Stop Why.Trail

-- The possible steps after several takes: the worker went on after each of them but the last. If it took nothing, no
-- take has ended it.
abbrev pub AfterTakes : List Answer → Step → Type 0
AfterTakes [] step = (step ≢ Step.Over) × (step ≢ Step.Stop Why.Trail)
AfterTakes (r ∷ rs) step = ((rs ≡ []) × AfterTake r step) ⊎ (AfterTake r Step.On × AfterTakes rs step)

-- the letter goes to one of the first boxes of its mail, this number of them
abbrev pub GoesWithin : ℕ → Out → Type 0
GoesWithin boxes out = box_of out.to < boxes
