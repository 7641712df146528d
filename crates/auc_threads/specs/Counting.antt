-- How the hub counts First letters, and how it ends a phase.
use Rattle.std.specs.Prelude.{ℕ, ◌+◌, ◌≡◌, ◌<◌, ◌↔◌, ◌⊎◌, Bool, true, false, IsTrue, List, [], ◌∷◌, ◌++◌, length, Option, None, Some, Result, Ok, Err, All, count_by}
use Rattle.auc_letters.specs.declared.letter.Letter.{Letter}
use Rattle.auc_letters.specs.declared.letter.Why.{Why}
use Rattle.auc_mail.specs.declared.call.Call.{Call}
use Rattle.auc_mail.specs.declared.call.Taken.{Taken}
use Rattle.auc_book.specs.declared.error.TrailFull.{TrailFull}
use Rattle.auc_book.specs.Replies.{close_reply}
use Rattle.auc_book.specs.Seat.{Account}
use Rattle.auc_phases.specs.Hub.{Counting}
use Rattle.auc_threads.specs.declared.hub.Heard.{Heard}
use Rattle.auc_threads.specs.Calling.{Called, Makes}
use Rattle.auc_threads.specs.Taking.{Answer, calls_taken, letters_taken}

abbrev pub is_first : Letter → Bool
is_first (Letter.First j) = true
is_first (Letter.Bid i a j p) = false
is_first (Letter.Award i j p) = false
is_first (Letter.Refused i j p) = false
is_first (Letter.Outbid i j p) = false
is_first (Letter.Price j p) = false
is_first (Letter.Stop y) = false

abbrev pub is_stop : Letter → Bool
is_stop (Letter.Stop y) = true
is_stop (Letter.First j) = false
is_stop (Letter.Bid i a j p) = false
is_stop (Letter.Award i j p) = false
is_stop (Letter.Refused i j p) = false
is_stop (Letter.Outbid i j p) = false
is_stop (Letter.Price j p) = false

-- the number of First letters among some letters
abbrev pub firsts_in : List Letter → ℕ
firsts_in letters = count_by is_first letters

-- the answer of a take is a First letter
abbrev pub GaveFirst : Answer → Type 0
GaveFirst (Ok (Taken.Letter s n x)) = is_first x ≡ true
GaveFirst (Ok Taken.Empty) = ⊥
GaveFirst (Ok Taken.Over) = ⊥
GaveFirst (Err e) = ⊥

-- The hub ends the phase by a letter that is no First. Either a shard has stopped, and the hub has no reason of its
-- own; or the letter isn't for the hub.
abbrev pub EndsFor : Letter → Option Why → Type 0
EndsFor x why = (is_first x ≡ false) × (((is_stop x ≡ true) × (why ≡ None)) ⊎ ((is_stop x ≡ false) × (why ≡ Some Why.Stray)))

-- the hub ends the phase by the last answer: by such a letter; or no letter will come any more, and it has no reason;
-- or its call was turned away
abbrev pub EndsBy : Answer → Option Why → Type 0
EndsBy (Ok (Taken.Letter s n x)) why = EndsFor x why
EndsBy (Ok Taken.Empty) why = ⊥
EndsBy (Ok Taken.Over) why = why ≡ None
EndsBy (Err e) why = why ≡ Some Why.Trail

-- the answer is one First more, but not the last one, and nothing ends the phase
pub record CountsOneMore (persons : ℕ) (h : Counting) (last : Answer) (n : Counting) : Type 0 where
  pub first : GaveFirst last
  pub more : n.count ≡ h.count + 1
  pub fewer : n.count < persons
  pub going : n.end ≡ None

-- The hub took this answer, for this number of persons. It goes on, or has counted all, or ends the phase.
abbrev pub Counted : ℕ → Counting → Answer → Heard → Counting → Type 0
Counted persons h last Heard.On n = CountsOneMore persons h last n
Counted persons h last Heard.All n = GaveFirst last × (h.count + 1 ≡ persons)
Counted persons h last (Heard.End why) n = EndsBy last why

-- the calls that close boxes from this one on, with these answers
abbrev pub calls_closed : ℕ → List (Result Bool TrailFull) → List Called
calls_closed b [] = []
calls_closed b (r ∷ rs) = record { call = Call.Close b; reply = close_reply r } ∷ calls_closed (b + 1) rs

-- the worker closed the first n boxes of a mail, in order
pub record Closes (room n : ℕ) (a b : Account Letter) : Type 0 where
  pub answers : List (Result Bool TrailFull)
  pub each : length answers ≡ n
  pub makes : Makes room a (calls_closed 0 answers) b

-- The hub took First letters one after another from its box, and then the last answer. It reports whether it took one
-- First for each person, and then closed its box. If it didn't, the last answer has ended the phase.
pub record Counts (room persons : ℕ) (a : Account Letter) (is_all : Bool) (why : Option Why) (b : Account Letter) : Type 0 where
  pub heard : List Answer
  pub last : Answer
  pub firsts : All GaveFirst heard
  pub before : Account Letter
  pub takes : Makes room a (calls_taken 0 (heard ++ last ∷ [])) before
  pub closes : Closes room 1 before b
  pub all : IsTrue is_all ↔ (firsts_in (letters_taken (heard ++ last ∷ [])) ≡ persons)
  pub done : is_all ≡ true → GaveFirst last × (why ≡ None)
  pub ends : is_all ≡ false → EndsBy last why

-- so far the hub took fewer First letters than persons, and has counted each of them
pub record CountsOn (room persons : ℕ) (h : Counting) (a b : Account Letter) : Type 0 where
  pub heard : List Answer
  pub firsts : All GaveFirst heard
  pub takes : Makes room a (calls_taken 0 heard) b
  pub counted : firsts_in (letters_taken heard) ≡ h.count
  pub fewer : h.count < persons
  pub going : h.end ≡ None
