-- The calls of a worker at one mail, one after another, and the account of its seat.
use Rattle.std.specs.Prelude.{◌≡◌, ◌⊎◌, ℕ, ◌<◌, ◌≤◌, ◌+◌, List, [], ◌∷◌, ◌++◌, length, Option, Some, None}
use Rattle.auc_letters.specs.declared.letter.Letter.{Letter}
use Rattle.auc_mail.specs.declared.call.Call.{Call}
use Rattle.auc_mail.specs.declared.call.Reply.{Reply}
use Rattle.auc_book.specs.declared.line.TrailLine.{TrailLine}
use Rattle.auc_book.specs.Seat.{Account}

-- a call, and its reply; there is none where it was turned away, since no more could be noted
pub record Called : Type 0 where
  pub call : Call Letter
  pub reply : Option (Reply Letter)

-- the trail line of a worker's call; none where it was turned away
abbrev pub lines_by : {T : Type 0} → ℕ → Call T → Option (Reply T) → List (TrailLine T)
lines_by k call None = []
lines_by k call (Some r) = record { worker = k; call = call; reply = r } ∷ []

abbrev pub lines_made : ℕ → List Called → List (TrailLine Letter)
lines_made k [] = []
lines_made k (c ∷ cs) = lines_by k c.call c.reply ++ lines_made k cs

-- the number of calls that were turned away
abbrev pub turned_by : {T : Type 0} → Option (Reply T) → ℕ
turned_by None = 1
turned_by (Some r) = 0

abbrev pub turned_in : List Called → ℕ
turned_in [] = 0
turned_in (c ∷ cs) = turned_by c.reply + turned_in cs

-- the count is n higher, or at its last value
abbrev pub IsMore : ℕ → ℕ → ℕ → Type 0
IsMore old n new = (new ≡ old + n) ⊎ ((18446744073709551615 ≤ new) × (18446744073709551615 ≤ old + n))

-- The worker made exactly these calls at the mail. Its seat has counted those that were answered, with their lines
-- where there is room for lines, and those that were turned away.
pub record Makes (room : ℕ) (a : Account Letter) (calls : List Called) (b : Account Letter) : Type 0 where
  pub worker : b.worker ≡ a.worker
  pub counted : b.count ≡ a.count + length (lines_made a.worker calls)
  pub turned : IsMore a.turned_away (turned_in calls) b.turned_away
  pub told : 0 < room → b.lines ≡ a.lines ++ lines_made a.worker calls
