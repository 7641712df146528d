-- When the seats settle with the trail, and when they don't.
use Rattle.std.specs.Prelude.{◌≡◌, ◌≢◌, ℕ, ◌<◌, ◌≤◌, ◌⊎◌, List, length, All}
use Rattle.std.specs.List.{sum_by}
use Rattle.auc_mail.specs.Mail.{Mail, empty_mail}
use Rattle.auc_mail.specs.Run.{Run}
use Rattle.auc_mail.specs.Letters.{sent, handed, LosesNothing, HandsOutInOrder, NothingBehindClose}
use Rattle.auc_book.specs.declared.line.TrailLine.{TrailLine}
use Rattle.auc_book.specs.declared.error.SettleError.{SettleError}
use Rattle.auc_book.specs.declared.error.SettleError.TheVariants.{Missing, Differs, NoTrail}
use Rattle.auc_book.specs.Trail.{events_of, lines_of, IsOwn, IsTakeAt}
use Rattle.auc_book.specs.Seat.{Account}

-- no seat of the list is the worker's
abbrev pub IsUnseated : {T : Type 0} → List (Account T) → ℕ → Type 0
IsUnseated seats k = All (λ a. a.worker ≢ k) seats

-- each worker has a seat in the list
abbrev pub EachSeated : {T : Type 0} → ℕ → List (Account T) → Type 0
EachSeated workers seats = (k : ℕ) → k < workers → ¬ (IsUnseated seats k)

-- the lines of the seat are the trail's lines of its worker
abbrev pub Agrees : {T : Type 0} → List (TrailLine T) → Account T → Type 0
Agrees trail a = lines_of a.worker trail ≡ a.lines

-- calls of the worker were turned away only if the trail has no place left
abbrev pub IsTurnedByFull : {T : Type 0} → ℕ → List (TrailLine T) → Account T → Type 0
IsTurnedByFull room trail a = 0 < a.turned_away → room ≤ length trail

-- the seat is true of the trail
abbrev pub IsTrueOf : {T : Type 0} → ℕ → List (TrailLine T) → Account T → Type 0
IsTrueOf room trail a = Agrees trail a × IsTurnedByFull room trail a

-- the seat's own lines show what was sent in its worker's name, to any box
abbrev pub TellsSent : {T : Type 0} → List (TrailLine T) → Account T → Type 0
TellsSent trail a = (b : ℕ) → sent b a.worker (events_of trail) ≡ sent b a.worker (events_of a.lines)

-- the seat's own lines show what a box handed out, if its worker alone takes from that box
abbrev pub TellsHanded : {T : Type 0} → List (TrailLine T) → Account T → Type 0
TellsHanded trail a = (b k : ℕ) → All (λ l. IsTakeAt b l.call → l.worker ≡ a.worker) trail → handed b k (events_of trail)
    ≡ handed b k (events_of a.lines)

-- The trail is a run from the empty mail of these numbers. It is as long as the seats' counts together, and the lines
-- of each seat are those of its worker.
pub record IsSettled {T : Type 0} (boxes workers nodes most room : ℕ) (seats : List (Account T)) (trail : List (TrailLine T)) : Type 0 where
  pub kept : 0 < room
  pub last : Mail T
  pub run : Run (empty_mail boxes workers nodes most) (events_of trail) last
  -- so each lane keeps its letters and their order, and a closed box accepts nothing
  pub lossless : LosesNothing (events_of trail) last
  pub in_order : HandsOutInOrder (events_of trail)
  pub closed : NothingBehindClose (events_of trail)
  -- each call is in the trail once, in its worker's order
  pub counted : length trail ≡ sum_by (λ a. a.count) seats
  pub seated : EachSeated workers seats
  pub agree : All (Agrees trail) seats
  -- no other call was turned away while the trail had a place left
  pub full : All (IsTurnedByFull room trail) seats
  pub own : All (λ l. (l.worker < workers) × IsOwn l.worker l.call) trail
  -- the seats show what was sent and handed out
  pub sent_told : All (TellsSent trail) seats
  pub handed_told : All (TellsHanded trail) seats

-- The seats and the trail differ: some seat isn't true of the trail, or there are more seats than workers.
abbrev pub Differ : {T : Type 0} → ℕ → ℕ → List (Account T) → List (TrailLine T) → Type 0
Differ workers room seats trail = (¬ (All (IsTrueOf room trail) seats)) ⊎ (workers < length seats)

-- The cause of each error: no trail and a missing seat exactly at their causes, and a difference only if there is
-- neither.
abbrev pub IsUnsettled : {T : Type 0} → ℕ → ℕ → List (Account T) → SettleError → Type 0
IsUnsettled workers room seats NoTrail = room ≡ 0
IsUnsettled workers room seats Missing = (0 < room) × ((k : ℕ) × (k < workers) × IsUnseated seats k)
IsUnsettled workers room seats Differs = (0 < room) × EachSeated workers seats
