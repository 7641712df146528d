-- A mail, with a count of its calls and a trail (log) of them.
use Rattle.std.specs.Prelude.{◌≡◌, ℕ, ◌+◌, ◌<◌, ◌≤◌, ◌⊎◌, List, [], length, All, Option, Some, None}
use Rattle.auc_mail.specs.declared.call.Call.{Call}
use Rattle.auc_mail.specs.declared.call.Reply.{Reply}
use Rattle.auc_mail.specs.Mail.{Mail, empty_mail}
use Rattle.auc_mail.specs.Step.{Step}
use Rattle.auc_mail.specs.Run.{Run}
use Rattle.auc_book.specs.declared.line.TrailLine.{TrailLine}
use Rattle.auc_book.specs.Limits.{IsLastCount}
use Rattle.auc_book.specs.Trail.{events_of, noted, IsOwn}

pub record State (T : Type 0) : Type 0 where
  pub mail : Mail T
  pub count : ℕ
  pub room : ℕ
  pub trail : List (TrailLine T)

-- the mail before any call
abbrev pub new_state : {T : Type 0} → ℕ → ℕ → ℕ → ℕ → ℕ → State T
new_state boxes workers nodes most room = record { mail = empty_mail boxes workers nodes most; count = 0; room = room; trail = [] }

-- the empty mail of the same numbers
abbrev pub start_of : {T : Type 0} → Mail T → Mail T
start_of m = empty_mail (length m.accepting) m.senders m.nodes m.most

-- no more calls can be noted: there is a trail with no place left, or the count is at its last value
abbrev pub IsFull : {T : Type 0} → State T → Type 0
IsFull s = ((0 < s.room) × (s.room ≤ length s.trail)) ⊎ IsLastCount s.count

-- A worker's call: one step of the mail, which is counted and noted; or nothing at all, where no more can be noted.
abbrev pub Calls : {T : Type 0} → State T → ℕ → Call T → Option (Reply T) → State T → Type 0
Calls old k c None new = IsFull old × (new ≡ old)
Calls old k c (Some r) new =
    (¬ (IsFull old)) × Step old.mail c r new.mail × (new.count ≡ old.count + 1) × (new.room ≡ old.room)
    × (new.trail ≡ noted old.room old.trail (record { worker = k; call = c; reply = r }))

-- The invariant of every state. If there is a trail, it leads from the empty mail to this one, and its lines are
-- counted. Workers post in their own names.
pub record IsNoted {T : Type 0} (s : State T) : Type 0 where
  pub run : 0 < s.room → Run (start_of s.mail) (events_of s.trail) s.mail
  pub counted : 0 < s.room → s.count ≡ length s.trail
  pub fits : length s.trail ≤ s.room
  pub own : All (λ l. (l.worker < s.mail.senders) × IsOwn l.worker l.call) s.trail
