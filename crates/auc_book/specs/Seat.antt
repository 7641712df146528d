-- A worker's seat: the account of its calls, and the effect of a call on it.
use Rattle.std.specs.Prelude.{◌≡◌, ℕ, ◌+◌, ◌<◌, ◌≤◌, min, List, [], length, Option, Some, None}
use Rattle.auc_mail.specs.declared.call.Call.{Call}
use Rattle.auc_mail.specs.declared.call.Reply.{Reply}
use Rattle.auc_book.specs.declared.line.TrailLine.{TrailLine}
use Rattle.auc_book.specs.Trail.{noted}

-- the number of calls made, the number turned away because no more could be noted, and the lines of the calls made,
-- where there is room for lines
pub record Account (T : Type 0) : Type 0 where
  pub worker : ℕ
  pub count : ℕ
  pub turned_away : ℕ
  pub lines : List (TrailLine T)

-- the account of a worker before any call
abbrev pub new_account : {T : Type 0} → ℕ → Account T
new_account k = record { worker = k; count = 0; turned_away = 0; lines = [] }

-- the count plus one, up to its last value
abbrev pub one_more : ℕ → ℕ
one_more n = min (n + 1) 18446744073709551615

-- the account after a call: one call more and its line; or only one more that was turned away
abbrev pub SeatCalls : {T : Type 0} → ℕ → Account T → Call T → Option (Reply T) → Account T → Type 0
SeatCalls room old c None new =
    new ≡ record { worker = old.worker; count = old.count; turned_away = one_more old.turned_away; lines = old.lines }
SeatCalls room old c (Some r) new =
    (new.worker ≡ old.worker) × (new.count ≡ old.count + 1) × (new.turned_away ≡ old.turned_away)
    × (new.lines ≡ noted room old.lines (record { worker = old.worker; call = c; reply = r }))

-- The invariant of every seat: its part of the ledger is the count of its calls, and so is the number of its lines
-- where there is room for lines.
pub record IsSeated {T : Type 0} (workers room : ℕ) (a : Account T) (places capacity parts amount : ℕ) : Type 0 where
  pub in_range : a.worker < workers
  pub place_count : places ≡ room
  pub part : parts ≡ 1
  pub shared : amount ≡ a.count
  pub noted_all : 0 < room → a.count ≡ length a.lines
  pub reserved : room ≤ capacity
