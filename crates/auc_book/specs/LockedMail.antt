-- The state under the lock of a shared mail.
use Rattle.std.specs.Prelude.{◌≡◌, ℕ, length}
use Rattle.auc_mail.specs.Mail.{IsOpen, NothingWaits}
use Rattle.auc_book.specs.State.{IsFull, State}

-- the state has these numbers, which the mail's name fixes
pub record IsNumbered {T : Type 0} (boxes workers nodes most room : ℕ) (s : State T) : Type 0 where
  pub box_count : length s.mail.accepting ≡ boxes
  pub worker_count : s.mail.senders ≡ workers
  pub node_count : s.mail.nodes ≡ nodes
  pub most_posts : s.mail.most ≡ most
  pub place_count : s.room ≡ room

-- The invariant under the lock: the name's numbers, and shares of all seats that add up to the count of calls.
pub record IsLockedMail {T : Type 0} (boxes workers nodes most room : ℕ) (s : State T) (total : ℕ) : Type 0 where
  pub numbers : IsNumbered boxes workers nodes most room s
  pub counted : total ≡ s.count

-- a take from the box would give nothing yet: a call can be noted, and the box is open and has no letter
abbrev pub IsWaiting : {T : Type 0} → State T → ℕ → Type 0
IsWaiting s at = (¬ (IsFull s)) × IsOpen s.mail at × NothingWaits s.mail at
