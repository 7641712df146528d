-- The representation of a mail in a pool: a list of letters and a count for each lane, and for each box the sum over
-- its lanes.
use Rattle.std.specs.Prelude.{◌≡◌, ℕ, ◌+◌, ◌-◌, ◌*◌, ◌<◌, ◌≤◌, true, false, List, [], length, slice_index_or, map, sum_by}
use Rattle.std.specs.List.{range_with_len}
use Rattle.auc_nodes.specs.Lists.{Lists}
use Rattle.auc_mail.specs.Limits.{LanesFit}
use Rattle.auc_mail.specs.Mail.{Lane, Mail}
use Rattle.auc_mail.specs.declared.boxes.MailBox.{MailBox}
use Rattle.auc_mail.specs.declared.boxes.TheConstants.{NO_LANE}

abbrev pub no_box : MailBox
no_box = record { waiting = 0; last = 0; giver = 0; accepting = false }

-- a box in which nothing was posted
abbrev pub new_box : MailBox
new_box = record { waiting = 0; last = 0; giver = NO_LANE; accepting = true }

abbrev pub box_of : List MailBox → ℕ → MailBox
box_of boxes b = slice_index_or boxes b no_box

abbrev pub lane_at : {T : Type 0} → List ℕ → List (List T) → ℕ → Lane T
lane_at posted lists k = record
    { taken = slice_index_or posted k 0 - length (slice_index_or lists k []); waiting = slice_index_or lists k [] }

abbrev pub lanes_of : {T : Type 0} → List ℕ → List (List T) → List (Lane T)
lanes_of posted lists = map (lane_at posted lists) (range_with_len 0 (length posted))

-- the mail that the pool's parts stand for
abbrev pub mail_of : {T : Type 0} → ℕ → ℕ → List MailBox → List ℕ → Lists T → Mail T
mail_of senders most boxes posted pool =
    record {
      senders =
          senders;
      nodes = pool.nodes;
      most = most;
      accepting = map (λ b. b.accepting) boxes;
      lanes = lanes_of posted
          pool.lists;
    }

-- the lane k is one of the box b
abbrev pub IsLaneOf : ℕ → ℕ → ℕ → Type 0
IsLaneOf senders b k = (b * senders ≤ k) × (k < b * senders + senders)

-- the number of letters that wait in the lanes of a box
abbrev pub box_waiting : {T : Type 0} → ℕ → List (List T) → ℕ → ℕ
box_waiting senders lists b = sum_by (λ s. length (slice_index_or lists (b * senders + s) [])) (range_with_len 0 senders)

-- the invariant of the parts
pub record IsKept {T : Type 0} (senders most : ℕ) (boxes : List MailBox) (posted : List ℕ) (pool : Lists T) : Type 0 where
  pub lanes : length posted ≡ length boxes * senders
  pub lists : length pool.lists ≡ length posted
  pub lanes_fit : LanesFit (length boxes) senders
  pub spent : (k : ℕ) → k < length posted → slice_index_or posted k 0 ≤ most
  pub counted : (k : ℕ) → k < length posted → length (slice_index_or pool.lists k []) ≤ slice_index_or posted k 0
  pub waiting : (b : ℕ) → b < length boxes → (box_of boxes b).waiting ≡ box_waiting senders pool.lists b
  pub last : (b : ℕ) → b < length boxes → 0 < (box_of boxes b).waiting → IsLaneOf senders b (box_of boxes b).last
