-- The mail that the parts of a pool stand for.
use Rattle.std.proofs.Common.{◌≡◌, ◌≢◌, ℕ, ◌+◌, ◌-◌, ◌*◌, ◌^◌, ◌<◌, ◌≤◌, false, List, [], length, get_or, ap, sym, ◌∙◌, arith, replicate}
use Rattle.std.specs.List.{range_with_len, sum_by}
use Rattle.std.proofs.lemmas.List.{same_lists, length-map, length-replicate, get_or-map, get_or-replicate, get_or_read, nil_from_length}
use Rattle.std.proofs.lemmas.List.Sums.{sum-map, get_or-le-sum_by}
use Rattle.std.proofs.lemmas.Nat.{mul-add-lt, row_fits_turned}
use Rattle.auc_nodes.specs.Lists.{Lists, empty_lists, used_of}
use Rattle.auc_nodes.specs.Lists as nodes
use Rattle.auc_mail.specs.Mail.{Lane, Mail, HasBox, NothingWaits, IsWhole, IsSound, blank_lane, is_open, lane_of, posted_of, waiting_at, waiting_of, free_of}
use Rattle.auc_mail.specs.Pool.{no_box, box_of, box_waiting, lane_at, lanes_of, mail_of, IsKept, IsLaneOf}
use Rattle.auc_mail.specs.declared.boxes.MailBox.{MailBox}
use Rattle.auc_mail.proofs.Tables.{table, length-table, get_or-table, table_same, slice_le_sum}
use Rattle.auc_mail.proofs.Lanes.{same_counts, at_lanes, sum_lanes}

mul_le : (b n w : ℕ) → b < n → b * w + w ≤ n * w
mul_le b n w lt = omega (arith, row_fits_turned b w w n lt (omega arith))

module _ {T : Type 0} {senders most : ℕ} {boxes : List MailBox} {posted : List ℕ} {pool : Lists T} (kept : IsKept senders most boxes posted pool) where
  -- a lane in range is one of the lanes
  pub lane_within : (b s : ℕ) → s < senders → b < length boxes → b * senders + s < length posted
  lane_within b s hs hb = omega (arith, kept.lanes, mul-add-lt b senders s (length boxes) hb hs)

  pub list_within : (b s : ℕ) → s < senders → b < length boxes → b * senders + s < length pool.lists
  list_within b s hs hb = omega (arith, lane_within b s hs hb, kept.lists)

  pub lanes_within : (b : ℕ) → b < length boxes → b * senders + senders ≤ length pool.lists
  lanes_within b hb = omega (arith, kept.lists, kept.lanes, mul_le b (length boxes) senders hb)

  pub lanes_small : (b : ℕ) → b < length boxes → b * senders + senders < 2 ^ 32
  lanes_small b hb = omega (arith, lanes_within b hb, kept.lists, kept.lanes, kept.lanes_fit.few_lanes)

  pub lane_small : (b s : ℕ) → s < senders → b < length boxes → b * senders + s < 2 ^ 32
  lane_small b s hs hb = omega (arith, lane_within b s hs hb, kept.lanes, kept.lanes_fit.few_lanes)

  pub box_within : (b : ℕ) → HasBox (mail_of senders most boxes posted pool) b → b < length boxes
  box_within b hb = omega (arith, hb, length-map boxes (λ (x : MailBox). x.accepting))

  pub has_box : (b : ℕ) → b < length boxes → HasBox (mail_of senders most boxes posted pool) b
  has_box b hb = omega (arith, hb, length-map boxes (λ (x : MailBox). x.accepting))

  pub lane_is : (b s : ℕ) → s < senders → b < length boxes → lane_of (mail_of senders most boxes posted pool) b s ≡ lane_at posted pool.lists (b * senders + s)
  lane_is b s hs hb = at_lanes posted pool.lists (b * senders + s) (lane_within b s hs hb)

  pub posted_is : (b s : ℕ) → s < senders → b < length boxes
      → posted_of (mail_of senders most boxes posted pool) b s ≡ get_or posted (b * senders + s) 0
  posted_is b s hs hb =
      omega (arith, ap (λ (l : Lane T). l.taken + length l.waiting) (lane_is b s hs hb), kept.counted (b * senders + s) (lane_within b s hs hb))

  -- what was read of a lane's count
  pub posted_read : (b s n : ℕ) → s < senders → b < length boxes → n ≡ get_or posted (b * senders + s) n → n ≡ get_or posted (b * senders + s) 0
  posted_read b s n hs hb read = get_or_read posted (b * senders + s) n (lane_within b s hs hb) read 0

  pub waiting_of_is : waiting_of (mail_of senders most boxes posted pool) ≡ used_of pool
  waiting_of_is = sum_lanes posted pool.lists kept.lists

  pub free_is : free_of (mail_of senders most boxes posted pool) ≡ nodes.free_of pool
  free_is = ap (λ n. pool.nodes - n) waiting_of_is

  pub whole_is : IsWhole (mail_of senders most boxes posted pool)
  whole_is = length-table (lane_at posted pool.lists) (length posted) ∙ (kept.lanes ∙ ap (λ (n : ℕ). n * senders) (sym (length-map boxes (λ (x : MailBox). x.accepting))))

  pub sound_is : nodes.IsSound pool → IsSound (mail_of senders most boxes posted pool)
  sound_is sound = record {
    whole = whole_is;
    within_nodes = omega (arith, waiting_of_is, sound.within_nodes);
    within_most = λ b s h. omega (arith, posted_is b s h.0 (box_within b h.1), kept.spent (b * senders + s) (lane_within b s h.0 (box_within b h.1)));
  }

  -- the number of letters that wait in a box
  pub waiting_at_is : (b : ℕ) → b < length boxes → waiting_at (mail_of senders most boxes posted pool) b ≡ (box_of boxes b).waiting
  waiting_at_is b hb =
      let m : Mail T = mail_of senders most boxes posted pool in
      let f : ℕ → ℕ = λ s. length (lane_of m b s).waiting in
      let g : ℕ → ℕ = λ s. length (get_or pool.lists (b * senders + s) []) in
      let same = table_same g f senders (λ s hs. ap (λ (l : Lane T). length l.waiting) (lane_is b s hs hb)) in
      sym (sum-map f (range_with_len 0 senders))
      ∙ (ap (sum_by (λ (n : ℕ). n)) same ∙ (sum-map g (range_with_len 0 senders) ∙ sym (kept.waiting b hb)))

  -- the letters of a box are no more than all
  pub box_le_all : (b : ℕ) → b < length boxes → box_waiting senders pool.lists b ≤ used_of pool
  box_le_all b hb = slice_le_sum (λ (xs : List T). length xs) pool.lists (b * senders) senders [] (lanes_within b hb)

  -- where no list of a box has a letter, nothing waits
  pub nothing_waits : (b : ℕ) → b < length boxes → ((k : ℕ) → IsLaneOf senders b k → get_or pool.lists k [] ≡ []) → NothingWaits (mail_of senders most boxes posted pool) b
  nothing_waits b hb none s hs = ap (λ (l : Lane T). l.waiting) (lane_is b s hs hb) ∙ none (b * senders + s) (omega arith, omega (arith, hs))

  -- a lane of a box is one of the lanes
  pub lane_below : (b k : ℕ) → b < length boxes → IsLaneOf senders b k → k < length posted
  lane_below b k hb of = omega (arith, of.1, lanes_within b hb, kept.lists)

  -- where its list has a letter, it has one
  pub lane_has : (k : ℕ) → k < length posted → get_or pool.lists k [] ≢ [] → (get_or (mail_of senders most boxes posted pool).lanes k blank_lane).waiting ≢ []
  lane_has k lt some e = some (sym (ap (λ (l : Lane T). l.waiting) (at_lanes posted pool.lists k lt)) ∙ e)

  pub list_has : (k : ℕ) → k < length posted → (get_or (mail_of senders most boxes posted pool).lanes k blank_lane).waiting ≢ [] → get_or pool.lists k [] ≢ []
  list_has k lt some e = some (ap (λ (l : Lane T). l.waiting) (at_lanes posted pool.lists k lt) ∙ e)

  -- what was read of a box
  module _ (b : ℕ) (state : MailBox) (hb : b < length boxes) (read : state ≡ get_or boxes b state) where
    pub box_read : state ≡ box_of boxes b
    box_read = get_or_read boxes b state hb read no_box

    pub open_read : is_open (mail_of senders most boxes posted pool) b ≡ state.accepting
    open_read = get_or-map (λ (x : MailBox). x.accepting) boxes b no_box false hb ∙ ap (λ (x : MailBox). x.accepting) (sym box_read)

    pub waiting_read : state.waiting ≡ box_waiting senders pool.lists b
    waiting_read = ap (λ (x : MailBox). x.waiting) box_read ∙ kept.waiting b hb

    pub waiting_at_read : state.waiting ≡ waiting_at (mail_of senders most boxes posted pool) b
    waiting_at_read = ap (λ (x : MailBox). x.waiting) box_read ∙ sym (waiting_at_is b hb)

    pub last_read : 0 < (box_of boxes b).waiting → IsLaneOf senders b state.last
    last_read some = rw box_read (kept.last b hb some)

-- a lane of a box has no more letters than the box
pub lane_le_box : {T : Type 0} (senders : ℕ) (lists : List (List T)) (b s : ℕ) → s < senders → length (get_or lists (b * senders + s) []) ≤ box_waiting senders lists b
lane_le_box {T} senders lists b s hs =
    let g : ℕ → ℕ = λ s. length (get_or lists (b * senders + s) []) in
    let lt : s < length (table g senders) = omega (arith, hs, length-table g senders) in
    omega (arith, get_or-le-sum_by (λ (n : ℕ). n) (table g senders) s 0 lt, get_or-table g senders s 0 hs, sum-map g (range_with_len 0 senders))

-- each lane of a box is that of one of the senders
pub record IsLaneOfSender (senders b k : ℕ) : Type 0 where
  pub sender : ℕ
  pub known : sender < senders
  pub place : k ≡ b * senders + sender

pub lane_split : (senders b k : ℕ) → IsLaneOf senders b k → IsLaneOfSender senders b k
lane_split senders b k of = record { sender = k - b * senders; known = omega (arith, of.0, of.1); place = omega (arith, of.0) }

-- where no letter waits in a box, each of its lists is empty
pub empty_box : {T : Type 0} (senders : ℕ) (lists : List (List T)) (b : ℕ) → box_waiting senders lists b ≡ 0 → (k : ℕ) → IsLaneOf senders b k → get_or lists k [] ≡ []
empty_box {T} senders lists b none k of =
    let split = lane_split senders b k of in
    let s = split.sender in
    ap (λ (i : ℕ). get_or {A = List T} lists i []) split.place ∙ nil_from_length (get_or lists (b * senders + s) []) (omega (arith, lane_le_box senders lists b s split.known, none))

-- the lanes of a new pool
pub new_lanes : {T : Type 0} (lanes : ℕ) → lanes_of {T = T} (replicate lanes 0) (replicate lanes []) ≡ replicate lanes blank_lane
new_lanes {T} lanes =
    let f : ℕ → Lane T = lane_at {T = T} (replicate lanes 0) (replicate lanes []) in
    ap (table f) (length-replicate lanes 0)
    ∙ same_lists (table f lanes) (replicate lanes blank_lane) (length-table f lanes ∙ sym (length-replicate lanes blank_lane)) (λ k d lt.
    let below : k < lanes = omega (arith, length-table f lanes) in
    get_or-table f lanes k d below
    ∙ (same_counts (get_or-replicate {A = ℕ} lanes k 0 0 below) (get_or-replicate {A = List T} lanes k [] [] below)
    ∙ sym (get_or-replicate lanes k blank_lane d below)))
