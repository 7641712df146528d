-- The parts of a pool after a letter is posted.
use Rattle.std.proofs.Common.{◌≡◌, ℕ, ◌+◌, ◌-◌, ◌*◌, ◌^◌, ◌≤◌, ◌<◌, true, false, List, [], ◌∷◌, ◌++◌, length, get_or, set, refl, ap, sym, ◌∙◌, arith, length-append}
use Rattle.auc_nodes.specs.Lists.{Lists, with_list}
use Rattle.auc_nodes.specs.Lists as nodes
use Rattle.auc_mail.specs.Mail.{Mail, IsOpen, posted_of, with_lane}
use Rattle.auc_mail.specs.Step.{Step}
use Rattle.auc_mail.specs.declared.call.PostRefused.TheVariants.{Closed, Spent, Full}
use Rattle.auc_mail.specs.declared.call.Call.TheVariants.{Post}
use Rattle.auc_mail.specs.declared.call.Reply.TheVariants.{Posted, Refused}
use Rattle.auc_mail.specs.Pool.{box_of, mail_of, IsKept}
use Rattle.auc_mail.specs.declared.boxes.MailBox.{MailBox}
use Rattle.auc_mail.proofs.Keeping.{posted_read, lane_within, lane_is, posted_is, free_is, open_read, box_le_all, has_box}
use Rattle.auc_mail.proofs.Changing.{change_keeps, change_makes}

-- An item is posted to b by s; state was read of the box, and n letters of the lane were posted.
module _ {T : Type 0} {senders most : ℕ} {boxes : List MailBox} {posted : List ℕ} {pool : Lists T} (kept : IsKept senders most boxes posted pool)
    (b s : ℕ) (hs : s < senders) (hb : b < length boxes) (state : MailBox) (read : state ≡ get_or boxes b state)
    (n : ℕ) (read_at : n ≡ get_or posted (b * senders + s) n) (item : T) (r : ℕ) where
  read_n : n ≡ get_or posted (b * senders + s) 0
  read_n = posted_read kept b s n hs hb read_at

  pub posted_within_most : n ≤ most
  posted_within_most = omega (arith, read_n, kept.spent (b * senders + s) (lane_within kept b s hs hb))

  pub post_closed : state.accepting ≡ false
      → Step (mail_of senders most boxes posted pool) (Post s b item r) (Refused Closed) (mail_of senders most boxes posted pool)
  post_closed closed = record { closed = open_read kept b state hb read ∙ closed; same = refl; lane = (hs, has_box kept b hb) }

  posted_is_read : posted_of (mail_of senders most boxes posted pool) b s ≡ n
  posted_is_read = posted_is kept b s hs hb ∙ sym read_n

  pub waiting_below : nodes.IsSound pool → 0 < nodes.free_of pool → (box_of boxes b).waiting + 1 < 2 ^ 32
  waiting_below sound free = omega (arith, free, sound.nodes_fit, kept.waiting b hb, box_le_all kept b hb)

  module _ (accepts : state.accepting ≡ true) where
    is_accepting : IsOpen (mail_of senders most boxes posted pool) b
    is_accepting = open_read kept b state hb read ∙ accepts

    pub post_spent : n ≡ most → Step (mail_of senders most boxes posted pool) (Post s b item r) (Refused Spent) (mail_of senders most boxes posted pool)
    post_spent spent = record { accepts = is_accepting; spent = posted_is_read ∙ spent; same = refl; lane = (hs, has_box kept b hb) }

    pub post_full : n < most → nodes.free_of pool ≤ r → Step (mail_of senders most boxes posted pool) (Post s b item r) (Refused Full) (mail_of senders most boxes posted pool)
    post_full below full = record {
      accepts = is_accepting;
      left = omega (arith, posted_is_read, below);
      full = omega (arith, full, free_is kept);
      same = refl;
      lane = (hs, has_box kept b hb);
    }

    -- the lane's count was read again, as m
    module _ (below : n < most) (m : ℕ) (read_again : m ≡ get_or posted (b * senders + s) m) where
      read_m : m ≡ get_or posted (b * senders + s) 0
      read_m = posted_read kept b s m hs hb read_again

      longer : length (get_or pool.lists (b * senders + s) [] ++ item ∷ []) ≡ length (get_or pool.lists (b * senders + s) []) + 1
      longer = omega (arith, length-append (get_or pool.lists (b * senders + s) []) (item ∷ []))

      pub post_keeps : IsKept senders most (set boxes b (record { waiting = (box_of boxes b).waiting + 1; last = b * senders + s; giver = (box_of boxes b).giver; accepting = (box_of boxes b).accepting })) (set posted (b * senders + s) (m + 1))
          (with_list pool (b * senders + s) (get_or pool.lists (b * senders + s) [] ++ item ∷ []))
      post_keeps =
          let k = b * senders + s in
          let x : MailBox = record { waiting = (box_of boxes b).waiting + 1; last = b * senders + s; giver = (box_of boxes b).giver; accepting = (box_of boxes b).accepting } in
          change_keeps kept b s hs hb (m + 1) (get_or pool.lists k [] ++ item ∷ []) x
          (omega (arith, read_m, read_n, below))
          (omega (arith, longer, read_m, kept.counted k (lane_within kept b s hs hb)))
          (omega (arith, longer))
          (λ some. (omega arith, omega (arith, hs)))

      pub post_step : r < nodes.free_of pool → Step (mail_of senders most boxes posted pool) (Post s b item r) (Posted (n + 1))
          (mail_of senders most (set boxes b (record { waiting = (box_of boxes b).waiting + 1; last = b * senders + s; giver = (box_of boxes b).giver; accepting = (box_of boxes b).accepting })) (set posted (b * senders + s) (m + 1))
          (with_list pool (b * senders + s) (get_or pool.lists (b * senders + s) [] ++ item ∷ [])))
      post_step free =
          let k = b * senders + s in
          let x : MailBox = record { waiting = (box_of boxes b).waiting + 1; last = b * senders + s; giver = (box_of boxes b).giver; accepting = (box_of boxes b).accepting } in
          let old : Mail T = mail_of senders most boxes posted pool in
          let waits = get_or pool.lists k [] ++ item ∷ [] in
          let same : (m + 1) - length waits ≡ get_or posted k 0 - length (get_or pool.lists k []) = omega (arith, longer, read_m) in
          let makes = change_makes kept b s hs hb (m + 1) waits x refl
          ∙ ap (λ (a : ℕ). with_lane old b s (record { taken = a; waiting = waits })) same in
          record {
            lane = (hs, has_box kept b hb);
            accepts = is_accepting;
            left = omega (arith, posted_is_read, below);
            free = omega (arith, free, free_is kept);
            number = ap (λ (a : ℕ). a + 1) (sym posted_is_read);
            next = rw (lane_is kept b s hs hb) makes;
          }
