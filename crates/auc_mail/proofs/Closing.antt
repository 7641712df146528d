-- The parts of a pool after a box is closed.
use Rattle.std.proofs.Common.{◌≡◌, ℕ, ◌<◌, Bool, false, List, length, set, ap}
use Rattle.std.proofs.lemmas.List.{map-set}
use Rattle.auc_nodes.specs.Lists.{Lists}
use Rattle.auc_mail.specs.Mail.{Mail, with_closed}
use Rattle.auc_mail.specs.Pool.{box_of, lanes_of, mail_of, IsKept}
use Rattle.auc_mail.specs.declared.boxes.MailBox.{MailBox}

module _ {T : Type 0} {senders most : ℕ} {boxes : List MailBox} {posted : List ℕ} {pool : Lists T} (kept : IsKept senders most boxes posted pool)
    (b : ℕ) (hb : b < length boxes) where
  pub close_makes :
      mail_of senders most (set boxes b (record { waiting = (box_of boxes b).waiting; last = (box_of boxes b).last; giver = (box_of boxes b).giver; accepting = false })) posted pool
      ≡ with_closed (mail_of senders most boxes posted pool) b
  close_makes =
      let x : MailBox = record { waiting = (box_of boxes b).waiting; last = (box_of boxes b).last; giver = (box_of boxes b).giver; accepting = false } in
      ap (λ (flags : List Bool). let m : Mail T = record { senders = senders; nodes = pool.nodes; most = most; accepting = flags; lanes = lanes_of posted pool.lists } in m)
      (map-set (λ (y : MailBox). y.accepting) boxes b x)
