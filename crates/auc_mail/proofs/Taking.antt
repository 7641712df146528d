-- The parts of a pool after a letter is taken.
use Rattle.std.proofs.Common.{◌≡◌, ℕ, ◌+◌, ◌-◌, ◌*◌, ◌<◌, ◌≤◌, true, false, List, [], ◌∷◌, length, get_or, set, refl, ap, sym, ◌∙◌, subst, arith}
use Rattle.std.proofs.lemmas.List.{get_or_read, set-get_or}
use Rattle.auc_nodes.specs.Lists.{Lists, with_list}
use Rattle.auc_mail.specs.Mail.{Lane, Mail, NothingWaits, lane_of, with_lane}
use Rattle.auc_mail.specs.Step.{Step}
use Rattle.auc_mail.specs.declared.call.Call.TheVariants.{Take}
use Rattle.auc_mail.specs.declared.call.Reply.TheVariants.{Took}
use Rattle.auc_mail.specs.declared.call.Taken.TheVariants.{Letter, Empty, Over}
use Rattle.auc_mail.specs.Pool.{box_of, lane_at, mail_of, IsKept, IsLaneOf}
use Rattle.auc_mail.specs.declared.boxes.MailBox.{MailBox}
use Rattle.auc_mail.proofs.Keeping.{lane_within, lane_is, has_box, lane_le_box, open_read}
use Rattle.auc_mail.proofs.Changing.{change_keeps, change_makes}

module _ {T : Type 0} {senders most : ℕ} {boxes : List MailBox} {posted : List ℕ} {pool : Lists T} (kept : IsKept senders most boxes posted pool)
    (b : ℕ) (hb : b < length boxes) where
  -- no letter waits in the box, of which state was read
  module _ (state : MailBox) (read : state ≡ get_or boxes b state) (none : NothingWaits (mail_of senders most boxes posted pool) b) where
    pub take_empty : state.accepting ≡ true → Step (mail_of senders most boxes posted pool) (Take b) (Took Empty) (mail_of senders most boxes posted pool)
    take_empty accepts = record { accepts = open_read kept b state hb read ∙ accepts; nothing = none; same = refl; box = has_box kept b hb }

    pub take_over : state.accepting ≡ false → Step (mail_of senders most boxes posted pool) (Take b) (Took Over) (mail_of senders most boxes posted pool)
    take_over closed = record { closed = open_read kept b state hb read ∙ closed; nothing = none; same = refl; box = has_box kept b hb }

  -- the lane k, which is that of s, has a letter
  module _ (k s : ℕ) (of : IsLaneOf senders b k) (is : b * senders + s ≡ k) where
    in_range : s < senders
    in_range = omega (arith, of.1, is)

    pub lane_below : k < length posted
    lane_below = omega (arith, is, lane_within kept b s in_range hb)

    lane_here : lane_of (mail_of senders most boxes posted pool) b s ≡ lane_at posted pool.lists k
    lane_here = lane_is kept b s in_range hb ∙ ap (lane_at posted pool.lists) is

    module _ (item : T) (rest : List T) (listed : get_or pool.lists k [] ≡ item ∷ rest) where
      shorter : length (get_or pool.lists k []) ≡ length rest + 1
      shorter = omega (arith, ap (λ (xs : List T). length xs) listed)

      listed_here : get_or pool.lists (b * senders + s) [] ≡ item ∷ rest
      listed_here = ap (λ (i : ℕ). get_or pool.lists i []) is ∙ listed

      pub some_wait : 0 < (box_of boxes b).waiting
      some_wait = omega (arith, ap (λ (xs : List T). length xs) listed_here, lane_le_box senders pool.lists b s in_range, kept.waiting b hb)

      -- n letters of the lane were posted
      module _ (n : ℕ) (read_at : n ≡ get_or posted k n) where
        read_n : n ≡ get_or posted k 0
        read_n = get_or_read posted k n lane_below read_at 0

        pub number_within : (n - length (get_or pool.lists k [])) + 1 ≤ most
        number_within = omega (arith, read_n, shorter, kept.spent k lane_below, kept.counted k lane_below)

        pub take_keeps : IsKept senders most (set boxes b (record { waiting = (box_of boxes b).waiting - 1; last = (box_of boxes b).last; giver = k; accepting = (box_of boxes b).accepting })) posted (with_list pool k rest)
        take_keeps =
            let x : MailBox = record { waiting = (box_of boxes b).waiting - 1; last = (box_of boxes b).last; giver = k; accepting = (box_of boxes b).accepting } in
            let kept_at : IsKept senders most (set boxes b x) (set posted (b * senders + s) (get_or posted (b * senders + s) 0)) (with_list pool (b * senders + s) rest) =
            change_keeps kept b s in_range hb (get_or posted (b * senders + s) 0) rest x
            (kept.spent (b * senders + s) (lane_within kept b s in_range hb))
            (omega (arith, ap (λ (xs : List T). length xs) listed_here, kept.counted (b * senders + s) (lane_within kept b s in_range hb)))
            (omega (arith, ap (λ (xs : List T). length xs) listed_here, some_wait))
            (λ some. kept.last b hb some_wait) in
            subst (λ (ps : List ℕ). IsKept senders most (set boxes b x) ps (with_list pool k rest)) (set-get_or posted (b * senders + s) 0)
            (subst (λ (i : ℕ). IsKept senders most (set boxes b x) (set posted (b * senders + s) (get_or posted (b * senders + s) 0)) (with_list pool i rest)) is kept_at)

        pub take_step : Step (mail_of senders most boxes posted pool) (Take b) (Took (Letter s ((n - length (get_or pool.lists k [])) + 1) item))
            (mail_of senders most (set boxes b (record { waiting = (box_of boxes b).waiting - 1; last = (box_of boxes b).last; giver = k; accepting = (box_of boxes b).accepting })) posted (with_list pool k rest))
        take_step =
            let x : MailBox = record { waiting = (box_of boxes b).waiting - 1; last = (box_of boxes b).last; giver = k; accepting = (box_of boxes b).accepting } in
            let old : Mail T = mail_of senders most boxes posted pool in
            let number = (n - length (get_or pool.lists k [])) + 1 in
            let j = b * senders + s in
            let same : get_or posted j 0 - length rest ≡ number =
            omega (arith, ap (λ (i : ℕ). get_or posted i 0) is, read_n, shorter, kept.counted k lane_below) in
            let makes_at : mail_of senders most (set boxes b x) (set posted j (get_or posted j 0)) (with_list pool j rest)
            ≡ with_lane old b s (record { taken = number; waiting = rest }) =
            change_makes kept b s in_range hb (get_or posted j 0) rest x refl
            ∙ ap (λ (a : ℕ). with_lane old b s (record { taken = a; waiting = rest })) same in
            let makes : mail_of senders most (set boxes b x) posted (with_list pool k rest) ≡ with_lane old b s (record { taken = number; waiting = rest }) =
            sym (ap (λ (ps : List ℕ). mail_of senders most (set boxes b x) ps (with_list pool k rest)) (set-get_or posted j 0))
            ∙ (sym (ap (λ (i : ℕ). mail_of senders most (set boxes b x) (set posted j (get_or posted j 0)) (with_list pool i rest)) is) ∙ makes_at) in
            record {
              box = has_box kept b hb;
              sender = in_range;
              number = omega (arith, read_n, ap (λ (l : Lane T). l.taken) lane_here);
              rest = rest;
              first = ap (λ (l : Lane T). l.waiting) lane_here ∙ listed;
              next = makes;
            }
