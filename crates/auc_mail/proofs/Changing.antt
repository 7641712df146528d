-- The parts of a pool after one lane has changed.
use Rattle.std.proofs.Common.{◌≡◌, ◌≢◌, ℕ, ◌+◌, ◌-◌, ◌*◌, ◌<◌, ◌≤◌, Bool, false, List, [], length, get_or, set, map, ap, sym, ◌∙◌, subst, ⊎_elim, arith, length-set}
use Rattle.std.specs.List.{range_with_len, sum_by}
use Rattle.std.proofs.lemmas.List.{map-set, set-get_or, get_or-map, get_or-set_same, get_or-set_other}
use Rattle.std.proofs.lemmas.List.Sums.{sum-map}
use Rattle.std.proofs.lemmas.Bool.{cases_eq}
use Rattle.auc_nodes.specs.Lists.{Lists, with_list}
use Rattle.auc_mail.specs.Mail.{Lane, Mail, with_lane}
use Rattle.auc_mail.specs.Pool.{no_box, box_of, box_waiting, lane_at, lanes_of, mail_of, IsKept, IsLaneOf}
use Rattle.auc_mail.specs.declared.boxes.MailBox.{MailBox}
use Rattle.auc_mail.proofs.Tables.{table, table_set, table_same, sum_table_set, same_row}
use Rattle.auc_mail.proofs.Lanes.{same_counts}
use Rattle.auc_mail.proofs.Keeping.{lane_within, list_within}

-- In the lane of b and s, t letters were posted and those of xs wait; the box then is x.
module _ {T : Type 0} {senders most : ℕ} {boxes : List MailBox} {posted : List ℕ} {pool : Lists T} (kept : IsKept senders most boxes posted pool)
    (b s : ℕ) (hs : s < senders) (hb : b < length boxes) (t : ℕ) (xs : List T) (x : MailBox) where
  within : b * senders + s < length posted
  within = lane_within kept b s hs hb

  list_here : get_or (set pool.lists (b * senders + s) xs) (b * senders + s) [] ≡ xs
  list_here = get_or-set_same pool.lists (b * senders + s) xs [] (list_within kept b s hs hb)

  list_other : (j : ℕ) → j ≢ b * senders + s → get_or (set pool.lists (b * senders + s) xs) j [] ≡ get_or pool.lists j []
  list_other j ne = get_or-set_other pool.lists (b * senders + s) j xs [] ne

  posted_here : get_or (set posted (b * senders + s) t) (b * senders + s) 0 ≡ t
  posted_here = get_or-set_same posted (b * senders + s) t 0 within

  posted_other : (j : ℕ) → j ≢ b * senders + s → get_or (set posted (b * senders + s) t) j 0 ≡ get_or posted j 0
  posted_other j ne = get_or-set_other posted (b * senders + s) j t 0 ne

  -- the lanes
  lanes_then : lanes_of (set posted (b * senders + s) t) (set pool.lists (b * senders + s) xs)
      ≡ set (lanes_of posted pool.lists) (b * senders + s) (record { taken = t - length xs; waiting = xs })
  lanes_then =
      let k = b * senders + s in
      let f = lane_at posted pool.lists in
      let g = lane_at (set posted k t) (set pool.lists k xs) in
      ap (table g) (length-set posted k t)
      ∙ (table_set f g (length posted) k within (λ j ne. same_counts (posted_other j ne) (list_other j ne))
      ∙ ap (set (table f (length posted)) k) (same_counts posted_here list_here))

  -- no lane has more posts than it may, nor more letters than posts
  each_lane : (P : ℕ → ℕ → Type 0) → P t (length xs) → ((j : ℕ) → j < length posted → P (get_or posted j 0) (length (get_or pool.lists j [])))
      → (j : ℕ) → j < length (set posted (b * senders + s) t)
      → P (get_or (set posted (b * senders + s) t) j 0) (length (get_or (set pool.lists (b * senders + s) xs) j []))
  each_lane P here others j lt =
      let k = b * senders + s in
      let At : ℕ → Type 0 = λ i. P (get_or (set posted k t) i 0) (length (get_or (set pool.lists k xs) i [])) in
      ⊎_elim
      (λ (e : j ≡ k). subst At (sym e) (rw (posted_here, list_here) here))
      (λ (ne : j ≢ k). rw (posted_other j ne, list_other j ne) (others j (omega (arith, lt, length-set posted k t))))
      (cases_eq j k)

  -- the letters of each box
  waiting_here : x.waiting + length (get_or pool.lists (b * senders + s) []) ≡ (box_of boxes b).waiting + length xs
      → x.waiting ≡ box_waiting senders (set pool.lists (b * senders + s) xs) b
  waiting_here counted =
      let f : ℕ → ℕ = λ j. length (get_or pool.lists (b * senders + j) []) in
      let g : ℕ → ℕ = λ j. length (get_or (set pool.lists (b * senders + s) xs) (b * senders + j) []) in
      let step = sum_table_set (λ (n : ℕ). n) f g senders s hs (λ j ne. ap (λ (ys : List T). length ys) (list_other (b * senders + j) (λ e. ne (omega (arith, e))))) in
      omega (
        arith,
        counted,
        step,
        kept.waiting b hb,
        sum-map f (range_with_len 0 senders),
        sum-map g (range_with_len 0 senders),
        ap (λ (ys : List T). length ys) list_here,
      )

  waiting_other : (c : ℕ) → c ≢ b → box_waiting senders (set pool.lists (b * senders + s) xs) c ≡ box_waiting senders pool.lists c
  waiting_other c ne =
      let f : ℕ → ℕ = λ j. length (get_or pool.lists (c * senders + j) []) in
      let g : ℕ → ℕ = λ j. length (get_or (set pool.lists (b * senders + s) xs) (c * senders + j) []) in
      let same = table_same f g senders (λ j hj. ap (λ (ys : List T). length ys) (list_other (c * senders + j) (λ e. ne (same_row c b j s senders hj hs e)))) in
      sym (sum-map g (range_with_len 0 senders)) ∙ (ap (sum_by (λ (n : ℕ). n)) same ∙ sum-map f (range_with_len 0 senders))

  -- the boxes
  each_box : (P : ℕ → MailBox → Type 0) → P b x → ((c : ℕ) → c ≢ b → c < length boxes → P c (box_of boxes c))
      → (c : ℕ) → c < length (set boxes b x) → P c (box_of (set boxes b x) c)
  each_box P here others c lt = ⊎_elim
      (λ (e : c ≡ b). subst (λ (i : ℕ). P i (box_of (set boxes b x) i)) (sym e) (subst (P b) (sym (get_or-set_same boxes b x no_box hb)) here))
      (λ (ne : c ≢ b). subst (P c) (sym (get_or-set_other boxes b c x no_box ne)) (others c ne (omega (arith, lt, length-set boxes b x))))
      (cases_eq c b)

  -- what is kept
  pub change_keeps : t ≤ most → length xs ≤ t → x.waiting + length (get_or pool.lists (b * senders + s) []) ≡ (box_of boxes b).waiting + length xs
      → (0 < x.waiting → IsLaneOf senders b x.last)
      → IsKept senders most (set boxes b x) (set posted (b * senders + s) t) (with_list pool (b * senders + s) xs)
  change_keeps spent counted waiting last =
      let k = b * senders + s in
      let size = length-set boxes b x in
      record {
        lanes = length-set posted k t ∙ (kept.lanes ∙ ap (λ (n : ℕ). n * senders) (sym size));
        lists = length-set pool.lists k xs ∙ (kept.lists ∙ sym (length-set posted k t));
        lanes_fit = rw size kept.lanes_fit;
        spent = each_lane (λ p n. p ≤ most) spent kept.spent;
        counted = each_lane (λ p n. n ≤ p) counted kept.counted;
        waiting = each_box (λ c y. y.waiting ≡ box_waiting senders (set pool.lists k xs) c) (waiting_here waiting) (λ c ne lt. kept.waiting c lt ∙ sym (waiting_other c ne));
        last = each_box (λ c y. 0 < y.waiting → IsLaneOf senders c y.last) last (λ c ne lt. kept.last c lt);
      }

  accepting_then : x.accepting ≡ (box_of boxes b).accepting → map (λ (y : MailBox). y.accepting) (set boxes b x) ≡ map (λ (y : MailBox). y.accepting) boxes
  accepting_then same =
      let flags = map (λ (y : MailBox). y.accepting) boxes in
      map-set (λ (y : MailBox). y.accepting) boxes b x
      ∙ (ap (set flags b) (same ∙ sym (get_or-map (λ (y : MailBox). y.accepting) boxes b no_box false hb)) ∙ set-get_or flags b false)

  -- the mail that it makes
  pub change_makes : x.accepting ≡ (box_of boxes b).accepting
      → mail_of senders most (set boxes b x) (set posted (b * senders + s) t) (with_list pool (b * senders + s) xs)
      ≡ with_lane (mail_of senders most boxes posted pool) b s (record { taken = t - length xs; waiting = xs })
  change_makes same =
      ap (λ (flags : List Bool). let m : Mail T = record { senders = senders; nodes = pool.nodes; most = most; accepting = flags; lanes = lanes_of (set posted (b * senders + s) t) (set pool.lists (b * senders + s) xs) } in m) (accepting_then same)
      ∙ ap (λ (ls : List (Lane T)). let m : Mail T = record { senders = senders; nodes = pool.nodes; most = most; accepting = map (λ (y : MailBox). y.accepting) boxes; lanes = ls } in m) lanes_then
