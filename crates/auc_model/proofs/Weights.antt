-- The weight of the letters that wait, beside that of all under way; and that a bid and an answer find room.
use Rattle.std.proofs.Common.{ℕ, ◌+◌, ◌*◌, ◌<◌, ◌≤◌, ◌≡◌, refl, arith, List, [], ◌∷◌, ◌++◌, length, get_or, sum_by, ap, sym, ◌∙◌}
use Rattle.std.proofs.lemmas.List.Sums.{sum_by-append, sum_by-cons}
use Rattle.auc_letters.specs.declared.letter.Letter.{Letter}
use Rattle.auc_letters.specs.declared.out.Out.{Out}
use Rattle.auc_letters.specs.declared.out.To.{To}
use Rattle.auc_mail.specs.Mail.{Lane, Mail, blank_lane, free_of}
use Rattle.auc_model.specs.Counts.{everywhere, total}
use Rattle.auc_model.specs.Invariants.{Inv, Shaped}
use Rattle.auc_model.specs.Letters.{award_one, bid_one, letters_to, outbid_one, price_one, refused_one}
use Rattle.auc_model.specs.Mails.{Shard, box_of, mail_of, number, outbox, sender}
use Rattle.auc_model.specs.Room.{weight}
use Rattle.auc_model.specs.Channels.{Each, Lost, Routed, Channels, out_of, waiting, channels}
use Rattle.auc_model.specs.World.{Phase, World, senders}
use Rattle.auc_model.proofs.Bounds.{answers_le, bids_le}
use Rattle.auc_model.proofs.Mails.{waiting_there, weight_ones}
use Rattle.auc_model.proofs.Sums.{sum_by-total, sum_by_add, total_add, total_cong, total_grid, total_le, total_more, total_same}
use Rattle.auc_model.proofs.Channels.{first_out, same_to_self}

-- the weight of a mail, by boxes and senders
pub weight-total : (g : Phase) (m : Mail Letter) (n : ℕ) (f : Letter → ℕ) → Shaped g m n → weight f m ≡ total (λ b. total (λ x. sum_by f (waiting m b x)) (senders g)) n
weight-total g m n f s =
    let of_lane = λ (l : Lane Letter). sum_by f l.waiting in
    let at = λ (k : ℕ). of_lane (get_or m.lanes k blank_lane) in
    let size : length m.lanes ≡ n * senders g = s.whole ∙ (ap (λ (k : ℕ). k * m.senders) s.boxes_are ∙ ap (λ (k : ℕ). n * k) s.senders_are) in
    sum_by-total of_lane blank_lane m.lanes
    ∙ (ap (total at) size ∙ (total_grid at n (senders g)
    ∙ total_same (λ b. total (λ x. sum_by f (waiting m b x)) (senders g)) (λ b. total (λ x. at (b * senders g + x)) (senders g)) n
    (λ b. total_cong (λ x. sum_by f (waiting m b x)) (λ x. at (b * senders g + x)) (senders g) (λ x l. lane_weight b x l))))
  where
    lane_weight : (b x : ℕ) → x < senders g → sum_by f (get_or m.lanes (b * senders g + x) blank_lane).waiting ≡ sum_by f (waiting m b x)
    lane_weight b x l =
        ap (λ (k : ℕ). sum_by f (get_or m.lanes (b * k + x) blank_lane).waiting) (sym s.senders_are)
        ∙ sym (ap (λ (ls : List Letter). sum_by f ls) (waiting_there m b x (rw s.senders_are l)))

-- where g weighs as f on each letter
pub sum_by_like : (P : Letter → Type 0) (f h : Letter → ℕ) → ((l : Letter) → P l → h l ≡ f l) → (xs : List Letter) → Each P xs → sum_by h xs ≡ sum_by f xs
sum_by_like P f h e [] p = refl
sum_by_like P f h e (x ∷ xs) p = let a = sum_by_like P f h e xs p.1 in let b = e x p.0 in let c = sum_by-cons f x xs in let d = sum_by-cons h x xs in omega (arith, a, b, c, d)

pub each_front : (P : Letter → Type 0) (xs ys : List Letter) → Each P (xs ++ ys) → Each P xs
each_front P [] ys p = tt
each_front P (x ∷ xs) ys p = (p.0, each_front P xs ys p.1)

only_bids : (g : Phase) (q x : ℕ) (l : Letter) → Routed g (To.Object q) x l → 1 ≡ bid_one l
only_bids g q x (Letter.Bid i a j p) r = refl
only_bids g q x (Letter.Award i j p) r = absurd r
only_bids g q x (Letter.Refused i j p) r = absurd r
only_bids g q x (Letter.Outbid i j p) r = absurd r
only_bids g q x (Letter.Price j p) r = absurd r
only_bids g q x (Letter.First j) r = absurd r
only_bids g q x (Letter.Stop y) r = absurd r

-- A bid at the front of its outbox finds a free node, where the mail has one for each person
module _ (g : Phase) (w : World) (lost : Lost) (inv : Inv g w (channels g w lost)) (h : Shard) (o : Out) (rest : List Out) (in_range : number h < g.shards) (full : outbox w h ≡ o ∷ rest) where
  abbrev c : Channels
  c = channels g w lost

  sender_there : sender g h < senders g
  sender_there = by h in_range
    where
      by : (h : Shard) → number h < g.shards → sender g h < senders g
      by (Shard.PersonShard s) l = omega arith
      by (Shard.ObjectShard q) l = omega arith

  -- the letters that wait weigh no more than those under way
  pub front_le : (f : Letter → ℕ) (t : To) (x : ℕ) → sum_by f (waiting (mail_of w t) (box_of t) x) ≤ sum_by f (c t x)
  front_le f t x = let e = sum_by-append f (waiting (mail_of w t) (box_of t) x) (lost t x ++ letters_to t (out_of g w x)) in omega (arith, e)

  -- and the letter in the outbox comes on top
  front_more : (f : Letter → ℕ) → sum_by f (waiting (mail_of w o.to) (box_of o.to) (sender g h)) + f o.letter ≤ sum_by f (c o.to (sender g h))
  front_more f =
      let x = sender g h in
      let outs : letters_to o.to (out_of g w x) ≡ o.letter ∷ letters_to o.to rest = rw (first_out g w h o rest in_range full x refl, same_to_self o.to) in
      let a = sum_by-append f (waiting (mail_of w o.to) (box_of o.to) x) (lost o.to x ++ letters_to o.to (out_of g w x)) in
      let b = sum_by-append f (lost o.to x) (letters_to o.to (out_of g w x)) in
      let d = ap (λ (ls : List Letter). sum_by f ls) outs in
      let k = sum_by-cons f o.letter (letters_to o.to rest) in
      omega (arith, a, b, d, k)

  object_weight : (f : Letter → ℕ) (q : ℕ) → o.to ≡ To.Object q → q < g.shards → Shaped g w.objects_mail g.shards → weight f w.objects_mail + f o.letter ≤ everywhere g f c
  object_weight f q e l s =
      let row = λ (b : ℕ). total (λ x. sum_by f (waiting w.objects_mail b x)) (senders g) in
      let channel = λ (b : ℕ). total (λ x. sum_by f (c (To.Object b) x)) (senders g) in
      let here : row q + f o.letter ≤ channel q = total_more (λ x. sum_by f (waiting w.objects_mail q x)) (λ x. sum_by f (c (To.Object q) x)) (senders g) (sender g h) (f o.letter) sender_there (λ x m. front_le f (To.Object q) x) (rw e at (front_more f)) in
      let all = total_more row channel g.shards q (f o.letter) l (λ b m. total_le (λ x. sum_by f (waiting w.objects_mail b x)) (λ x. sum_by f (c (To.Object b) x)) (senders g) (λ x k. front_le f (To.Object b) x)) here in
      let t = weight-total g w.objects_mail g.shards f s in
      omega (arith, all, t)

  ones : Shaped g w.objects_mail g.shards → weight (λ _. 1) w.objects_mail ≡ weight bid_one w.objects_mail
  ones s =
      weight-total g w.objects_mail g.shards (λ _. 1) s
      ∙ (total_same (λ b. total (λ x. sum_by bid_one (waiting w.objects_mail b x)) (senders g)) (λ b. total (λ x. sum_by (λ _. 1) (waiting w.objects_mail b x)) (senders g)) g.shards
      (λ b. total_same (λ x. sum_by bid_one (waiting w.objects_mail b x)) (λ x. sum_by (λ _. 1) (waiting w.objects_mail b x)) (senders g)
      (λ x. sum_by_like (Routed g (To.Object b) x) bid_one (λ _. 1) (only_bids g b x) (waiting w.objects_mail b x) (each_front (Routed g (To.Object b) x) (waiting w.objects_mail b x) (lost (To.Object b) x ++ letters_to (To.Object b) (out_of g w x)) (inv.routed (To.Object b) x))))
      ∙ sym (weight-total g w.objects_mail g.shards bid_one s))

  pub room_for_bid : (q : ℕ) → o.to ≡ To.Object q → q < g.shards → Shaped g w.objects_mail g.shards → w.objects_mail.nodes ≡ g.persons → bid_one o.letter ≡ 1 → 0 < free_of w.objects_mail
  room_for_bid q e l s nodes one =
      let a = object_weight bid_one q e l s in
      let b = ones s in
      let d = bids_le g w c inv.counts in
      let u = weight_ones w.objects_mail in
      omega (arith, a, b, d, u, nodes, one)

abbrev pub answer_one : Letter → ℕ
answer_one l = (award_one l + refused_one l) + outbid_one l

row_add : (f h : Letter → ℕ) (rows : ℕ → List Letter) (n : ℕ) → total (λ x. sum_by (λ l. f l + h l) (rows x)) n ≡ total (λ x. sum_by f (rows x)) n + total (λ x. sum_by h (rows x)) n
row_add f h rows n = total_same (λ x. sum_by f (rows x) + sum_by h (rows x)) (λ x. sum_by (λ l. f l + h l) (rows x)) n (λ x. sum_by_add f h (rows x)) ∙ total_add (λ x. sum_by f (rows x)) (λ x. sum_by h (rows x)) n

grid_add : (f h : Letter → ℕ) (rows : ℕ → ℕ → List Letter) (k n : ℕ) → total (λ b. total (λ x. sum_by (λ l. f l + h l) (rows b x)) n) k ≡ total (λ b. total (λ x. sum_by f (rows b x)) n) k + total (λ b. total (λ x. sum_by h (rows b x)) n) k
grid_add f h rows k n =
    total_same (λ b. total (λ x. sum_by f (rows b x)) n + total (λ x. sum_by h (rows b x)) n) (λ b. total (λ x. sum_by (λ l. f l + h l) (rows b x)) n) k (λ b. row_add f h (rows b) n)
    ∙ total_add (λ b. total (λ x. sum_by f (rows b x)) n) (λ b. total (λ x. sum_by h (rows b x)) n) k

everywhere_add : (g : Phase) (f h : Letter → ℕ) (c : Channels) → everywhere g (λ l. f l + h l) c ≡ everywhere g f c + everywhere g h c
everywhere_add g f h c =
    let a = grid_add f h (λ b x. c (To.Object b) x) g.shards (senders g) in
    let b = grid_add f h (λ b x. c (To.Person b) x) g.shards (senders g) in
    let d = row_add f h (λ x. c To.Hub x) (senders g) in
    omega (arith, a, b, d)

pub weight_add : (g : Phase) (m : Mail Letter) (n : ℕ) (f h : Letter → ℕ) → Shaped g m n → weight (λ l. f l + h l) m ≡ weight f m + weight h m
weight_add g m n f h s =
    let a = weight-total g m n (λ l. f l + h l) s in
    let b = weight-total g m n f s in
    let d = weight-total g m n h s in
    let e = grid_add f h (λ b x. waiting m b x) n (senders g) in
    omega (arith, a, b, d, e)

only_answers : (g : Phase) (s x : ℕ) (l : Letter) → Routed g (To.Person s) x l → 1 ≡ answer_one l + price_one l
only_answers g q x (Letter.Award i j p) r = refl
only_answers g q x (Letter.Refused i j p) r = refl
only_answers g q x (Letter.Outbid i j p) r = refl
only_answers g q x (Letter.Price j p) r = refl
only_answers g q x (Letter.Bid i a j p) r = absurd r
only_answers g q x (Letter.First j) r = absurd r
only_answers g q x (Letter.Stop y) r = absurd r

module _ (g : Phase) (w : World) (lost : Lost) (inv : Inv g w (channels g w lost)) (h : Shard) (o : Out) (rest : List Out) (in_range : number h < g.shards) (full : outbox w h ≡ o ∷ rest) where
  person_weight : (f : Letter → ℕ) (s : ℕ) → o.to ≡ To.Person s → s < g.shards → Shaped g w.persons_mail g.shards → weight f w.persons_mail + f o.letter ≤ everywhere g f (channels g w lost)
  person_weight f q e l s =
      let c : Channels = channels g w lost in
      let row = λ (b : ℕ). total (λ x. sum_by f (waiting w.persons_mail b x)) (senders g) in
      let channel = λ (b : ℕ). total (λ x. sum_by f (c (To.Person b) x)) (senders g) in
      let le = front_le g w lost inv h o rest in_range full f in
      let here : row q + f o.letter ≤ channel q = total_more (λ x. sum_by f (waiting w.persons_mail q x)) (λ x. sum_by f (c (To.Person q) x)) (senders g) (sender g h) (f o.letter) (sender_there g w lost inv h o rest in_range full) (λ x m. le (To.Person q) x) (rw e at (front_more g w lost inv h o rest in_range full f)) in
      let all = total_more row channel g.shards q (f o.letter) l (λ b m. total_le (λ x. sum_by f (waiting w.persons_mail b x)) (λ x. sum_by f (c (To.Person b) x)) (senders g) (λ x k. le (To.Person b) x)) here in
      let t = weight-total g w.persons_mail g.shards f s in
      omega (arith, all, t)

  person_ones : Shaped g w.persons_mail g.shards → weight (λ _. 1) w.persons_mail ≡ weight answer_one w.persons_mail + weight price_one w.persons_mail
  person_ones s =
      weight-total g w.persons_mail g.shards (λ _. 1) s
      ∙ (total_same (λ b. total (λ x. sum_by (λ l. answer_one l + price_one l) (waiting w.persons_mail b x)) (senders g)) (λ b. total (λ x. sum_by (λ _. 1) (waiting w.persons_mail b x)) (senders g)) g.shards
      (λ b. total_same (λ x. sum_by (λ l. answer_one l + price_one l) (waiting w.persons_mail b x)) (λ x. sum_by (λ _. 1) (waiting w.persons_mail b x)) (senders g)
      (λ x. sum_by_like (Routed g (To.Person b) x) (λ l. answer_one l + price_one l) (λ _. 1) (only_answers g b x) (waiting w.persons_mail b x) (each_front (Routed g (To.Person b) x) (waiting w.persons_mail b x) (lost (To.Person b) x ++ letters_to (To.Person b) (out_of g w x)) (inv.routed (To.Person b) x))))
      ∙ (sym (weight-total g w.persons_mail g.shards (λ l. answer_one l + price_one l) s) ∙ weight_add g w.persons_mail g.shards answer_one price_one s))

  -- An answer at the front of its outbox finds a free node, where the mail has four for each person and at most two of
  -- them hold a price
  pub room_for_answer : (s : ℕ) → o.to ≡ To.Person s → s < g.shards → Shaped g w.persons_mail g.shards → w.persons_mail.nodes ≡ 4 * g.persons → weight price_one w.persons_mail ≤ 2 * g.persons → answer_one o.letter ≡ 1 → 0 < free_of w.persons_mail
  room_for_answer s e l shape nodes few one =
      let c : Channels = channels g w lost in
      let a = person_weight answer_one s e l shape in
      let b = person_ones shape in
      let d = answers_le g w c inv.counts in
      let x = everywhere_add g (λ l. award_one l + refused_one l) outbid_one c in
      let y = everywhere_add g award_one refused_one c in
      let u = weight_ones w.persons_mail in
      omega (arith, a, b, d, x, y, u, nodes, few, one)
