-- Every letter but a Price finds room, where the mails have the usual nodes.
use Rattle.std.proofs.Common.{ℕ, zero, suc, ◌+◌, ◌<◌, ◌≤◌, ◌≡◌, refl, arith, Bool, true, false, List, ◌∷◌, ◌++◌, sum_by}
use Rattle.auc_letters.specs.declared.letter.Letter.{Letter}
use Rattle.auc_letters.specs.declared.out.Out.{Out}
use Rattle.auc_letters.specs.declared.out.To.{To}
use Rattle.auc_mail.specs.Mail.{free_of}
use Rattle.auc_model.specs.Counts.{everywhere, total}
use Rattle.auc_model.specs.Invariants.{Inv, Shapes}
use Rattle.auc_model.specs.Letters.{first_one, letters_to, stop_one}
use Rattle.auc_model.specs.Mails.{Shard, mail_of, number, outbox, sender}
use Rattle.auc_model.specs.Posting.{is_price}
use Rattle.auc_model.specs.Room.{Room, one_if, weight}
use Rattle.auc_model.specs.Start.{Lawful}
use Rattle.auc_model.specs.Channels.{Lost, Routed, Channels, out_of, waiting, channels}
use Rattle.auc_model.specs.World.{Phase, World, senders}
use Rattle.auc_model.proofs.Bounds.{firsts_le}
use Rattle.auc_model.proofs.Mails.{weight_ones}
use Rattle.auc_model.proofs.Routes.{routed_middle}
use Rattle.auc_model.proofs.Sums.{total_le, total_same}
use Rattle.auc_model.proofs.Channels.{ahead, channel_full}
use Rattle.auc_model.proofs.Weights.{each_front, front_le, room_for_answer, room_for_bid, sum_by_like, weight-total, weight_add}

only_hub : (g : Phase) (x : ℕ) (l : Letter) → Routed g To.Hub x l → 1 ≡ first_one l + stop_one l
only_hub g x (Letter.First j) r = refl
only_hub g x (Letter.Stop y) r = refl
only_hub g x (Letter.Bid i a j p) r = absurd r
only_hub g x (Letter.Award i j p) r = absurd r
only_hub g x (Letter.Refused i j p) r = absurd r
only_hub g x (Letter.Outbid i j p) r = absurd r
only_hub g x (Letter.Price j p) r = absurd r

at_most_all : (f : ℕ → Bool) (n : ℕ) → total (λ k. one_if (f k)) n ≤ n
at_most_all f zero = omega arith
at_most_all f (suc n) = let a = at_most_all f n in let b = one (f n) in omega (arith, a, b)
  where
    one : (t : Bool) → one_if t ≤ 1
    one true = omega arith
    one false = omega arith

-- Every letter but a price finds a free node
module _ (g : Phase) (w : World) (lost : Lost) (law : Lawful g) (inv : Inv g w (channels g w lost)) (shapes : Shapes g w) (room : Room g w) (h : Shard) (o : Out) (rest : List Out) (in_range : number h < g.shards) (full : outbox w h ≡ o ∷ rest) where
  pub routed_head : Routed g o.to (sender g h) o.letter
  routed_head = routed_middle g (channels g w lost) inv.routed o.to (sender g h) (ahead g w h o rest in_range full lost) o.letter (letters_to o.to rest) (channel_full g w h o rest in_range full lost)

  hub_ones : weight (λ _. 1) w.hub_mail ≡ weight first_one w.hub_mail + weight stop_one w.hub_mail
  hub_ones =
      let a = weight-total g w.hub_mail 1 (λ _. 1) shapes.hub in
      let b = weight-total g w.hub_mail 1 (λ l. first_one l + stop_one l) shapes.hub in
      let d = weight_add g w.hub_mail 1 first_one stop_one shapes.hub in
      let e =
      total_same (λ x. sum_by (λ l. first_one l + stop_one l) (waiting w.hub_mail 0 x)) (λ x. sum_by (λ _. 1) (waiting w.hub_mail 0 x)) (senders g)
      (λ x. sum_by_like (Routed g To.Hub x) (λ l. first_one l + stop_one l) (λ _. 1) (only_hub g x) (waiting w.hub_mail 0 x) (each_front (Routed g To.Hub x) (waiting w.hub_mail 0 x) (lost To.Hub x ++ letters_to To.Hub (out_of g w x)) (inv.routed To.Hub x))) in
      omega (arith, a, b, d, e)

  first_weight : weight first_one w.hub_mail ≤ everywhere g first_one (channels g w lost)
  first_weight =
      let c : Channels = channels g w lost in
      let a = weight-total g w.hub_mail 1 first_one shapes.hub in
      let b = total_le (λ x. sum_by first_one (waiting w.hub_mail 0 x)) (λ x. sum_by first_one (c To.Hub x)) (senders g) (λ x k. front_le g w lost inv h o rest in_range full first_one To.Hub x) in
      omega (arith, a, b)

  hub_fits : 0 < free_of w.hub_mail
  hub_fits =
      let a = hub_ones in
      let b = first_weight in
      let d = firsts_le g w (channels g w lost) inv.counts in
      let e = at_most_all w.has_stopped g.shards in
      let u = weight_ones w.hub_mail in
      omega (arith, a, b, d, e, u, room.few_stops, room.hub_nodes, law.some_shards)

  pub finds_room : is_price o.letter ≡ false → 0 < free_of (mail_of w o.to)
  finds_room no_price = by o.to o.letter refl refl no_price routed_head
    where
      by : (t : To) (l : Letter) → o.to ≡ t → o.letter ≡ l → is_price l ≡ false → Routed g t (sender g h) l → 0 < free_of (mail_of w t)
      by To.Hub l e f n r = hub_fits
      by (To.Object q) (Letter.Bid i a j p) e f n r = room_for_bid g w lost inv h o rest in_range full q e (let m = r.shard in omega (arith, m, law.some_shards)) shapes.objects room.objects_nodes (rw f)
      by (To.Object q) (Letter.Award i j p) e f n r = absurd r
      by (To.Object q) (Letter.Refused i j p) e f n r = absurd r
      by (To.Object q) (Letter.Outbid i j p) e f n r = absurd r
      by (To.Object q) (Letter.Price j p) e f n r = absurd r
      by (To.Object q) (Letter.First j) e f n r = absurd r
      by (To.Object q) (Letter.Stop y) e f n r = absurd r
      by (To.Person s) (Letter.Award i j p) e f n r = room_for_answer g w lost inv h o rest in_range full s e (let m = r.shard in omega (arith, m, law.some_shards)) shapes.persons room.persons_nodes room.few_prices (rw f)
      by (To.Person s) (Letter.Refused i j p) e f n r = room_for_answer g w lost inv h o rest in_range full s e (let m = r.shard in omega (arith, m, law.some_shards)) shapes.persons room.persons_nodes room.few_prices (rw f)
      by (To.Person s) (Letter.Outbid i j p) e f n r = room_for_answer g w lost inv h o rest in_range full s e (let m = r.shard in omega (arith, m, law.some_shards)) shapes.persons room.persons_nodes room.few_prices (rw f)
      by (To.Person s) (Letter.Price j p) e f n r = absurd cc
      by (To.Person s) (Letter.Bid i a j p) e f n r = absurd r
      by (To.Person s) (Letter.First j) e f n r = absurd r
      by (To.Person s) (Letter.Stop y) e f n r = absurd r
