-- How one change to a world moves the work that is left in it.
use Rattle.std.proofs.Common.{ℕ, ◌+◌, ◌*◌, ◌<◌, ◌≤◌, ◌≡◌, ◌≢◌, refl, arith, true, false, List, [], ◌∷◌, sum_by, ap}
use Rattle.std.specs.Prelude.{◌-◌, nat_lt}
use Rattle.std.proofs.lemmas.Bool.{cond_both, eq-eqb, ne_eqb}
use Rattle.std.proofs.lemmas.List.Sums.{sum_by-cons}
use Rattle.auc_letters.specs.declared.letter.Letter.{Letter}
use Rattle.auc_letters.specs.declared.out.Out.{Out}
use Rattle.auc_letters.specs.declared.out.To.{To}
use Rattle.auc_mail.specs.Mail.{Mail}
use Rattle.auc_mail.specs.Step.{Step}
use Rattle.auc_mail.specs.declared.call.Call.{Call}
use Rattle.auc_mail.specs.declared.call.Reply.{Reply}
use Rattle.auc_model.specs.Hearing.{after_letter}
use Rattle.auc_model.specs.Hub.{hub_after}
use Rattle.auc_model.specs.Mails.{ObjectShard, PersonShard, Shard, mail_of, number, outbox, with_mail, with_outbox}
use Rattle.auc_model.specs.Put.{put}
use Rattle.auc_model.specs.Work.{bid_work, posting_work, shard_work, shards_work, stop_work, waiting_work, work}
use Rattle.auc_model.specs.World.{Phase, World}
use Rattle.auc_model.proofs.Sums.{total_change}
use Rattle.auc_model.proofs.WeightSteps.{weight_posted_le}

module _ (g : Phase) (w : World) where
  -- what the shards have after a change to those of one number
  shards_change : (v : World) (k : ℕ) → k < g.shards → ((m : ℕ) → m ≢ k → shard_work v m ≡ shard_work w m) → shards_work g v + shard_work w k ≡ shards_work g w + shard_work v k
  shards_change v k l off = total_change (λ s. shard_work w s) (λ s. shard_work v s) g.shards k l off

  -- an outbox gets other letters
  outbox_change : (h : Shard) (os : List Out) → number h < g.shards → work g (with_outbox w h os) + sum_by posting_work (outbox w h) ≡ work g w + sum_by posting_work os
  outbox_change (PersonShard s) os l =
      let v : World = with_outbox w (PersonShard s) os in
      let a = shards_change v s l (λ m n. rw (ne_eqb m s n)) in
      let b : shard_work v s ≡ (bid_work * w.bids_left s + stop_work (w.has_stopped s)) + (sum_by posting_work os + sum_by posting_work (w.object_out s)) = rw (eq-eqb s s refl) in
      omega (arith, a, b)
  outbox_change (ObjectShard s) os l =
      let v : World = with_outbox w (ObjectShard s) os in
      let a = shards_change v s l (λ m n. rw (ne_eqb m s n)) in
      let b : shard_work v s ≡ (bid_work * w.bids_left s + stop_work (w.has_stopped s)) + (sum_by posting_work (w.person_out s) + sum_by posting_work os) = rw (eq-eqb s s refl) in
      omega (arith, a, b)

  -- the first letter of an outbox is gone
  pub outbox_popped : (h : Shard) (o : Out) (rest : List Out) → number h < g.shards → outbox w h ≡ o ∷ rest → work g (with_outbox w h rest) + posting_work o ≡ work g w
  outbox_popped h o rest l e =
      let a = outbox_change h rest l in
      let b = ap (λ (os : List Out). sum_by posting_work os) e in
      let c = sum_by-cons posting_work o rest in
      omega (arith, a, b, c)

  -- an empty outbox gets letters
  pub outbox_filled : (h : Shard) (os : List Out) → number h < g.shards → outbox w h ≡ [] → work g (with_outbox w h os) ≡ work g w + sum_by posting_work os
  outbox_filled h os l e =
      let a = outbox_change h os l in
      let b : sum_by posting_work (outbox w h) ≡ 0 = ap (λ (xs : List Out). sum_by posting_work xs) e in
      omega (arith, a, b)

  -- a shard makes its one Stop, and uses up a bid
  pub stop_made : (s : ℕ) → s < g.shards → w.has_stopped s ≡ false → work g (record w { has_stopped = put w.has_stopped s true }) + 3 ≡ work g w
  stop_made s l e =
      let v : World = record w { has_stopped = put w.has_stopped s true } in
      let a = shards_change v s l (λ m n. rw (ne_eqb m s n)) in
      let b : shard_work v s ≡ (bid_work * w.bids_left s + 0) + (sum_by posting_work (w.person_out s) + sum_by posting_work (w.object_out s)) = rw (eq-eqb s s refl) in
      let c : stop_work (w.has_stopped s) ≡ 3 = rw e in
      omega (arith, a, b, c)

  pub bid_used : (s : ℕ) → s < g.shards → w.bids_left s ≢ 0 → work g (record w { bids_left = put w.bids_left s (w.bids_left s - 1) }) + bid_work ≡ work g w
  bid_used s l n =
      let v : World = record w { bids_left = put w.bids_left s (w.bids_left s - 1) } in
      let a = shards_change v s l (λ m n. rw (ne_eqb m s n)) in
      let b : shard_work v s ≡ (bid_work * (w.bids_left s - 1) + stop_work (w.has_stopped s)) + (sum_by posting_work (w.person_out s) + sum_by posting_work (w.object_out s)) = rw (eq-eqb s s refl) in
      omega (arith, a, b)

  -- a letter goes into its mail
  pub mail_posted : (t : To) (m : Mail Letter) (s b r k : ℕ) (x : Letter) → Step (mail_of w t) (Call.Post s b x r) (Reply.Posted k) m → work g (with_mail w t m) ≤ work g w + waiting_work x
  mail_posted (To.Person q) m s b r k x p = let a = weight_posted_le w.persons_mail m s b r k x waiting_work p in omega (arith, a)
  mail_posted (To.Object q) m s b r k x p = let a = weight_posted_le w.objects_mail m s b r k x waiting_work p in omega (arith, a)
  mail_posted To.Hub m s b r k x p = let a = weight_posted_le w.hub_mail m s b r k x waiting_work p in omega (arith, a)

  -- a letter that a person shard takes, or that the hub counts, makes no work
  pub heard : (s : ℕ) (l : Letter) → work g (after_letter w s l) ≡ work g w
  heard s (Letter.Award i j p) = refl
  heard s (Letter.Refused i j p) = refl
  heard s (Letter.Outbid i j p) = refl
  heard s (Letter.Price j p) = refl
  heard s (Letter.Bid i a j p) = refl
  heard s (Letter.First j) = refl
  heard s (Letter.Stop y) = refl

  pub counted_in : (l : Letter) → work g (hub_after g l w) ≡ work g w
  counted_in (Letter.First j) = cond_both (nat_lt w.count g.persons) _ w (λ (x : World). work g x ≡ work g w) (λ e. refl) (λ e. refl)
  counted_in (Letter.Stop y) = refl
  counted_in (Letter.Bid i a j p) = refl
  counted_in (Letter.Award i j p) = refl
  counted_in (Letter.Refused i j p) = refl
  counted_in (Letter.Outbid i j p) = refl
  counted_in (Letter.Price j p) = refl

pub outbox_with_mail : (w : World) (t : To) (m : Mail Letter) (h : Shard) → outbox (with_mail w t m) h ≡ outbox w h
outbox_with_mail w (To.Person s) m (PersonShard q) = refl
outbox_with_mail w (To.Person s) m (ObjectShard q) = refl
outbox_with_mail w (To.Object s) m (PersonShard q) = refl
outbox_with_mail w (To.Object s) m (ObjectShard q) = refl
outbox_with_mail w To.Hub m (PersonShard q) = refl
outbox_with_mail w To.Hub m (ObjectShard q) = refl

-- a letter that is taken has work left
pub some_work : (l : Letter) → 0 < waiting_work l
some_work (Letter.Bid i a j p) = omega arith
some_work (Letter.Award i j p) = omega arith
some_work (Letter.Refused i j p) = omega arith
some_work (Letter.Outbid i j p) = omega arith
some_work (Letter.Price j p) = omega arith
some_work (Letter.First j) = omega arith
some_work (Letter.Stop y) = omega arith
