-- The state of the pairs after a letter is sent, taken or dropped.
use Rattle.std.proofs.Common.{ℕ, ℤ, ◌+◌, ◌%◌, ◌≡◌, refl, arith, List, [], ◌∷◌, ◌++◌, Option, Some, None, filter_map, length, ap, ◌∙◌}
use Rattle.std.proofs.lemmas.Bool.Decides.{nat_tests}
use Rattle.auc_letters.specs.declared.letter.Letter.{Letter}
use Rattle.auc_letters.specs.declared.out.Out.{Out}
use Rattle.auc_letters.specs.declared.out.To.{To}
use Rattle.auc_letters.specs.declared.state.Held.{Held}
use Rattle.auc_letters.specs.declared.state.PersonState.{PersonState}
use Rattle.auc_letters.specs.declared.state.PersonState.TheVariants.{Waits}
use Rattle.auc_model.specs.Letters.{told_answer}
use Rattle.auc_model.specs.Places.{Answer, Award, InPlace, Outbid, Refused, award, bid, hear, heard, pass_on, refuse}
use Rattle.auc_model.specs.Put.{put, put2}
use Rattle.auc_model.specs.Channels.{Channels, answer_to, answers_in, bid_by, bids_in, person_of, places, send, set_channel}
use Rattle.auc_model.specs.World.{Phase, World}
use Rattle.auc_model.proofs.Places.{keeps_award, keeps_bid, keeps_hear, keeps_pass_on, keeps_refuse}
use Rattle.auc_model.proofs.Pairs.{answers_head, answers_popped, answers_sent, bids_head, bids_popped, bids_sent, in_place_like}
use Rattle.auc_model.proofs.Views.{view-send_none, view-set_same, view_drop_none, view_pop_none}

holder_put : (f : ℕ → Option Held) (j : ℕ) (h : Held) (k : ℕ) → person_of (put f j (Some h) k) ≡ put (λ x. person_of (f x)) j (Some h.person) k
holder_put f j h k = grind (arith, nat_tests)

-- a letter that no pair sees
abbrev pub Unseen : Letter → Type 0
Unseen l = (i j : ℕ) → (answer_to i j l ≡ None) × (bid_by i j l ≡ None)

module _ (g : Phase) (w v : World) (c : Channels) where
  pub place_kept : v.state ≡ w.state → v.holder ≡ w.holder → InPlace (places g w c) → InPlace (places g v c)
  place_kept e h p = in_place_like (places g w c) (places g v c) (λ k. ap (λ (f : ℕ → PersonState). f k) e) (λ k. ap (λ (f : ℕ → Option Held). person_of (f k)) h) (λ k l. refl) (λ k l. refl) p

  pub place_sent : (o : Out) (y : ℕ) → Unseen o.letter → InPlace (places g w c) → InPlace (places g w (send c y (o ∷ [])))
  place_sent o y n p =
      in_place_like (places g w c) (places g w (send c y (o ∷ []))) (λ k. refl) (λ k. refl)
      (λ k l. ap length (view-send_none (bid_by k l) c y o (n k l).1 (To.Object (l % g.shards)) (k % g.shards)))
      (λ k l. view-send_none (answer_to k l) c y o (n k l).0 (To.Person (k % g.shards)) (g.shards + l % g.shards)) p

  pub place_taken : (t : To) (x : ℕ) (l : Letter) (ls : List Letter) → c t x ≡ l ∷ ls → Unseen l → InPlace (places g w c) → InPlace (places g w (set_channel c t x ls))
  place_taken t x l ls e n p =
      in_place_like (places g w c) (places g w (set_channel c t x ls)) (λ k. refl) (λ k. refl)
      (λ k m. ap length (view-set_same (bid_by k m) c t x ls (view_pop_none (bid_by k m) c t x l ls e (n k m).1) (To.Object (m % g.shards)) (k % g.shards)))
      (λ k m. view-set_same (answer_to k m) c t x ls (view_pop_none (answer_to k m) c t x l ls e (n k m).0) (To.Person (k % g.shards)) (g.shards + m % g.shards)) p

  pub place_dropped : (t : To) (x : ℕ) (hs : List Letter) (l : Letter) (ls : List Letter) → c t x ≡ hs ++ l ∷ ls → Unseen l → InPlace (places g w c) → InPlace (places g w (set_channel c t x (hs ++ ls)))
  place_dropped t x hs l ls e n p =
      in_place_like (places g w c) (places g w (set_channel c t x (hs ++ ls))) (λ k. refl) (λ k. refl)
      (λ k m. ap length (view-set_same (bid_by k m) c t x (hs ++ ls) (view_drop_none (bid_by k m) c t x hs l ls e (n k m).1) (To.Object (m % g.shards)) (k % g.shards)))
      (λ k m. view-set_same (answer_to k m) c t x (hs ++ ls) (view_drop_none (answer_to k m) c t x hs l ls e (n k m).0) (To.Person (k % g.shards)) (g.shards + m % g.shards)) p

  pub place_bid : (i a j : ℕ) (p : ℤ) (r : ℕ) → w.state i ≡ PersonState.Free → v.state ≡ put w.state i (Waits j) → v.holder ≡ w.holder → InPlace (places g w c)
      → InPlace (places g v (send c (i % g.shards) (record { to = To.Object (j % g.shards); letter = Letter.Bid i a j p; reserve = r } ∷ [])))
  place_bid i a j p r free e h q =
      in_place_like (bid (places g w c) i j) (places g v (send c (i % g.shards) (record { to = To.Object (j % g.shards); letter = Letter.Bid i a j p; reserve = r } ∷ [])))
      (λ k. ap (λ (f : ℕ → PersonState). f k) e) (λ k. ap (λ (f : ℕ → Option Held). person_of (f k)) h)
      (bids_sent g c (To.Object (j % g.shards)) i a j p (i % g.shards) r refl refl)
      (λ k l. view-send_none (answer_to k l) c (i % g.shards) (record { to = To.Object (j % g.shards); letter = Letter.Bid i a j p; reserve = r }) refl (To.Person (k % g.shards)) (g.shards + l % g.shards))
      (keeps_bid (places g w c) i j free q)

  pub place_hear : (l : Letter) (ls : List Letter) (a : Answer) (i j : ℕ) (p : ℤ) → told_answer l ≡ Some (a, i, j, p) → c (To.Person (i % g.shards)) (g.shards + j % g.shards) ≡ l ∷ ls
      → ((k m : ℕ) → bid_by k m l ≡ None) → v.state ≡ put w.state i (heard a j) → v.holder ≡ w.holder → InPlace (places g w c)
      → InPlace (places g v (set_channel c (To.Person (i % g.shards)) (g.shards + j % g.shards) ls))
  place_hear l ls a i j p e f n s h q =
      in_place_like (hear (places g w c) i j a (filter_map (answer_to i j) ls)) (places g v (set_channel c (To.Person (i % g.shards)) (g.shards + j % g.shards) ls))
      (λ k. ap (λ (f : ℕ → PersonState). f k) s) (λ k. ap (λ (f : ℕ → Option Held). person_of (f k)) h)
      (λ k m. ap length (view-set_same (bid_by k m) c (To.Person (i % g.shards)) (g.shards + j % g.shards) ls (view_pop_none (bid_by k m) c (To.Person (i % g.shards)) (g.shards + j % g.shards) l ls f (n k m)) (To.Object (m % g.shards)) (k % g.shards)))
      (answers_popped g c l ls a i j p e f)
      (keeps_hear (places g w c) i j a (filter_map (answer_to i j) ls) (answers_head g c l ls a i j p e f) q)

-- The object's side takes a bid from its channel, and answers. The answers go in one by one
module _ (g : Phase) (w v : World) (c : Channels) (i a j : ℕ) (amount : ℤ) (ls : List Letter) (first : c (To.Object (j % g.shards)) (i % g.shards) ≡ Letter.Bid i a j amount ∷ ls) where
  abbrev pub popped : Channels
  popped = set_channel c (To.Object (j % g.shards)) (i % g.shards) ls

  abbrev left : ℕ
  left = length (filter_map (bid_by i j) ls)

  answers_same : (k l : ℕ) → answers_in g popped k l ≡ answers_in g c k l
  answers_same k l =
      view-set_same (answer_to k l) c (To.Object (j % g.shards)) (i % g.shards) ls (view_pop_none (answer_to k l) c (To.Object (j % g.shards)) (i % g.shards) (Letter.Bid i a j amount) ls first refl) (To.Person (k % g.shards)) (g.shards + l % g.shards)

  answer_next : (d : Channels) (o : Out) (b : Answer) (x : ℕ) (p : ℤ) (f : ℕ → ℕ → List Answer) → told_answer o.letter ≡ Some (b, x, j, p) → o.to ≡ To.Person (x % g.shards)
      → ((k l : ℕ) → answers_in g d k l ≡ f k l)
      → (k l : ℕ) → answers_in g (send d (g.shards + j % g.shards) (o ∷ [])) k l ≡ put2 f x j (f x j ++ b ∷ []) k l
  answer_next d o b x p f e t same k l =
      answers_sent g d o b x j p (g.shards + j % g.shards) e t refl k l ∙ ap (λ (h : ℕ → ℕ → List Answer). put2 h x j (h x j ++ b ∷ []) k l) (λ n r s. same r s n)

  bids_same : (o : Out) (d : Channels) → ((k l : ℕ) → bid_by k l o.letter ≡ None) → (k l : ℕ) → bids_in g (send d (g.shards + j % g.shards) (o ∷ [])) k l ≡ bids_in g d k l
  bids_same o d n k l = ap length (view-send_none (bid_by k l) d (g.shards + j % g.shards) o (n k l) (To.Object (l % g.shards)) (k % g.shards))

  pub place_refuse : (p : ℤ) (r : ℕ) → v.state ≡ w.state → v.holder ≡ w.holder → InPlace (places g w c)
      → InPlace (places g v (send popped (g.shards + j % g.shards) (record { to = To.Person (i % g.shards); letter = Letter.Refused i j p; reserve = r } ∷ [])))
  place_refuse p r s h q =
      let o : Out = record { to = To.Person (i % g.shards); letter = Letter.Refused i j p; reserve = r } in
      in_place_like (refuse (places g w c) i j left) (places g v (send popped (g.shards + j % g.shards) (o ∷ [])))
      (λ k. ap (λ (f : ℕ → PersonState). f k) s) (λ k. ap (λ (f : ℕ → Option Held). person_of (f k)) h)
      (λ k l. bids_same o popped (λ x y. refl) k l ∙ bids_popped g c i a j amount ls first k l)
      (answer_next popped o Refused i p (answers_in g c) refl refl answers_same)
      (keeps_refuse (places g w c) i j left (bids_head g c i a j amount ls first) q)

  pub place_award : (p : ℤ) (r : ℕ) (d : ℕ) → w.holder j ≡ None → v.state ≡ w.state → v.holder ≡ put w.holder j (Some (record { person = i; arc = d })) → InPlace (places g w c)
      → InPlace (places g v (send popped (g.shards + j % g.shards) (record { to = To.Person (i % g.shards); letter = Letter.Award i j p; reserve = r } ∷ [])))
  place_award p r d n s h q =
      let o : Out = record { to = To.Person (i % g.shards); letter = Letter.Award i j p; reserve = r } in
      in_place_like (award (places g w c) i j left) (places g v (send popped (g.shards + j % g.shards) (o ∷ [])))
      (λ k. ap (λ (f : ℕ → PersonState). f k) s) (λ k. ap (λ (f : ℕ → Option Held). person_of (f k)) h ∙ holder_put w.holder j (record { person = i; arc = d }) k)
      (λ k l. bids_same o popped (λ x y. refl) k l ∙ bids_popped g c i a j amount ls first k l)
      (answer_next popped o Award i p (answers_in g c) refl refl answers_same)
      (keeps_award (places g w c) i j left (ap person_of n) (bids_head g c i a j amount ls first) q)

  pub place_pass_on : (p : ℤ) (r z : ℕ) (d : ℕ) (old : Held) → w.holder j ≡ Some old → v.state ≡ w.state → v.holder ≡ put w.holder j (Some (record { person = i; arc = d })) → InPlace (places g w c)
      → InPlace (places g v (send (send popped (g.shards + j % g.shards) (record { to = To.Person (old.person % g.shards); letter = Letter.Outbid old.person j p; reserve = z } ∷ []))
      (g.shards + j % g.shards) (record { to = To.Person (i % g.shards); letter = Letter.Award i j p; reserve = r } ∷ [])))
  place_pass_on p r z d old n s h q =
      let o : Out = record { to = To.Person (i % g.shards); letter = Letter.Award i j p; reserve = r } in
      let u : Out = record { to = To.Person (old.person % g.shards); letter = Letter.Outbid old.person j p; reserve = z } in
      let m : Channels = send popped (g.shards + j % g.shards) (u ∷ []) in
      in_place_like (pass_on (places g w c) i j left old.person) (places g v (send m (g.shards + j % g.shards) (o ∷ [])))
      (λ k. ap (λ (f : ℕ → PersonState). f k) s) (λ k. ap (λ (f : ℕ → Option Held). person_of (f k)) h ∙ holder_put w.holder j (record { person = i; arc = d }) k)
      (λ k l. bids_same o m (λ x y. refl) k l ∙ (bids_same u popped (λ x y. refl) k l ∙ bids_popped g c i a j amount ls first k l))
      (answer_next m o Award i p (put2 (answers_in g c) old.person j (answers_in g c old.person j ++ Outbid ∷ [])) refl refl
      (answer_next popped u Outbid old.person p (answers_in g c) refl refl answers_same))
      (keeps_pass_on (places g w c) i j left old.person (ap person_of n) (bids_head g c i a j amount ls first) q)
