-- If the hub has counted every person, every person holds an object. If nothing is under way and no person is free, it
-- has counted every person.
use Rattle.std.proofs.Common.{ℕ, zero, suc, ◌+◌, ◌%◌, ◌<◌, ◌≤◌, ◌≡◌, refl, arith, Bool, true, false, List, [], ◌∷◌, Some, None, length, filter_map, sum_by, ap, sym, ◌∙◌}
use Rattle.std.specs.Prelude.{if◌then◌else◌, ◌==◌, ◌&&◌}
use Rattle.std.specs.List.{cons_option}
use Rattle.std.proofs.lemmas.Bool.{eq-eqb}
use Rattle.std.proofs.lemmas.Bool.Decides.{nat_tests}
use Rattle.std.proofs.lemmas.List.Sums.{sum_by-cons}
use Rattle.auc_letters.specs.declared.letter.Letter.{Letter}
use Rattle.auc_letters.specs.declared.out.To.{To}
use Rattle.auc_letters.specs.declared.state.PersonState.{PersonState}
use Rattle.auc_letters.specs.declared.state.PersonState.TheVariants.{Free, Holds, Waits}
use Rattle.auc_model.specs.Counts.{everywhere, holds_one, total, waits_one}
use Rattle.auc_model.specs.Invariants.{Inv}
use Rattle.auc_model.specs.Letters.{award_one, bid_one, first_one, outbid_one, refused_one}
use Rattle.auc_model.specs.Places.{Agree, Answer, Unassigned, Award, Holding, PairState, Waiting, Wrong, pair_known, is_held_by, replay, pair_state}
use Rattle.auc_model.specs.Start.{Lawful, free_in, occurs}
use Rattle.auc_model.specs.Channels.{Each, Channels, answer_to, answers_in, bid_by, bids_in, person_of}
use Rattle.auc_model.specs.World.{Phase, World, senders}
use Rattle.auc_model.proofs.Bounds.{all_told, no_stall}
use Rattle.auc_model.proofs.Places.{replay-Wrong}
use Rattle.auc_model.proofs.Sums.{full_at, total_add, zero_at}
use Rattle.auc_model.proofs.Totals.{IsBox, everywhere_nothing}

-- nothing of a kind is under way, so nothing of it is on a channel
channel_zero : (g : Phase) (f : Letter → ℕ) (c : Channels) → everywhere g f c ≡ 0 → (t : To) (x : ℕ) → IsBox g t → x < senders g → sum_by f (c t x) ≡ 0
channel_zero g f c e (To.Object q) x h l = zero_at (λ y. sum_by f (c (To.Object q) y)) (senders g) x (zero_at (λ r. total (λ y. sum_by f (c (To.Object r) y)) (senders g)) g.shards q (omega arith) h) l
channel_zero g f c e (To.Person q) x h l = zero_at (λ y. sum_by f (c (To.Person q) y)) (senders g) x (zero_at (λ r. total (λ y. sum_by f (c (To.Person r) y)) (senders g)) g.shards q (omega arith) h) l
channel_zero g f c e To.Hub x h l = zero_at (λ y. sum_by f (c To.Hub y)) (senders g) x (omega arith) l

no_bid_seen : (i j : ℕ) (xs : List Letter) → sum_by bid_one xs ≡ 0 → length (filter_map (bid_by i j) xs) ≡ 0
no_bid_seen i j [] e = refl
no_bid_seen i j (Letter.Bid x a y p ∷ xs) e = absurd (let s = sum_by-cons bid_one (Letter.Bid x a y p) xs in omega (arith, s))
no_bid_seen i j (Letter.Award x y p ∷ xs) e = no_bid_seen i j xs (let s = sum_by-cons bid_one (Letter.Award x y p) xs in omega (arith, s))
no_bid_seen i j (Letter.Refused x y p ∷ xs) e = no_bid_seen i j xs (let s = sum_by-cons bid_one (Letter.Refused x y p) xs in omega (arith, s))
no_bid_seen i j (Letter.Outbid x y p ∷ xs) e = no_bid_seen i j xs (let s = sum_by-cons bid_one (Letter.Outbid x y p) xs in omega (arith, s))
no_bid_seen i j (Letter.Price y p ∷ xs) e = no_bid_seen i j xs (let s = sum_by-cons bid_one (Letter.Price y p) xs in omega (arith, s))
no_bid_seen i j (Letter.First y ∷ xs) e = no_bid_seen i j xs (let s = sum_by-cons bid_one (Letter.First y) xs in omega (arith, s))
no_bid_seen i j (Letter.Stop y ∷ xs) e = no_bid_seen i j xs (let s = sum_by-cons bid_one (Letter.Stop y) xs in omega (arith, s))

abbrev AllAwards : List Answer → Type 0
AllAwards xs = Each (λ a. a ≡ Award) xs

cons_award : (b : Bool) (xs : List Answer) → AllAwards xs → AllAwards (cons_option (if b then Some Award else None) xs)
cons_award true xs p = (refl, p)
cons_award false xs p = p

awards_seen : (i j : ℕ) (xs : List Letter) → sum_by refused_one xs ≡ 0 → sum_by outbid_one xs ≡ 0 → AllAwards (filter_map (answer_to i j) xs)
awards_seen i j [] e f = tt
awards_seen i j (Letter.Award x y p ∷ xs) e f =
    cons_award ((x == i) && (y == j)) (filter_map (answer_to i j) xs) (awards_seen i j xs (let s = sum_by-cons refused_one (Letter.Award x y p) xs in omega (arith, s)) (let s = sum_by-cons outbid_one (Letter.Award x y p) xs in omega (arith, s)))
awards_seen i j (Letter.Refused x y p ∷ xs) e f = absurd (let s = sum_by-cons refused_one (Letter.Refused x y p) xs in omega (arith, s))
awards_seen i j (Letter.Outbid x y p ∷ xs) e f = absurd (let s = sum_by-cons outbid_one (Letter.Outbid x y p) xs in omega (arith, s))
awards_seen i j (Letter.Bid x a y p ∷ xs) e f = awards_seen i j xs (let s = sum_by-cons refused_one (Letter.Bid x a y p) xs in omega (arith, s)) (let s = sum_by-cons outbid_one (Letter.Bid x a y p) xs in omega (arith, s))
awards_seen i j (Letter.Price y p ∷ xs) e f = awards_seen i j xs (let s = sum_by-cons refused_one (Letter.Price y p) xs in omega (arith, s)) (let s = sum_by-cons outbid_one (Letter.Price y p) xs in omega (arith, s))
awards_seen i j (Letter.First y ∷ xs) e f = awards_seen i j xs (let s = sum_by-cons refused_one (Letter.First y) xs in omega (arith, s)) (let s = sum_by-cons outbid_one (Letter.First y) xs in omega (arith, s))
awards_seen i j (Letter.Stop y ∷ xs) e f = awards_seen i j xs (let s = sum_by-cons refused_one (Letter.Stop y) xs in omega (arith, s)) (let s = sum_by-cons outbid_one (Letter.Stop y) xs in omega (arith, s))

-- a person that waits or holds, with no bid, refusal or outbid under way, is the holder on the object's side
settled_holding : (xs : List Answer) (h : Bool) → AllAwards xs → Agree Holding xs (pair_known h 0) → h ≡ true
settled_holding xs true p a = refl
settled_holding [] false p a = absurd (cc (a.same))
settled_holding (x ∷ xs) false p a = absurd (let e = replay-Wrong xs in let f : replay Wrong xs ≡ Unassigned = rw p.0 at a.same in cc (e, f))

settled_waiting : (xs : List Answer) (h : Bool) → AllAwards xs → Agree Waiting xs (pair_known h 0) → h ≡ true
settled_waiting xs true p a = refl
settled_waiting [] false p a = absurd (cc (a.same))
settled_waiting (x ∷ xs) false p a = settled_holding xs false p.1 (record { same = (rw p.0 at a.same); right = a.right })

module _ (g : Phase) (w : World) (c : Channels) (law : Lawful g) (inv : Inv g w c) where
  -- if the hub has counted every person, every person holds an object
  module _ (all : w.count ≡ g.persons) (i : ℕ) (known : i < g.persons) where
    busy_here : waits_one (w.state i) + holds_one (w.state i) ≡ 1
    busy_here =
        let t = total_add (λ k. waits_one (w.state k)) (λ k. holds_one (w.state k)) g.persons in
        let a = all_told g w c inv.counts all in
        full_at (λ k. waits_one (w.state k) + holds_one (w.state k)) g.persons i (λ m. one (w.state m)) (omega (arith, t, a.busy)) known
      where
        one : (t : PersonState) → waits_one t + holds_one t ≤ 1
        one Free = omega arith
        one (Waits j) = omega arith
        one (Holds j) = omega arith

    no_bids : (j : ℕ) → bids_in g c i j ≡ 0
    no_bids j = no_bid_seen i j (c (To.Object (j % g.shards)) (i % g.shards)) (channel_zero g bid_one c ((all_told g w c inv.counts all).no_bids) (To.Object (j % g.shards)) (i % g.shards) (omega (arith, law.some_shards)) (omega (arith, law.some_shards)))

    just_awards : (j : ℕ) → AllAwards (answers_in g c i j)
    just_awards j =
        let a = all_told g w c inv.counts all in
        awards_seen i j (c (To.Person (i % g.shards)) (g.shards + j % g.shards))
        (channel_zero g refused_one c a.no_refusals (To.Person (i % g.shards)) (g.shards + j % g.shards) (omega (arith, law.some_shards)) (omega (arith, law.some_shards)))
        (channel_zero g outbid_one c a.no_outbids (To.Person (i % g.shards)) (g.shards + j % g.shards) (omega (arith, law.some_shards)) (omega (arith, law.some_shards)))

    pub holds_some : (j : ℕ) × (is_held_by (person_of (w.holder j)) i ≡ true)
    holds_some = by_state (w.state i) refl
      where
        at : (j : ℕ) (s : PairState) → pair_state (w.state i) j ≡ s → Agree s (answers_in g c i j) (pair_known (is_held_by (person_of (w.holder j)) i) 0)
        at j s e = rw (no_bids j, e) at (inv.in_place i j)

        by_state : (t : PersonState) → w.state i ≡ t → (j : ℕ) × (is_held_by (person_of (w.holder j)) i ≡ true)
        by_state Free e = absurd (let b = busy_here in let f : waits_one (w.state i) + holds_one (w.state i) ≡ 0 = rw e in omega (arith, b, f))
        by_state (Waits j) e = (j, settled_waiting (answers_in g c i j) (is_held_by (person_of (w.holder j)) i) (just_awards j) (at j Waiting (rw (e, eq-eqb j j refl))))
        by_state (Holds j) e = (j, settled_holding (answers_in g c i j) (is_held_by (person_of (w.holder j)) i) (just_awards j) (at j Holding (rw (e, eq-eqb j j refl))))

  total_ones : (f : ℕ → ℕ) (n : ℕ) → ((k : ℕ) → k < n → f k ≡ 1) → total f n ≡ n
  total_ones f zero e = refl
  total_ones f (suc n) e = let a = total_ones f n (λ k l. e k (omega arith)) in let b = e n (omega arith) in omega (arith, a, b)

  -- if no letter is under way and no shard has a free person, the hub has counted every person
  pub all_counted : ((s : ℕ) → s < g.shards → w.idle s ≡ []) → ((t : To) (x : ℕ) → c t x ≡ []) → w.count ≡ g.persons
  all_counted idle none =
      let t = total_add (λ k. waits_one (w.state k)) (λ k. holds_one (w.state k)) g.persons in
      let a = total_ones (λ k. waits_one (w.state k) + holds_one (w.state k)) g.persons busy in
      no_stall g w c inv.counts (omega (arith, t, a)) (everywhere_nothing g bid_one c none) (everywhere_nothing g award_one c none) (everywhere_nothing g refused_one c none) (everywhere_nothing g outbid_one c none) (everywhere_nothing g first_one c none)
    where
      not_free : (s : PersonState) (i : ℕ) → 0 ≡ free_in g s (i % g.shards) i → i < g.persons → waits_one s + holds_one s ≡ 1
      not_free Free i e l = absurd (grind (arith, nat_tests))
      not_free (Waits j) i e l = omega arith
      not_free (Holds j) i e l = omega arith

      busy : (k : ℕ) → k < g.persons → waits_one (w.state k) + holds_one (w.state k) ≡ 1
      busy k l =
          let here = idle (k % g.shards) (omega (arith, law.some_shards)) in
          not_free (w.state k) k (sym (ap (λ (xs : List ℕ). occurs k xs) here) ∙ inv.idle_is (k % g.shards) k) l
