-- One more letter, or one less, as each pair sees it: a person, or a person shard, with an object.
use Rattle.std.proofs.Common.{ℕ, ℤ, suc, ◌+◌, ◌%◌, ◌≡◌, refl, arith, false, List, [], ◌∷◌, ◌++◌, Some, None, filter_map, length, length-append, ◌⊎◌, inl, inr, ap, sym, ◌∙◌}
use Rattle.std.specs.Prelude.{if◌then◌else◌, ◌==◌}
use Rattle.std.proofs.lemmas.Bool.{cases_eq, eq-eqb, ne_eqb}
use Rattle.std.proofs.lemmas.Bool.Decides.{nat_tests}
use Rattle.auc_letters.specs.declared.letter.Letter.{Letter}
use Rattle.auc_letters.specs.declared.out.Out.{Out}
use Rattle.auc_letters.specs.declared.out.To.{To}
use Rattle.auc_model.specs.Letters.{told_answer, told_price, same_to}
use Rattle.auc_model.specs.Places.{Answer, InPlace, Places}
use Rattle.auc_model.specs.Prices.{NeverFalls, Prices}
use Rattle.auc_model.specs.Put.{put2}
use Rattle.auc_model.specs.Channels.{Channels, answer_to, answers_in, bid_by, bids_in, if_both, news_in, price_about, send, set_channel, view}
use Rattle.auc_model.specs.World.{Phase}
use Rattle.auc_model.proofs.Views.{cases_both, pair_dropped, pair_popped, pair_sent, put2_at, put2_off, view_drop_some, view_pop_some}

pub in_place_like : (p q : Places) → ((i : ℕ) → q.state i ≡ p.state i) → ((j : ℕ) → q.holder j ≡ p.holder j) → ((i j : ℕ) → q.bids i j ≡ p.bids i j) → ((i j : ℕ) → q.answers i j ≡ p.answers i j) → InPlace p → InPlace q
in_place_like p q e1 e2 e3 e4 h i j = rw (e1 i, e2 j, e3 i j, e4 i j) (h i j)

pub never_falls_like : (p q : Prices) → ((j : ℕ) → q.price j ≡ p.price j) → ((s j : ℕ) → q.copy s j ≡ p.copy s j) → ((s j : ℕ) → q.news s j ≡ p.news s j) → NeverFalls p → NeverFalls q
never_falls_like p q e1 e2 e3 h s j = rw (e1 j, e2 s j, e3 s j) (h s j)

-- what a letter is to each pair
pub answer_to-from : (l : Letter) (a : Answer) (i j : ℕ) (p : ℤ) → told_answer l ≡ Some (a, i, j, p) → (k m : ℕ) → answer_to k m l ≡ if_both (i == k) (j == m) a
answer_to-from (Letter.Award x y q) a i j p e k m = grind arith
answer_to-from (Letter.Refused x y q) a i j p e k m = grind arith
answer_to-from (Letter.Outbid x y q) a i j p e k m = grind arith
answer_to-from (Letter.Bid x b y q) a i j p e k m = absurd cc
answer_to-from (Letter.Price y q) a i j p e k m = absurd cc
answer_to-from (Letter.First y) a i j p e k m = absurd cc
answer_to-from (Letter.Stop y) a i j p e k m = absurd cc

if_both_on : (i k j m : ℕ) (a : Answer) → k ≡ i → m ≡ j → if_both (i == k) (j == m) a ≡ Some a
if_both_on i k j m a e f = grind (arith, nat_tests)

if_both_off : (i k j m : ℕ) (a : Answer) → ((k ≡ i) × (m ≡ j) → ⊥) → if_both (i == k) (j == m) a ≡ None
if_both_off i k j m a n = grind (arith, nat_tests)

module _ (g : Phase) (c : Channels) where
  pub answers_sent : (o : Out) (a : Answer) (i j : ℕ) (p : ℤ) (y : ℕ) → told_answer o.letter ≡ Some (a, i, j, p) → o.to ≡ To.Person (i % g.shards) → y ≡ g.shards + j % g.shards
      → (k l : ℕ) → answers_in g (send c y (o ∷ [])) k l ≡ put2 (answers_in g c) i j (answers_in g c i j ++ a ∷ []) k l
  answers_sent o a i j p y e t x =
      pair_sent answer_to (λ k l. To.Person (k % g.shards)) (λ k l. g.shards + l % g.shards) c o i j y a (sym t) (sym x)
      (answer_to-from o.letter a i j p e i j ∙ if_both_on i i j j a refl refl)
      (λ k l n. inl (answer_to-from o.letter a i j p e k l ∙ if_both_off i k j l a n))

  pub answers_popped : (l : Letter) (ls : List Letter) (a : Answer) (i j : ℕ) (p : ℤ) → told_answer l ≡ Some (a, i, j, p) → c (To.Person (i % g.shards)) (g.shards + j % g.shards) ≡ l ∷ ls
      → (k m : ℕ) → answers_in g (set_channel c (To.Person (i % g.shards)) (g.shards + j % g.shards) ls) k m ≡ put2 (answers_in g c) i j (filter_map (answer_to i j) ls) k m
  answers_popped l ls a i j p e h =
      pair_popped answer_to (λ k l. To.Person (k % g.shards)) (λ k l. g.shards + l % g.shards) c i j l ls a h
      (answer_to-from l a i j p e i j ∙ if_both_on i i j j a refl refl)
      (λ k m n. inl (answer_to-from l a i j p e k m ∙ if_both_off i k j m a n))

  pub answers_head : (l : Letter) (ls : List Letter) (a : Answer) (i j : ℕ) (p : ℤ) → told_answer l ≡ Some (a, i, j, p) → c (To.Person (i % g.shards)) (g.shards + j % g.shards) ≡ l ∷ ls
      → answers_in g c i j ≡ a ∷ filter_map (answer_to i j) ls
  answers_head l ls a i j p e h =
      view_pop_some (answer_to i j) c (To.Person (i % g.shards)) (g.shards + j % g.shards) l ls a h (answer_to-from l a i j p e i j ∙ if_both_on i i j j a refl refl)

  bid_on : (i j a k l : ℕ) (p : ℤ) → k ≡ i → l ≡ j → bid_by k l (Letter.Bid i a j p) ≡ Some p
  bid_on i j a k l p e f = grind (arith, nat_tests)

  bid_off : (i j a k l : ℕ) (p : ℤ) → ((k ≡ i) × (l ≡ j) → ⊥) → bid_by k l (Letter.Bid i a j p) ≡ None
  bid_off i j a k l p n = grind (arith, nat_tests)

  length-put2 : (f : ℕ → ℕ → List ℤ) (i j : ℕ) (v : List ℤ) (k l : ℕ) → length (put2 f i j v k l) ≡ put2 (λ x y. length (f x y)) i j (length v) k l
  length-put2 f i j v k l = elim (cases_both k i l j) [ inl q ↦ rw (put2_at f i j v k l q.0 q.1, put2_at (λ x y. length (f x y)) i j (length v) k l q.0 q.1) | inr n ↦ rw (put2_off f i j v k l n, put2_off (λ x y. length (f x y)) i j (length v) k l n) ]

  pub bids_sent : (t : To) (i a j : ℕ) (p : ℤ) (y : ℕ) (r : ℕ) → t ≡ To.Object (j % g.shards) → y ≡ i % g.shards
      → (k l : ℕ) → bids_in g (send c y (record { to = t; letter = Letter.Bid i a j p; reserve = r } ∷ [])) k l ≡ put2 (bids_in g c) i j (bids_in g c i j + 1) k l
  bids_sent t i a j p y r e f k l =
      let s = view (bid_by i j) c (To.Object (j % g.shards)) (i % g.shards) in
      ap length (pair_sent bid_by (λ k l. To.Object (l % g.shards)) (λ k l. k % g.shards) c (record { to = t; letter = Letter.Bid i a j p; reserve = r }) i j y p (sym e) (sym f)
      (bid_on i j a i j p refl refl) (λ k l n. inl (bid_off i j a k l p n)) k l)
      ∙ (length-put2 (λ x y. view (bid_by x y) c (To.Object (y % g.shards)) (x % g.shards)) i j (s ++ p ∷ []) k l
      ∙ ap (λ (n : ℕ). put2 (bids_in g c) i j n k l) (length-append s (p ∷ [])))

  pub bids_popped : (i a j : ℕ) (p : ℤ) (ls : List Letter) → c (To.Object (j % g.shards)) (i % g.shards) ≡ Letter.Bid i a j p ∷ ls
      → (k l : ℕ) → bids_in g (set_channel c (To.Object (j % g.shards)) (i % g.shards) ls) k l ≡ put2 (bids_in g c) i j (length (filter_map (bid_by i j) ls)) k l
  bids_popped i a j p ls h k l =
      ap length (pair_popped bid_by (λ k l. To.Object (l % g.shards)) (λ k l. k % g.shards) c i j (Letter.Bid i a j p) ls p h
      (bid_on i j a i j p refl refl) (λ k l n. inl (bid_off i j a k l p n)) k l)
      ∙ length-put2 (λ x y. view (bid_by x y) c (To.Object (y % g.shards)) (x % g.shards)) i j (filter_map (bid_by i j) ls) k l

  pub bids_head : (i a j : ℕ) (p : ℤ) (ls : List Letter) → c (To.Object (j % g.shards)) (i % g.shards) ≡ Letter.Bid i a j p ∷ ls → bids_in g c i j ≡ suc (length (filter_map (bid_by i j) ls))
  bids_head i a j p ls h = ap length (view_pop_some (bid_by i j) c (To.Object (j % g.shards)) (i % g.shards) (Letter.Bid i a j p) ls p h (bid_on i j a i j p refl refl))

  price_about-from : (l : Letter) (j : ℕ) (p : ℤ) → told_price l ≡ Some (j, p) → (k : ℕ) → price_about k l ≡ (if j == k then Some p else None)
  price_about-from (Letter.Award x y q) j p e k = grind arith
  price_about-from (Letter.Refused x y q) j p e k = grind arith
  price_about-from (Letter.Outbid x y q) j p e k = grind arith
  price_about-from (Letter.Price y q) j p e k = grind arith
  price_about-from (Letter.Bid x b y q) j p e k = absurd cc
  price_about-from (Letter.First y) j p e k = absurd cc
  price_about-from (Letter.Stop y) j p e k = absurd cc

  price_on : (l : Letter) (j : ℕ) (p : ℤ) → told_price l ≡ Some (j, p) → price_about j l ≡ Some p
  price_on l j p e = price_about-from l j p e j ∙ rw (eq-eqb j j refl)

  price_elsewhere : (l : Letter) (s j : ℕ) (p : ℤ) → told_price l ≡ Some (j, p) → (r k : ℕ) → ((r ≡ s) × (k ≡ j) → ⊥) → (price_about k l ≡ None) ⊎ (same_to (To.Person r) (To.Person s) ≡ false)
  price_elsewhere l s j p e r k n =
      elim (cases_eq r s) [
        | inl h ↦ inl (price_about-from l j p e k ∙ rw (ne_eqb j k (λ q. n (h, sym q))))
        | inr h ↦ inr (ne_eqb r s h)
      ]

  pub news_sent : (o : Out) (s j : ℕ) (p : ℤ) (y : ℕ) → told_price o.letter ≡ Some (j, p) → o.to ≡ To.Person s → y ≡ g.shards + j % g.shards
      → (r k : ℕ) → news_in g (send c y (o ∷ [])) r k ≡ put2 (news_in g c) s j (news_in g c s j ++ p ∷ []) r k
  news_sent o s j p y e t x =
      pair_sent (λ r k. price_about k) (λ r k. To.Person r) (λ r k. g.shards + k % g.shards) c o s j y p (sym t) (sym x) (price_on o.letter j p e)
      (λ r k n. rw t (price_elsewhere o.letter s j p e r k n))

  pub news_popped : (l : Letter) (ls : List Letter) (s j : ℕ) (p : ℤ) → told_price l ≡ Some (j, p) → c (To.Person s) (g.shards + j % g.shards) ≡ l ∷ ls
      → (r k : ℕ) → news_in g (set_channel c (To.Person s) (g.shards + j % g.shards) ls) r k ≡ put2 (news_in g c) s j (filter_map (price_about j) ls) r k
  news_popped l ls s j p e h =
      pair_popped (λ r k. price_about k) (λ r k. To.Person r) (λ r k. g.shards + k % g.shards) c s j l ls p h (price_on l j p e) (price_elsewhere l s j p e)

  pub news_head : (l : Letter) (ls : List Letter) (s j : ℕ) (p : ℤ) → told_price l ≡ Some (j, p) → c (To.Person s) (g.shards + j % g.shards) ≡ l ∷ ls → news_in g c s j ≡ p ∷ filter_map (price_about j) ls
  news_head l ls s j p e h = view_pop_some (price_about j) c (To.Person s) (g.shards + j % g.shards) l ls p h (price_on l j p e)

  pub news_dropped : (hs : List Letter) (l : Letter) (ls : List Letter) (s j : ℕ) (p : ℤ) → told_price l ≡ Some (j, p) → c (To.Person s) (g.shards + j % g.shards) ≡ hs ++ l ∷ ls
      → (r k : ℕ) → news_in g (set_channel c (To.Person s) (g.shards + j % g.shards) (hs ++ ls)) r k ≡ put2 (news_in g c) s j (filter_map (price_about j) hs ++ filter_map (price_about j) ls) r k
  news_dropped hs l ls s j p e h =
      pair_dropped (λ r k. price_about k) (λ r k. To.Person r) (λ r k. g.shards + k % g.shards) c s j hs l ls h (price_elsewhere l s j p e)

  pub news_middle : (hs : List Letter) (l : Letter) (ls : List Letter) (s j : ℕ) (p : ℤ) → told_price l ≡ Some (j, p) → c (To.Person s) (g.shards + j % g.shards) ≡ hs ++ l ∷ ls
      → news_in g c s j ≡ filter_map (price_about j) hs ++ p ∷ filter_map (price_about j) ls
  news_middle hs l ls s j p e h = view_drop_some (price_about j) c (To.Person s) (g.shards + j % g.shards) hs l ls p h (price_on l j p e)
