-- The prices of objects after a letter is sent, taken or dropped.
use Rattle.std.proofs.Common.{ℕ, ℤ, ◌≤ℤ◌, ◌+◌, ◌%◌, ◌≡◌, refl, List, [], ◌∷◌, ◌++◌, Some, None, filter_map, ap}
use Rattle.auc_letters.specs.declared.letter.Letter.{Letter}
use Rattle.auc_letters.specs.declared.out.Out.{Out}
use Rattle.auc_letters.specs.declared.out.To.{To}
use Rattle.auc_model.specs.Letters.{told_price}
use Rattle.auc_model.specs.Prices.{NeverFalls, learn, lose, raise, tell}
use Rattle.auc_model.specs.Put.{put, put2}
use Rattle.auc_model.specs.Channels.{Channels, price_about, prices, send, set_channel}
use Rattle.auc_model.specs.World.{Phase, World}
use Rattle.auc_model.proofs.Prices.{keeps_learn, keeps_lose, keeps_raise, keeps_tell, no_fell}
use Rattle.auc_model.proofs.Pairs.{never_falls_like, news_dropped, news_head, news_middle, news_popped, news_sent}
use Rattle.auc_model.proofs.Views.{view-send_none, view-set_same, view_pop_none}

-- a letter with no price
abbrev pub Priceless : Letter → Type 0
Priceless l = (j : ℕ) → price_about j l ≡ None

module _ (g : Phase) (w v : World) (c : Channels) where
  pub price_kept : v.price ≡ w.price → v.copy ≡ w.copy → NeverFalls (prices g w c) → NeverFalls (prices g v c)
  price_kept e h p = never_falls_like (prices g w c) (prices g v c) (λ j. ap (λ (f : ℕ → ℤ). f j) e) (λ s j. ap (λ (f : ℕ → ℕ → ℤ). f s j) h) (λ s j. refl) p

  pub price_sent : (o : Out) (y : ℕ) → Priceless o.letter → NeverFalls (prices g w c) → NeverFalls (prices g w (send c y (o ∷ [])))
  price_sent o y n p =
      never_falls_like (prices g w c) (prices g w (send c y (o ∷ []))) (λ j. refl) (λ s j. refl)
      (λ s j. view-send_none (price_about j) c y o (n j) (To.Person s) (g.shards + j % g.shards)) p

  pub price_taken : (t : To) (x : ℕ) (l : Letter) (ls : List Letter) → c t x ≡ l ∷ ls → Priceless l → NeverFalls (prices g w c) → NeverFalls (prices g w (set_channel c t x ls))
  price_taken t x l ls e n p =
      never_falls_like (prices g w c) (prices g w (set_channel c t x ls)) (λ j. refl) (λ s j. refl)
      (λ s j. view-set_same (price_about j) c t x ls (view_pop_none (price_about j) c t x l ls e (n j)) (To.Person s) (g.shards + j % g.shards)) p

  pub price_is_told : (o : Out) (s j : ℕ) → o.to ≡ To.Person s → told_price o.letter ≡ Some (j, w.price j) → NeverFalls (prices g w c)
      → NeverFalls (prices g w (send c (g.shards + j % g.shards) (o ∷ [])))
  price_is_told o s j t e p =
      never_falls_like (tell (prices g w c) s j) (prices g w (send c (g.shards + j % g.shards) (o ∷ []))) (λ k. refl) (λ r k. refl)
      (news_sent g c o s j (w.price j) (g.shards + j % g.shards) e t refl) (keeps_tell (prices g w c) s j p)

  pub price_raised : (j : ℕ) (p : ℤ) → w.price j ≤ℤ p → v.price ≡ put w.price j p → v.copy ≡ w.copy → NeverFalls (prices g w c) → NeverFalls (prices g v c)
  price_raised j p h e f q =
      never_falls_like (raise (prices g w c) j p) (prices g v c) (λ k. ap (λ (f : ℕ → ℤ). f k) e) (λ s k. ap (λ (f : ℕ → ℕ → ℤ). f s k) f) (λ s k. refl) (keeps_raise (prices g w c) j p h q)

  pub price_learned : (l : Letter) (ls : List Letter) (s j : ℕ) (p : ℤ) → told_price l ≡ Some (j, p) → c (To.Person s) (g.shards + j % g.shards) ≡ l ∷ ls
      → v.price ≡ w.price → v.copy ≡ put2 w.copy s j p → NeverFalls (prices g w c) → NeverFalls (prices g v (set_channel c (To.Person s) (g.shards + j % g.shards) ls))
  price_learned l ls s j p e h f m q =
      never_falls_like (learn (prices g w c) s j p (filter_map (price_about j) ls)) (prices g v (set_channel c (To.Person s) (g.shards + j % g.shards) ls))
      (λ k. ap (λ (f : ℕ → ℤ). f k) f) (λ r k. ap (λ (f : ℕ → ℕ → ℤ). f r k) m)
      (news_popped g c l ls s j p e h) (keeps_learn (prices g w c) s j p (filter_map (price_about j) ls) (news_head g c l ls s j p e h) q)

  pub price_lost : (hs : List Letter) (l : Letter) (ls : List Letter) (s j : ℕ) (p : ℤ) → told_price l ≡ Some (j, p) → c (To.Person s) (g.shards + j % g.shards) ≡ hs ++ l ∷ ls
      → NeverFalls (prices g w c) → NeverFalls (prices g w (set_channel c (To.Person s) (g.shards + j % g.shards) (hs ++ ls)))
  price_lost hs l ls s j p e h q =
      never_falls_like (lose (prices g w c) s j (filter_map (price_about j) hs ++ filter_map (price_about j) ls)) (prices g w (set_channel c (To.Person s) (g.shards + j % g.shards) (hs ++ ls)))
      (λ k. refl) (λ r k. refl) (news_dropped g c hs l ls s j p e h)
      (keeps_lose (prices g w c) s j (filter_map (price_about j) hs) p (filter_map (price_about j) ls) (news_middle g c hs l ls s j p e h) q)

  -- the price of the first letter under way is no less than the copy
  pub learns_no_less : (l : Letter) (ls : List Letter) (s j : ℕ) (p : ℤ) → told_price l ≡ Some (j, p) → c (To.Person s) (g.shards + j % g.shards) ≡ l ∷ ls
      → NeverFalls (prices g w c) → w.copy s j ≤ℤ p
  learns_no_less l ls s j p e h q = no_fell (prices g w c) s j p (filter_map (price_about j) ls) (news_head g c l ls s j p e h) q
