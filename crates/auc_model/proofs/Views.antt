-- What a function sees of the letters on a channel, before and after a change of the channel.
use Rattle.std.proofs.Common.{ℕ, ◌≡◌, ◌≢◌, refl, arith, true, false, List, [], ◌∷◌, ◌++◌, Option, Some, None, filter_map, append_assoc, ◌⊎◌, inl, inr, sym, ◌∙◌}
use Rattle.std.specs.Prelude.{◌==◌, ◌&&◌}
use Rattle.std.proofs.lemmas.Bool.{cases_eq, cases_Bool, eq-eqb, ne_eqb}
use Rattle.std.proofs.lemmas.List.{append-nil}
use Rattle.std.proofs.lemmas.List.Elements.{filter_map-append}
use Rattle.std.proofs.lemmas.Bool.Decides.{nat_tests}
use Rattle.auc_letters.specs.declared.letter.Letter.{Letter}
use Rattle.auc_letters.specs.declared.out.Out.{Out}
use Rattle.auc_letters.specs.declared.out.To.{To}
use Rattle.auc_model.specs.Letters.{letters_to, same_to}
use Rattle.auc_model.specs.Put.{put2}
use Rattle.auc_model.specs.Channels.{Channels, send, set_channel, view}
use Rattle.auc_model.proofs.Channels.{both_from, both_hold, same_to_self, set_channel_here, set_channel_off}

pub put2_at : {X : Type 0} (f : ℕ → ℕ → X) (i j : ℕ) (v : X) (k l : ℕ) → k ≡ i → l ≡ j → put2 f i j v k l ≡ v
put2_at f i j v k l e h = grind (arith, nat_tests)

pub put2_off : {X : Type 0} (f : ℕ → ℕ → X) (i j : ℕ) (v : X) (k l : ℕ) → ((k ≡ i) × (l ≡ j) → ⊥) → put2 f i j v k l ≡ f k l
put2_off f i j v k l n = grind (arith, nat_tests)

pub cases_both : (k i l j : ℕ) → ((k ≡ i) × (l ≡ j)) ⊎ ((k ≡ i) × (l ≡ j) → ⊥)
cases_both k i l j =
    elim (cases_eq k i) [
      | inl e ↦ elim (cases_eq l j) [ inl f ↦ inl (e, f) | inr f ↦ inr (λ p. f p.1) ]
      | inr e ↦ inr (λ p. e p.0)
    ]

-- What a function f sees of the letters on a channel, where it sees one letter at most as Some
module _ {Y : Type 0} (f : Letter → Option Y) (c : Channels) where
  send_here : (y : ℕ) (o : Out) (t : To) (x : ℕ) → x ≡ y → view f (send c y (o ∷ [])) t x ≡ view f c t x ++ filter_map f (letters_to t (o ∷ []))
  send_here y o t x e = rw (eq-eqb x y e) (filter_map-append f (c t x) (letters_to t (o ∷ [])))

  send_off : (y : ℕ) (o : Out) (t : To) (x : ℕ) → x ≢ y → view f (send c y (o ∷ [])) t x ≡ view f c t x
  send_off y o t x e = rw (ne_eqb x y e)

  unseen : (o : Out) (t : To) → f o.letter ≡ None → filter_map f (letters_to t (o ∷ [])) ≡ []
  unseen o t e = elim (cases_Bool (same_to t o.to)) [ inl h ↦ rw (h, e) | inr h ↦ rw h ]

  -- a letter is sent
  pub view-send_none : (y : ℕ) (o : Out) → f o.letter ≡ None → (t : To) (x : ℕ) → view f (send c y (o ∷ [])) t x ≡ view f c t x
  view-send_none y o e t x =
      elim (cases_eq x y) [ inl h ↦ send_here y o t x h ∙ rw (unseen o t e) (append-nil (view f c t x)) | inr h ↦ send_off y o t x h ]

  pub view-send_some : (y : ℕ) (o : Out) (z : Y) → f o.letter ≡ Some z → (t : To) (x : ℕ) → t ≡ o.to → x ≡ y → view f (send c y (o ∷ [])) t x ≡ view f c t x ++ z ∷ []
  view-send_some y o z e t x h k =
      let same : same_to t o.to ≡ true = rw h (same_to_self o.to) in
      send_here y o t x k ∙ rw (same, e)

  pub view-send_other : (y : ℕ) (o : Out) (t : To) (x : ℕ) → same_to t o.to ≡ false → view f (send c y (o ∷ [])) t x ≡ view f c t x
  view-send_other y o t x e = elim (cases_eq x y) [ inl h ↦ send_here y o t x h ∙ rw e (append-nil (view f c t x)) | inr h ↦ send_off y o t x h ]

  -- the channel gets other letters, of which f sees the same
  pub view-set_same : (u : To) (y : ℕ) (ls : List Letter) → filter_map f ls ≡ filter_map f (c u y) → (t : To) (x : ℕ) → view f (set_channel c u y ls) t x ≡ view f c t x
  view-set_same u y ls e t x = elim (cases_Bool (same_to t u && (x == y))) [ inl h ↦ (let p = both_from t u x y h in rw (set_channel_here c u y ls t x h, p.0, p.1) e) | inr h ↦ rw (set_channel_off c u y ls t x h) ]

  pub view-set_here : (u : To) (y : ℕ) (ls : List Letter) (t : To) (x : ℕ) → t ≡ u → x ≡ y → view f (set_channel c u y ls) t x ≡ filter_map f ls
  view-set_here u y ls t x e h = rw (set_channel_here c u y ls t x (both_hold t u x y e h))

  pub view-set_other : (u : To) (y : ℕ) (ls : List Letter) (t : To) (x : ℕ) → same_to t u ≡ false → view f (set_channel c u y ls) t x ≡ view f c t x
  view-set_other u y ls t x e = rw e

  -- the first letter goes
  pub view_pop_none : (u : To) (y : ℕ) (l : Letter) (ls : List Letter) → c u y ≡ l ∷ ls → f l ≡ None → filter_map f ls ≡ filter_map f (c u y)
  view_pop_none u y l ls e n = rw (e, n)

  pub view_pop_some : (u : To) (y : ℕ) (l : Letter) (ls : List Letter) (z : Y) → c u y ≡ l ∷ ls → f l ≡ Some z → view f c u y ≡ z ∷ filter_map f ls
  view_pop_some u y l ls z e n = rw (e, n)

  -- a letter in the middle goes
  pub view_drop_none : (u : To) (y : ℕ) (hs : List Letter) (l : Letter) (ls : List Letter) → c u y ≡ hs ++ l ∷ ls → f l ≡ None → filter_map f (hs ++ ls) ≡ filter_map f (c u y)
  view_drop_none u y hs l ls e n = rw (e, filter_map-append f hs ls, filter_map-append f hs (l ∷ ls), n)

  pub view_drop_some : (u : To) (y : ℕ) (hs : List Letter) (l : Letter) (ls : List Letter) (z : Y) → c u y ≡ hs ++ l ∷ ls → f l ≡ Some z → view f c u y ≡ filter_map f hs ++ z ∷ filter_map f ls
  view_drop_some u y hs l ls z e n = rw (e, filter_map-append f hs (l ∷ ls), n)

-- two letters are sent one after the other
pub send_two : (c : Channels) (y : ℕ) (o p : Out) → send c y (o ∷ p ∷ []) ≡ send (send c y (o ∷ [])) y (p ∷ [])
send_two c y o p = λ i t x. at t x i
  where
    parts : (t : To) → letters_to t (o ∷ p ∷ []) ≡ letters_to t (o ∷ []) ++ letters_to t (p ∷ [])
    parts t = elim (cases_Bool (same_to t o.to)) [ inl h ↦ rw h | inr h ↦ rw h ]

    at : (t : To) (x : ℕ) → send c y (o ∷ p ∷ []) t x ≡ send (send c y (o ∷ [])) y (p ∷ []) t x
    at t x =
        elim (cases_eq x y) [
          | inl h ↦ rw (eq-eqb x y h, parts t) (sym (append_assoc (c t x) (letters_to t (o ∷ [])) (letters_to t (p ∷ []))))
          | inr h ↦ rw (ne_eqb x y h)
        ]

-- A view for each pair of numbers, each on its own channel
module _ {Y : Type 0} (F : ℕ → ℕ → Letter → Option Y) (T : ℕ → ℕ → To) (X : ℕ → ℕ → ℕ) (c : Channels) where
  abbrev pub seen : ℕ → ℕ → List Y
  seen k l = view (F k l) c (T k l) (X k l)

  -- a letter that is sent is last on the channel of i and j, and on no other
  pub pair_sent : (o : Out) (i j : ℕ) (y : ℕ) (a : Y) → T i j ≡ o.to → X i j ≡ y → F i j o.letter ≡ Some a
      → ((k l : ℕ) → ((k ≡ i) × (l ≡ j) → ⊥) → (F k l o.letter ≡ None) ⊎ (same_to (T k l) o.to ≡ false))
      → (k l : ℕ) → view (F k l) (send c y (o ∷ [])) (T k l) (X k l) ≡ put2 seen i j (seen i j ++ a ∷ []) k l
  pair_sent o i j y a e1 e2 e3 others k l = elim (cases_both k i l j) [ inl p ↦ at k l p.0 p.1 | inr n ↦ off k l n ]
    where
      at : (k l : ℕ) → k ≡ i → l ≡ j → view (F k l) (send c y (o ∷ [])) (T k l) (X k l) ≡ put2 seen i j (seen i j ++ a ∷ []) k l
      at k l p q = rw (put2_at seen i j (seen i j ++ a ∷ []) k l p q, p, q) (view-send_some (F i j) c y o a e3 (T i j) (X i j) e1 e2)

      off : (k l : ℕ) → ((k ≡ i) × (l ≡ j) → ⊥) → view (F k l) (send c y (o ∷ [])) (T k l) (X k l) ≡ put2 seen i j (seen i j ++ a ∷ []) k l
      off k l n =
          rw (put2_off seen i j (seen i j ++ a ∷ []) k l n)
          (elim (others k l n) [ inl h ↦ view-send_none (F k l) c y o h (T k l) (X k l) | inr h ↦ view-send_other (F k l) c y o (T k l) (X k l) h ])

  -- the first letter on the channel of i and j goes
  pub pair_popped : (i j : ℕ) (l : Letter) (ls : List Letter) (z : Y) → c (T i j) (X i j) ≡ l ∷ ls → F i j l ≡ Some z
      → ((k m : ℕ) → ((k ≡ i) × (m ≡ j) → ⊥) → (F k m l ≡ None) ⊎ (same_to (T k m) (T i j) ≡ false))
      → (k m : ℕ) → view (F k m) (set_channel c (T i j) (X i j) ls) (T k m) (X k m) ≡ put2 seen i j (filter_map (F i j) ls) k m
  pair_popped i j l ls z e1 e2 others k m = elim (cases_both k i m j) [ inl p ↦ at k m p.0 p.1 | inr n ↦ off k m n ]
    where
      at : (k m : ℕ) → k ≡ i → m ≡ j → view (F k m) (set_channel c (T i j) (X i j) ls) (T k m) (X k m) ≡ put2 seen i j (filter_map (F i j) ls) k m
      at k m p q = rw (put2_at seen i j (filter_map (F i j) ls) k m p q, p, q) (view-set_here (F i j) c (T i j) (X i j) ls (T i j) (X i j) refl refl)

      off : (k m : ℕ) → ((k ≡ i) × (m ≡ j) → ⊥) → view (F k m) (set_channel c (T i j) (X i j) ls) (T k m) (X k m) ≡ put2 seen i j (filter_map (F i j) ls) k m
      off k m n =
          rw (put2_off seen i j (filter_map (F i j) ls) k m n)
          (elim (others k m n) [
            | inl h ↦ view-set_same (F k m) c (T i j) (X i j) ls (view_pop_none (F k m) c (T i j) (X i j) l ls e1 h) (T k m) (X k m)
            | inr h ↦ view-set_other (F k m) c (T i j) (X i j) ls (T k m) (X k m) h
          ])

  -- a letter on the channel of i and j is removed, from any place
  pub pair_dropped : (i j : ℕ) (hs : List Letter) (l : Letter) (ls : List Letter) → c (T i j) (X i j) ≡ hs ++ l ∷ ls
      → ((k m : ℕ) → ((k ≡ i) × (m ≡ j) → ⊥) → (F k m l ≡ None) ⊎ (same_to (T k m) (T i j) ≡ false))
      → (k m : ℕ) → view (F k m) (set_channel c (T i j) (X i j) (hs ++ ls)) (T k m) (X k m) ≡ put2 seen i j (filter_map (F i j) hs ++ filter_map (F i j) ls) k m
  pair_dropped i j hs l ls e1 others k m = elim (cases_both k i m j) [ inl p ↦ at k m p.0 p.1 | inr n ↦ off k m n ]
    where
      at : (k m : ℕ) → k ≡ i → m ≡ j → view (F k m) (set_channel c (T i j) (X i j) (hs ++ ls)) (T k m) (X k m) ≡ put2 seen i j (filter_map (F i j) hs ++ filter_map (F i j) ls) k m
      at k m p q = rw (put2_at seen i j (filter_map (F i j) hs ++ filter_map (F i j) ls) k m p q, p, q) (view-set_here (F i j) c (T i j) (X i j) (hs ++ ls) (T i j) (X i j) refl refl ∙ filter_map-append (F i j) hs ls)

      off : (k m : ℕ) → ((k ≡ i) × (m ≡ j) → ⊥) → view (F k m) (set_channel c (T i j) (X i j) (hs ++ ls)) (T k m) (X k m) ≡ put2 seen i j (filter_map (F i j) hs ++ filter_map (F i j) ls) k m
      off k m n =
          rw (put2_off seen i j (filter_map (F i j) hs ++ filter_map (F i j) ls) k m n)
          (elim (others k m n) [
            | inl h ↦ view-set_same (F k m) c (T i j) (X i j) (hs ++ ls) (view_drop_none (F k m) c (T i j) (X i j) hs l ls e1 h) (T k m) (X k m)
            | inr h ↦ view-set_other (F k m) c (T i j) (X i j) (hs ++ ls) (T k m) (X k m) h
          ])
