-- Sums over numbers and over all channels, and how one change moves them.
use Rattle.std.proofs.Common.{ℕ, ◌+◌, ◌<◌, ◌≡◌, ◌≢◌, refl, arith, true, false, List, [], ◌∷◌, sum_by, inl, inr, ap, ◌∙◌}
use Rattle.std.specs.Prelude.{◌==◌}
use Rattle.std.proofs.lemmas.Bool.{cases_eq, eq-eqb, ne_eqb, and_left, and_right}
use Rattle.std.proofs.lemmas.List.Sums.{sum_by-append, sum_by_push}
use Rattle.auc_letters.specs.declared.letter.Letter.{Letter}
use Rattle.auc_letters.specs.declared.out.Out.{Out}
use Rattle.auc_letters.specs.declared.out.To.{To}
use Rattle.auc_model.specs.Counts.{everywhere, total}
use Rattle.auc_model.specs.Letters.{same_to}
use Rattle.auc_model.specs.Channels.{Channels, send, set_channel}
use Rattle.auc_model.specs.World.{Phase, senders}
use Rattle.auc_model.proofs.Sums.{total_change, total_same, total_zero}
use Rattle.auc_model.proofs.Channels.{both_hold, set_channel_here, set_channel_off}

-- the box of a mail is there
abbrev pub IsBox : Phase → To → Type 0
IsBox g (To.Person s) = s < g.shards
IsBox g (To.Object q) = q < g.shards
IsBox g To.Hub = Unit {0}

-- one letter is sent, to a box that is there, by a sender that is there
module _ (g : Phase) (f : Letter → ℕ) (c : Channels) (x : ℕ) (o : Out) (in_range : x < senders g) where
  one : ℕ
  one = f o.letter

  channel_sent : (t : To) (y : ℕ) → y ≢ x → sum_by f (send c x (o ∷ []) t y) ≡ sum_by f (c t y)
  channel_sent t y n = rw (ne_eqb y x n)

  channel_there : (t : To) → same_to t o.to ≡ true → sum_by f (send c x (o ∷ []) t x) ≡ sum_by f (c t x) + f o.letter
  channel_there t e = rw (eq-eqb x x refl, e) (sum_by_push f (c t x) o.letter)

  channel_off : (t : To) → same_to t o.to ≡ false → (y : ℕ) → sum_by f (send c x (o ∷ []) t y) ≡ sum_by f (c t y)
  channel_off t e y = elim (cases_eq y x) [ inl p ↦ rw (eq-eqb y x p, e) (sum_by-append f (c t y) [] ∙ omega arith) | inr p ↦ channel_sent t y p ]

  row_there : (t : To) → same_to t o.to ≡ true → total (λ y. sum_by f (send c x (o ∷ []) t y)) (senders g) ≡ total (λ y. sum_by f (c t y)) (senders g) + f o.letter
  row_there t e =
      let d = total_change (λ y. sum_by f (c t y)) (λ y. sum_by f (send c x (o ∷ []) t y)) (senders g) x in_range (channel_sent t) in
      let s = channel_there t e in
      omega (arith, d, s)

  row_off : (t : To) → same_to t o.to ≡ false → total (λ y. sum_by f (send c x (o ∷ []) t y)) (senders g) ≡ total (λ y. sum_by f (c t y)) (senders g)
  row_off t e = total_same (λ y. sum_by f (c t y)) (λ y. sum_by f (send c x (o ∷ []) t y)) (senders g) (channel_off t e)

  sent_to : (t : To) → o.to ≡ t → IsBox g t → everywhere g f (send c x (o ∷ [])) ≡ everywhere g f c + f o.letter
  sent_to (To.Object q) e h =
      let d : Channels = send c x (o ∷ []) in
      let off : (r : ℕ) → r ≢ q → total (λ y. sum_by f (d (To.Object r) y)) (senders g) ≡ total (λ y. sum_by f (c (To.Object r) y)) (senders g) = λ r n. row_off (To.Object r) (rw e (ne_eqb r q n)) in
      let there = row_there (To.Object q) (rw e (eq-eqb q q refl)) in
      let a = total_change (λ r. total (λ y. sum_by f (c (To.Object r) y)) (senders g)) (λ r. total (λ y. sum_by f (d (To.Object r) y)) (senders g)) g.shards q h off in
      let b = total_same (λ r. total (λ y. sum_by f (c (To.Person r) y)) (senders g)) (λ r. total (λ y. sum_by f (d (To.Person r) y)) (senders g)) g.shards (λ r. row_off (To.Person r) (rw e)) in
      let i = row_off To.Hub (rw e) in
      omega (arith, a, b, i, there)
  sent_to (To.Person q) e h =
      let d : Channels = send c x (o ∷ []) in
      let off : (r : ℕ) → r ≢ q → total (λ y. sum_by f (d (To.Person r) y)) (senders g) ≡ total (λ y. sum_by f (c (To.Person r) y)) (senders g) = λ r n. row_off (To.Person r) (rw e (ne_eqb r q n)) in
      let there = row_there (To.Person q) (rw e (eq-eqb q q refl)) in
      let a = total_change (λ r. total (λ y. sum_by f (c (To.Person r) y)) (senders g)) (λ r. total (λ y. sum_by f (d (To.Person r) y)) (senders g)) g.shards q h off in
      let b = total_same (λ r. total (λ y. sum_by f (c (To.Object r) y)) (senders g)) (λ r. total (λ y. sum_by f (d (To.Object r) y)) (senders g)) g.shards (λ r. row_off (To.Object r) (rw e)) in
      let i = row_off To.Hub (rw e) in
      omega (arith, a, b, i, there)
  sent_to To.Hub e h =
      let d : Channels = send c x (o ∷ []) in
      let there = row_there To.Hub (rw e) in
      let a = total_same (λ r. total (λ y. sum_by f (c (To.Object r) y)) (senders g)) (λ r. total (λ y. sum_by f (d (To.Object r) y)) (senders g)) g.shards (λ r. row_off (To.Object r) (rw e)) in
      let b = total_same (λ r. total (λ y. sum_by f (c (To.Person r) y)) (senders g)) (λ r. total (λ y. sum_by f (d (To.Person r) y)) (senders g)) g.shards (λ r. row_off (To.Person r) (rw e)) in
      omega (arith, a, b, there)

  pub everywhere_sent : IsBox g o.to → everywhere g f (send c x (o ∷ [])) ≡ everywhere g f c + f o.letter
  everywhere_sent h = sent_to o.to refl h

-- one channel gets other letters
module _ (g : Phase) (f : Letter → ℕ) (c : Channels) (x : ℕ) (ls : List Letter) (in_range : x < senders g) where
  module _ (t : To) where
    set_there : sum_by f (set_channel c t x ls t x) ≡ sum_by f ls
    set_there = ap (λ (xs : List Letter). sum_by f xs) (set_channel_here c t x ls t x (both_hold t t x x refl refl))

    set_sender : (u : To) (y : ℕ) → y ≢ x → sum_by f (set_channel c t x ls u y) ≡ sum_by f (c u y)
    set_sender u y n = ap (λ (xs : List Letter). sum_by f xs) (set_channel_off c t x ls u y (and_right (same_to u t) (y == x) (ne_eqb y x n)))

    set_box : (u : To) → same_to u t ≡ false → (y : ℕ) → sum_by f (set_channel c t x ls u y) ≡ sum_by f (c u y)
    set_box u e y = ap (λ (xs : List Letter). sum_by f xs) (set_channel_off c t x ls u y (and_left (same_to u t) (y == x) e))

    set_row_there : total (λ y. sum_by f (set_channel c t x ls t y)) (senders g) + sum_by f (c t x) ≡ total (λ y. sum_by f (c t y)) (senders g) + sum_by f ls
    set_row_there =
        let d = total_change (λ y. sum_by f (c t y)) (λ y. sum_by f (set_channel c t x ls t y)) (senders g) x in_range (set_sender t) in
        let s = set_there in
        omega (arith, d, s)

    set_row_off : (u : To) → same_to u t ≡ false → total (λ y. sum_by f (set_channel c t x ls u y)) (senders g) ≡ total (λ y. sum_by f (c u y)) (senders g)
    set_row_off u e = total_same (λ y. sum_by f (c u y)) (λ y. sum_by f (set_channel c t x ls u y)) (senders g) (set_box u e)

  pub everywhere_set : (t : To) → IsBox g t → everywhere g f (set_channel c t x ls) + sum_by f (c t x) ≡ everywhere g f c + sum_by f ls
  everywhere_set (To.Object q) h =
      let d : Channels = set_channel c (To.Object q) x ls in
      let off : (r : ℕ) → r ≢ q → total (λ y. sum_by f (d (To.Object r) y)) (senders g) ≡ total (λ y. sum_by f (c (To.Object r) y)) (senders g) = λ r n. set_row_off (To.Object q) (To.Object r) (ne_eqb r q n) in
      let there = set_row_there (To.Object q) in
      let a = total_change (λ r. total (λ y. sum_by f (c (To.Object r) y)) (senders g)) (λ r. total (λ y. sum_by f (d (To.Object r) y)) (senders g)) g.shards q h off in
      let b = total_same (λ r. total (λ y. sum_by f (c (To.Person r) y)) (senders g)) (λ r. total (λ y. sum_by f (d (To.Person r) y)) (senders g)) g.shards (λ r. set_row_off (To.Object q) (To.Person r) refl) in
      let i = set_row_off (To.Object q) To.Hub refl in
      omega (arith, a, b, i, there)
  everywhere_set (To.Person q) h =
      let d : Channels = set_channel c (To.Person q) x ls in
      let off : (r : ℕ) → r ≢ q → total (λ y. sum_by f (d (To.Person r) y)) (senders g) ≡ total (λ y. sum_by f (c (To.Person r) y)) (senders g) = λ r n. set_row_off (To.Person q) (To.Person r) (ne_eqb r q n) in
      let there = set_row_there (To.Person q) in
      let a = total_change (λ r. total (λ y. sum_by f (c (To.Person r) y)) (senders g)) (λ r. total (λ y. sum_by f (d (To.Person r) y)) (senders g)) g.shards q h off in
      let b = total_same (λ r. total (λ y. sum_by f (c (To.Object r) y)) (senders g)) (λ r. total (λ y. sum_by f (d (To.Object r) y)) (senders g)) g.shards (λ r. set_row_off (To.Person q) (To.Object r) refl) in
      let i = set_row_off (To.Person q) To.Hub refl in
      omega (arith, a, b, i, there)
  everywhere_set To.Hub h =
      let d : Channels = set_channel c To.Hub x ls in
      let there = set_row_there To.Hub in
      let a = total_same (λ r. total (λ y. sum_by f (c (To.Object r) y)) (senders g)) (λ r. total (λ y. sum_by f (d (To.Object r) y)) (senders g)) g.shards (λ r. set_row_off To.Hub (To.Object r) refl) in
      let b = total_same (λ r. total (λ y. sum_by f (c (To.Person r) y)) (senders g)) (λ r. total (λ y. sum_by f (d (To.Person r) y)) (senders g)) g.shards (λ r. set_row_off To.Hub (To.Person r) refl) in
      omega (arith, a, b, there)

-- nothing is on any channel
pub everywhere_nothing : (g : Phase) (f : Letter → ℕ) (c : Channels) → ((t : To) (x : ℕ) → c t x ≡ []) → everywhere g f c ≡ 0
everywhere_nothing g f c none =
    let z : (t : To) (x : ℕ) → sum_by f (c t x) ≡ 0 = λ t x. ap (λ (ls : List Letter). sum_by f ls) (none t x) in
    let a = total_zero (λ q. total (λ x. sum_by f (c (To.Object q) x)) (senders g)) g.shards (λ q. total_zero (λ x. sum_by f (c (To.Object q) x)) (senders g) (z (To.Object q))) in
    let b = total_zero (λ q. total (λ x. sum_by f (c (To.Person q) x)) (senders g)) g.shards (λ q. total_zero (λ x. sum_by f (c (To.Person q) x)) (senders g) (z (To.Person q))) in
    let d = total_zero (λ x. sum_by f (c To.Hub x)) (senders g) (z To.Hub) in
    omega (arith, a, b, d)
