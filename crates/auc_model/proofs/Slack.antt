-- Epsilon-complementary slackness of an arc while prices rise, and of a bid by the rule.
use Rattle.std.proofs.Common.{ℕ, ℤ, ◌+ℤ◌, ◌-ℤ◌, ◌≤ℤ◌, ◌<◌, ◌≡◌, ◌≢◌, refl, arith, List, [], ◌∷◌, ◌++◌, length, inl, inr, ap, ◌&&◌}
use Rattle.std.specs.Prelude.{◌==◌, slice_index_or}
use Rattle.std.proofs.lemmas.Bool.{cases_eq, cases_Bool, eq-eqb, ne_eqb}
use Rattle.std.proofs.lemmas.Int.{ints}
use Rattle.auc_graph.specs.Bid.{IsBid, value}
use Rattle.auc_graph.specs.declared.rows.RowArc.{RowArc}
use Rattle.auc_letters.specs.declared.letter.Letter.{Letter}
use Rattle.auc_letters.specs.declared.out.Out.{Out}
use Rattle.auc_letters.specs.declared.out.To.{To}
use Rattle.auc_model.specs.SlackBids.{AllLetters, SlackAt}
use Rattle.auc_model.specs.Letters.{letters_to, same_to}
use Rattle.auc_model.specs.Put.{put}
use Rattle.auc_model.specs.Start.{Lawful}
use Rattle.auc_model.specs.Channels.{Each, Channels, send, set_channel}
use Rattle.auc_model.specs.World.{Phase, scale}
use Rattle.auc_model.proofs.Places.{put_at, put_off}
use Rattle.auc_model.proofs.Routes.{each_append, each_drop}
use Rattle.auc_model.proofs.Channels.{set_channel_here, set_channel_off}

module _ (P : Letter → Type 0) (c : Channels) (all : AllLetters P c) where
  pub all_sent : (o : Out) (y : ℕ) → P o.letter → AllLetters P (send c y (o ∷ []))
  all_sent o y r t x = elim (cases_eq x y) [ inl e ↦ here t x e | inr e ↦ rw (ne_eqb x y e) (all t x) ]
    where
      one : (t : To) → Each P (letters_to t (o ∷ []))
      one t = elim (cases_Bool (same_to t o.to)) [ inl h ↦ rw h (r, tt) | inr h ↦ rw h tt ]

      here : (t : To) (x : ℕ) → x ≡ y → Each P (send c y (o ∷ []) t x)
      here t x e = rw (eq-eqb x y e) (each_append P (c t x) (letters_to t (o ∷ [])) (all t x) (one t))

  pub all_gone : (t : To) (x : ℕ) (hs : List Letter) (l : Letter) (ls : List Letter) → c t x ≡ hs ++ l ∷ ls → AllLetters P (set_channel c t x (hs ++ ls))
  all_gone t x hs l ls e u y =
      elim (cases_Bool (same_to u t && (y == x))) [
        | inl h ↦ (rw (set_channel_here c t x (hs ++ ls) u y h) (each_drop P hs l ls (rw e at (all t x))))
        | inr h ↦ rw (set_channel_off c t x (hs ++ ls) u y h) (all u y)
      ]

pub each_map : {X : Type 0} (P Q : X → Type 0) → ((x : X) → P x → Q x) → (xs : List X) → Each P xs → Each Q xs
each_map P Q f [] p = tt
each_map P Q f (x ∷ xs) p = (f x p.0, each_map P Q f xs p.1)

-- an arc still satisfies it where other prices rise
pub slack_rises : (g : Phase) (p q : ℕ → ℤ) (i place j : ℕ) (amount : ℤ) → ((k : ℕ) → p k ≤ℤ q k) → SlackAt g p i place j amount → SlackAt g q i place j amount
slack_rises g p q i place j amount rise f = record { arc = f.arc; listed = f.listed; leads = f.leads; stands = f.stands; slack = λ k d l. at (slice_index_or (g.row i) k d) (f.slack k d l) }
  where
    a_at : (r : ℕ → ℤ) → put r j amount f.arc.object ≡ amount
    a_at r = put_at r j amount f.arc.object f.leads

    at : (b : RowArc) → value (scale g) (put p j amount) f.arc ≤ℤ (value (scale g) (put p j amount) b +ℤ g.eps) → value (scale g) (put q j amount) f.arc ≤ℤ (value (scale g) (put q j amount) b +ℤ g.eps)
    at b h =
        elim (cases_eq b.object j) [
          | inl e ↦ (let x = a_at p in let y = a_at q in let z = put_at p j amount b.object e in let u = put_at q j amount b.object e in omega (arith, ints, x, y, z, u, h))
          | inr n ↦ (let x = a_at p in let y = a_at q in let z = put_off p j amount b.object n in let u = put_off q j amount b.object n in let r = rise b.object in omega (arith, ints, x, y, z, u, h, r))
        ]

-- a bid by the rule, at copies that are no higher than the prices, satisfies it
pub slack_bid : (g : Phase) (q p : ℕ → ℤ) (i : ℕ) (a : RowArc) (amount : ℤ) → Lawful g → ((k : ℕ) → q k ≤ℤ p k) → IsBid (scale g) g.spread g.eps q (g.row i) a amount → SlackAt g p i a.arc a.object amount
slack_bid g q p i a amount law low best = record { arc = a; listed = best.best.listed; leads = refl; stands = refl; slack = at }
  where
    same : put p a.object amount a.object ≡ amount
    same = put_at p a.object amount a.object refl

    at_same : (b : RowArc) → b.object ≡ a.object → value (scale g) q a ≤ℤ value (scale g) q b → value (scale g) (put p a.object amount) a ≤ℤ (value (scale g) (put p a.object amount) b +ℤ g.eps)
    at_same b e h = let x = same in let y = put_at p a.object amount b.object e in let z = ap q e in let eps = law.eps_above in omega (arith, ints, x, y, z, h, eps)

    at_other : (b second : RowArc) → b.object ≢ a.object → value (scale g) q second ≤ℤ value (scale g) q b → amount ≡ (q a.object +ℤ (value (scale g) q second -ℤ value (scale g) q a)) +ℤ g.eps → value (scale g) (put p a.object amount) a ≤ℤ (value (scale g) (put p a.object amount) b +ℤ g.eps)
    at_other b second n h e = let x = same in let y = put_off p a.object amount b.object n in let r = low b.object in omega (arith, ints, x, y, h, e, r)

    at : (k : ℕ) (d : RowArc) → k < length (g.row i) → value (scale g) (put p a.object amount) a ≤ℤ (value (scale g) (put p a.object amount) (slice_index_or (g.row i) k d) +ℤ g.eps)
    at k d l =
        let b : RowArc = slice_index_or (g.row i) k d in
        elim (cases_eq b.object a.object) [
          | inl f ↦ at_same b f (best.best.least k d l)
          | inr n ↦ elim best.amount_is [ inl s ↦ at_other b s.0 n (s.1.least k d l n) s.2 | inr s ↦ absurd (n (s.0 k d l)) ]
        ]
