-- Each letter stays on a channel to which it belongs.
use Rattle.std.proofs.Common.{ℕ, ◌≡◌, List, [], ◌∷◌, ◌++◌, inl, inr, ◌&&◌}
use Rattle.std.specs.Prelude.{◌==◌}
use Rattle.std.proofs.lemmas.Bool.{cases_eq, cases_Bool, eq-eqb, ne_eqb}
use Rattle.auc_letters.specs.declared.letter.Letter.{Letter}
use Rattle.auc_letters.specs.declared.out.Out.{Out}
use Rattle.auc_letters.specs.declared.out.To.{To}
use Rattle.auc_model.specs.Letters.{letters_to, same_to}
use Rattle.auc_model.specs.Channels.{AllRouted, Each, Routed, Channels, send, set_channel}
use Rattle.auc_model.specs.World.{Phase}
use Rattle.auc_model.proofs.Channels.{both_from, same_to-true, set_channel_here, set_channel_off}

pub each_append : {X : Type 0} (P : X → Type 0) (xs ys : List X) → Each P xs → Each P ys → Each P (xs ++ ys)
each_append P [] ys p q = q
each_append P (x ∷ xs) ys p q = (p.0, each_append P xs ys p.1 q)

pub each_drop : {X : Type 0} (P : X → Type 0) (hs : List X) (l : X) (ls : List X) → Each P (hs ++ l ∷ ls) → Each P (hs ++ ls)
each_drop P [] l ls p = p.1
each_drop P (h ∷ hs) l ls p = (p.0, each_drop P hs l ls p.1)

pub each_at : {X : Type 0} (P : X → Type 0) (hs : List X) (l : X) (ls : List X) → Each P (hs ++ l ∷ ls) → P l
each_at P [] l ls p = p.0
each_at P (h ∷ hs) l ls p = each_at P hs l ls p.1

module _ (g : Phase) (c : Channels) (all : AllRouted g c) where
  pub routed_sent : (o : Out) (y : ℕ) → Routed g o.to y o.letter → AllRouted g (send c y (o ∷ []))
  routed_sent o y r t x = elim (cases_eq x y) [ inl e ↦ here t x e | inr e ↦ rw (ne_eqb x y e) (all t x) ]
    where
      one : (t : To) (x : ℕ) → x ≡ y → Each (Routed g t x) (letters_to t (o ∷ []))
      one t x e = elim (cases_Bool (same_to t o.to)) [ inl h ↦ rw (h, same_to-true t o.to h, e) (r, tt) | inr h ↦ rw h tt ]

      here : (t : To) (x : ℕ) → x ≡ y → Each (Routed g t x) (send c y (o ∷ []) t x)
      here t x e = rw (eq-eqb x y e) (each_append (Routed g t x) (c t x) (letters_to t (o ∷ [])) (all t x) (one t x e))

  pub routed_set : (t : To) (x : ℕ) (ls : List Letter) → Each (Routed g t x) ls → AllRouted g (set_channel c t x ls)
  routed_set t x ls r u y =
      elim (cases_Bool (same_to u t && (y == x))) [
        | inl h ↦ (let p = both_from u t y x h in rw (set_channel_here c t x ls u y h, p.0, p.1) r)
        | inr h ↦ rw (set_channel_off c t x ls u y h) (all u y)
      ]

  pub routed_first : (t : To) (x : ℕ) (l : Letter) (ls : List Letter) → c t x ≡ l ∷ ls → Routed g t x l
  routed_first t x l ls e = (rw e at (all t x)).0

  pub routed_popped : (t : To) (x : ℕ) (l : Letter) (ls : List Letter) → c t x ≡ l ∷ ls → AllRouted g (set_channel c t x ls)
  routed_popped t x l ls e = routed_set t x ls ((rw e at (all t x)).1)

  pub routed_middle : (t : To) (x : ℕ) (hs : List Letter) (l : Letter) (ls : List Letter) → c t x ≡ hs ++ l ∷ ls → Routed g t x l
  routed_middle t x hs l ls e = each_at (Routed g t x) hs l ls (rw e at (all t x))

  pub routed_dropped : (t : To) (x : ℕ) (hs : List Letter) (l : Letter) (ls : List Letter) → c t x ≡ hs ++ l ∷ ls → AllRouted g (set_channel c t x (hs ++ ls))
  routed_dropped t x hs l ls e = routed_set t x (hs ++ ls) (each_drop (Routed g t x) hs l ls (rw e at (all t x)))
