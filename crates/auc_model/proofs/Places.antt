-- The state of each pair of a person and an object, and what keeps it.
use Rattle.std.proofs.Common.{ℕ, suc, ◌+◌, ◌≡◌, ◌≢◌, refl, arith, Bool, true, false, List, [], ◌∷◌, ◌++◌, Some, None, ap, sym, ◌∙◌, inl, inr}
use Rattle.std.proofs.lemmas.Bool.{cases_eq}
use Rattle.auc_letters.specs.declared.state.PersonState.{PersonState}
use Rattle.auc_letters.specs.declared.state.PersonState.TheVariants.{Free, Holds, Waits}
use Rattle.auc_model.specs.Places.{Agree, Allows, Answer, Unassigned, Award, InPlace, Outbid, Places, Refused, PairState, Waiting, Wrong, award, pair_known, bid, hear, heard, is_held_by, pass_on, refuse, replay, pair_state, pair_after}
use Rattle.auc_model.specs.Put.{put}

pub put_at : {X : Type 0} (f : ℕ → X) (k : ℕ) (v : X) (n : ℕ) → n ≡ k → put f k v n ≡ v
put_at f k v n e = grind arith

pub put_off : {X : Type 0} (f : ℕ → X) (k : ℕ) (v : X) (n : ℕ) → n ≢ k → put f k v n ≡ f n
put_off f k v n e = grind arith

-- an entry that is set to what it is
pub put_self : {X : Type 0} (f : ℕ → X) (k : ℕ) → put f k (f k) ≡ f
put_self f k = λ d n. at n d
  where
    at : (n : ℕ) → put f k (f k) n ≡ f n
    at n = elim (cases_eq n k) [ inl e ↦ put_at f k (f k) n e ∙ ap f (sym e) | inr e ↦ put_off f k (f k) n e ]

pub replay-Wrong : (xs : List Answer) → replay Wrong xs ≡ Wrong
replay-Wrong [] = refl
replay-Wrong (a ∷ xs) = replay-Wrong xs

pub replay-Unassigned : (xs : List Answer) (s : PairState) → replay Unassigned xs ≡ s → s ≢ Wrong → xs ≡ []
replay-Unassigned [] s e n = refl
replay-Unassigned (a ∷ xs) s e n = absurd (n (sym e ∙ replay-Wrong xs))

pub replay_push : (s : PairState) (xs : List Answer) (a : Answer) → replay s (xs ++ a ∷ []) ≡ pair_after (replay s xs) a
replay_push s [] a = refl
replay_push s (b ∷ xs) a = replay_push (pair_after s b) xs a

agree_bid : (s t : PairState) (xs : List Answer) (h : Bool) (b c : ℕ) → s ≡ Unassigned → t ≡ Waiting → c ≡ b + 1 → Agree s xs (pair_known h b) → Agree t xs (pair_known h c)
agree_bid s t xs h b c e f n p = grind (arith, replay-Unassigned xs (pair_known h b) (rw e at p.same) p.right)

abbrev At : Places → ℕ → ℕ → Type 0
At w i j = Agree (pair_state (w.state i) j) (w.answers i j) (pair_known (is_held_by (w.holder j) i) (w.bids i j))

bid_here : (w : Places) (i j k l : ℕ) → w.state i ≡ Free → k ≡ i → l ≡ j → At w k l → At (bid w i j) k l
bid_here w i j k l free e f p =
    agree_bid (pair_state (w.state k) l) (pair_state ((bid w i j).state k) l) (w.answers k l) (is_held_by (w.holder l) k) (w.bids k l) ((bid w i j).bids k l) (grind arith) (grind arith) (grind arith) p

bid_other_object : (w : Places) (i j k l : ℕ) → w.state i ≡ Free → k ≡ i → l ≢ j → At w k l → At (bid w i j) k l
bid_other_object w i j k l free e f p = grind arith

bid_other_person : (w : Places) (i j k l : ℕ) → w.state i ≡ Free → k ≢ i → At w k l → At (bid w i j) k l
bid_other_person w i j k l free e p = grind arith

pub keeps_bid : (w : Places) (i j : ℕ) → w.state i ≡ Free → InPlace w → InPlace (bid w i j)
keeps_bid w i j free p k l =
    elim (cases_eq k i) [
      | inl e ↦ elim (cases_eq l j) [ inl f ↦ bid_here w i j k l free e f (p k l) | inr f ↦ bid_other_object w i j k l free e f (p k l) ]
      | inr e ↦ bid_other_person w i j k l free e (p k l)
    ]

-- What one answer does to the one pair of person and object that it is about. All the new values are variables, with
-- equations for what they are
module _ (s t : PairState) (xs ys : List Answer) (h g : Bool) (b c n : ℕ) where
  agree_refused : t ≡ s → ys ≡ xs ++ Refused ∷ [] → g ≡ h → b ≡ suc n → c ≡ n → Agree s xs (pair_known h b) → Agree t ys (pair_known g c)
  agree_refused e1 e2 e3 e4 e5 p = grind (arith, replay_push s xs Refused, p.same, p.right)

  agree_award : t ≡ s → ys ≡ xs ++ Award ∷ [] → g ≡ true → b ≡ suc n → c ≡ n → Agree s xs (pair_known h b) → Agree t ys (pair_known g c)
  agree_award e1 e2 e3 e4 e5 p = grind (arith, replay_push s xs Award, p.same, p.right)

  agree_outbid : t ≡ s → ys ≡ xs ++ Outbid ∷ [] → h ≡ true → g ≡ false → c ≡ b → Agree s xs (pair_known h b) → Agree t ys (pair_known g c)
  agree_outbid e1 e2 e3 e4 e5 p = grind (arith, replay_push s xs Outbid, p.same, p.right)

  agree_heard : (a : Answer) → t ≡ pair_after s a → xs ≡ a ∷ ys → g ≡ h → c ≡ b → Agree s xs (pair_known h b) → Agree t ys (pair_known g c)
  agree_heard a e1 e2 e3 e4 p = grind (arith, p.same, p.right)

refuse_here : (w : Places) (i j n k l : ℕ) → w.bids i j ≡ suc n → k ≡ i → l ≡ j → At w k l → At (refuse w i j n) k l
refuse_here w i j n k l b e f p =
    agree_refused
    (pair_state (w.state k) l) (pair_state ((refuse w i j n).state k) l) (w.answers k l) ((refuse w i j n).answers k l)
    (is_held_by (w.holder l) k) (is_held_by ((refuse w i j n).holder l) k) (w.bids k l) ((refuse w i j n).bids k l) n
    refl (grind arith) refl (grind arith) (grind arith) p

refuse_other : (w : Places) (i j n k l : ℕ) → ((k ≡ i) × (l ≡ j) → ⊥) → At w k l → At (refuse w i j n) k l
refuse_other w i j n k l e p = grind arith

award_here : (w : Places) (i j n k l : ℕ) → w.bids i j ≡ suc n → k ≡ i → l ≡ j → At w k l → At (award w i j n) k l
award_here w i j n k l b e f p =
    agree_award
    (pair_state (w.state k) l) (pair_state ((award w i j n).state k) l) (w.answers k l) ((award w i j n).answers k l)
    (is_held_by (w.holder l) k) (is_held_by ((award w i j n).holder l) k) (w.bids k l) ((award w i j n).bids k l) n
    refl (grind arith) (grind arith) (grind arith) (grind arith) p

award_other_object : (w : Places) (i j n k l : ℕ) → l ≢ j → At w k l → At (award w i j n) k l
award_other_object w i j n k l e p = grind arith

award_other_person : (w : Places) (i j n k l : ℕ) → w.holder j ≡ None → k ≢ i → l ≡ j → At w k l → At (award w i j n) k l
award_other_person w i j n k l free e f p = grind arith

-- the earlier holder is another person
bidder_new : (w : Places) (i j n : ℕ) → w.bids i j ≡ suc n → At w i j → is_held_by (w.holder j) i ≡ false
bidder_new w i j n b p = grind (arith, p.right)

pass_here : (w : Places) (i j n m k l : ℕ) → w.bids i j ≡ suc n → i ≢ m → k ≡ i → l ≡ j → At w k l → At (pass_on w i j n m) k l
pass_here w i j n m k l b o e f p =
    agree_award
    (pair_state (w.state k) l) (pair_state ((pass_on w i j n m).state k) l) (w.answers k l) ((pass_on w i j n m).answers k l)
    (is_held_by (w.holder l) k) (is_held_by ((pass_on w i j n m).holder l) k) (w.bids k l) ((pass_on w i j n m).bids k l) n
    refl (grind arith) (grind arith) (grind arith) (grind arith) p

pass_earlier : (w : Places) (i j n m k l : ℕ) → w.holder j ≡ Some m → i ≢ m → k ≡ m → l ≡ j → At w k l → At (pass_on w i j n m) k l
pass_earlier w i j n m k l b o e f p =
    agree_outbid
    (pair_state (w.state k) l) (pair_state ((pass_on w i j n m).state k) l) (w.answers k l) ((pass_on w i j n m).answers k l)
    (is_held_by (w.holder l) k) (is_held_by ((pass_on w i j n m).holder l) k) (w.bids k l) ((pass_on w i j n m).bids k l) n
    refl (grind arith) (grind arith) (grind arith) (grind arith) p

pass_other_object : (w : Places) (i j n m k l : ℕ) → l ≢ j → At w k l → At (pass_on w i j n m) k l
pass_other_object w i j n m k l e p = grind arith

pass_other_person : (w : Places) (i j n m k l : ℕ) → w.holder j ≡ Some m → k ≢ i → k ≢ m → l ≡ j → At w k l → At (pass_on w i j n m) k l
pass_other_person w i j n m k l o e f g p = grind arith

pair_after_right : (s known : PairState) (a : Answer) (xs : List Answer) → replay s (a ∷ xs) ≡ known → known ≢ Wrong → pair_after s a ≢ Wrong
pair_after_right s known a xs e n f = grind (arith, replay-Wrong xs)

fits_from_pair : (s : PersonState) (j : ℕ) (a : Answer) → pair_after (pair_state s j) a ≢ Wrong → Allows s a j
fits_from_pair Free j Award n = absurd (n refl)
fits_from_pair Free j Refused n = absurd (n refl)
fits_from_pair Free j Outbid n = absurd (n refl)
fits_from_pair (Waits k) j Award n = grind arith
fits_from_pair (Waits k) j Refused n = grind arith
fits_from_pair (Waits k) j Outbid n = grind arith
fits_from_pair (Holds k) j Award n = grind arith
fits_from_pair (Holds k) j Refused n = grind arith
fits_from_pair (Holds k) j Outbid n = grind arith

-- the first answer under way is one that the state allows
pub no_stray : (w : Places) (i j : ℕ) (a : Answer) (xs : List Answer) → w.answers i j ≡ a ∷ xs → InPlace w → Allows (w.state i) a j
no_stray w i j a xs e p =
    let q = p i j in
    fits_from_pair (w.state i) j a (pair_after_right (pair_state (w.state i) j) (pair_known (is_held_by (w.holder j) i) (w.bids i j)) a xs (rw e at q.same) q.right)

pair_state-heard : (s : PersonState) (j k : ℕ) (a : Answer) → k ≡ j → Allows s a j → pair_state (heard a j) k ≡ pair_after (pair_state s k) a
pair_state-heard s j k Award e f = grind arith
pair_state-heard s j k Refused e f = grind arith
pair_state-heard s j k Outbid e f = grind arith

pair_state-heard_other : (s : PersonState) (j k : ℕ) (a : Answer) → k ≢ j → Allows s a j → pair_state (heard a j) k ≡ pair_state s k
pair_state-heard_other s j k Award e f = grind arith
pair_state-heard_other s j k Refused e f = grind arith
pair_state-heard_other s j k Outbid e f = grind arith

hear_here : (w : Places) (i j : ℕ) (a : Answer) (xs : List Answer) (k l : ℕ) → w.answers i j ≡ a ∷ xs → Allows (w.state i) a j → k ≡ i → l ≡ j → At w k l → At (hear w i j a xs) k l
hear_here w i j a xs k l o m e f p =
    agree_heard
    (pair_state (w.state k) l) (pair_state ((hear w i j a xs).state k) l) (w.answers k l) ((hear w i j a xs).answers k l)
    (is_held_by (w.holder l) k) (is_held_by ((hear w i j a xs).holder l) k) (w.bids k l) ((hear w i j a xs).bids k l) 0 a
    (grind (arith, pair_state-heard (w.state i) j l a f m)) (grind arith) refl refl p

hear_other_object : (w : Places) (i j : ℕ) (a : Answer) (xs : List Answer) (k l : ℕ) → Allows (w.state i) a j → k ≡ i → l ≢ j → At w k l → At (hear w i j a xs) k l
hear_other_object w i j a xs k l m e f p = grind (arith, pair_state-heard_other (w.state i) j l a f m)

hear_other_person : (w : Places) (i j : ℕ) (a : Answer) (xs : List Answer) (k l : ℕ) → k ≢ i → At w k l → At (hear w i j a xs) k l
hear_other_person w i j a xs k l e p = grind arith

pub keeps_refuse : (w : Places) (i j n : ℕ) → w.bids i j ≡ suc n → InPlace w → InPlace (refuse w i j n)
keeps_refuse w i j n b p k l =
    elim (cases_eq k i) [
      | inl e ↦ elim (cases_eq l j) [ inl f ↦ refuse_here w i j n k l b e f (p k l) | inr f ↦ refuse_other w i j n k l (λ q. f q.1) (p k l) ]
      | inr e ↦ refuse_other w i j n k l (λ q. e q.0) (p k l)
    ]

pub keeps_award : (w : Places) (i j n : ℕ) → w.holder j ≡ None → w.bids i j ≡ suc n → InPlace w → InPlace (award w i j n)
keeps_award w i j n o b p k l =
    elim (cases_eq l j) [
      | inl f ↦ elim (cases_eq k i) [ inl e ↦ award_here w i j n k l b e f (p k l) | inr e ↦ award_other_person w i j n k l o e f (p k l) ]
      | inr f ↦ award_other_object w i j n k l f (p k l)
    ]

pub keeps_pass_on : (w : Places) (i j n m : ℕ) → w.holder j ≡ Some m → w.bids i j ≡ suc n → InPlace w → InPlace (pass_on w i j n m)
keeps_pass_on w i j n m o b p k l =
    let new = bidder_new w i j n b (p i j) in
    let apart : i ≢ m = grind arith in
    elim (cases_eq l j) [
      | inl f ↦ elim (cases_eq k i) [
        | inl e ↦ pass_here w i j n m k l b apart e f (p k l)
        | inr e ↦ elim (cases_eq k m) [ inl g ↦ pass_earlier w i j n m k l o apart g f (p k l) | inr g ↦ pass_other_person w i j n m k l o e g f (p k l) ]
      ]
      | inr f ↦ pass_other_object w i j n m k l f (p k l)
    ]

pub keeps_hear : (w : Places) (i j : ℕ) (a : Answer) (xs : List Answer) → w.answers i j ≡ a ∷ xs → InPlace w → InPlace (hear w i j a xs)
keeps_hear w i j a xs o p k l =
    let m = no_stray w i j a xs o p in
    elim (cases_eq k i) [
      | inl e ↦ elim (cases_eq l j) [ inl f ↦ hear_here w i j a xs k l o m e f (p k l) | inr f ↦ hear_other_object w i j a xs k l m e f (p k l) ]
      | inr e ↦ hear_other_person w i j a xs k l e (p k l)
    ]

-- a person who holds an object is free towards no other object
holder_not_unassigned : (s : PersonState) (j : ℕ) (xs : List Answer) (b : ℕ) → Agree (pair_state s j) xs (pair_known true b) → pair_state s j ≢ Unassigned
holder_not_unassigned s j xs b p e = grind (arith, replay-Unassigned xs (pair_known true b) (rw e at p.same) p.right, p.same, p.right)

one_object : (s : PersonState) (j k : ℕ) → pair_state s j ≢ Unassigned → pair_state s k ≢ Unassigned → j ≡ k
one_object Free j k p q = absurd (p refl)
one_object (Waits i) j k p q = grind arith
one_object (Holds i) j k p q = grind arith

-- no person is held twice
pub held_once : (w : Places) (i j k : ℕ) → w.holder j ≡ Some i → w.holder k ≡ Some i → InPlace w → j ≡ k
held_once w i j k e f p =
    let at_j : Agree (pair_state (w.state i) j) (w.answers i j) (pair_known true (w.bids i j)) = grind (arith, p i j) in
    let at_k : Agree (pair_state (w.state i) k) (w.answers i k) (pair_known true (w.bids i k)) = grind (arith, p i k) in
    one_object (w.state i) j k (holder_not_unassigned (w.state i) j (w.answers i j) (w.bids i j) at_j) (holder_not_unassigned (w.state i) k (w.answers i k) (w.bids i k) at_k)
