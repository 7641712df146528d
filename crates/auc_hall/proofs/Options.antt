-- Lists of options, as those of the arcs of the persons and of the holders of the objects.
use Rattle.std.proofs.Common.{◌≡◌, ℕ, zero, suc, ◌<◌, true, false, List, [], ◌∷◌, ◌++◌, length, get_or, set, Option, Some, None, refl, sym, ap, ◌∙◌, inl, inr}
use Rattle.std.specs.Option.{is_some}
use Rattle.std.proofs.lemmas.List.{get_or_past, get_or-set_same, get_or-set_other}
use Rattle.std.proofs.lemmas.Bool.{cases_lt, false≢true}
use Rattle.std.proofs.lemmas.Option.{none-some, same_Some}

pub read_set : {A : Type 0} (xs : List (Option A)) (i k : ℕ) (v : Option A) → k ≡ i → i < length xs → get_or (set xs i v) k None ≡ v
read_set xs i k v e h = ap (λ (n : ℕ). get_or (set xs i v) n None) e ∙ get_or-set_same xs i v None h

pub read_unset : {A : Type 0} (xs : List (Option A)) (i k : ℕ) (v : Option A) → (k ≡ i → ⊥) → get_or (set xs i v) k None ≡ get_or xs k None
read_unset xs i k v n = get_or-set_other xs i k v None n

pub is_within : {A : Type 0} (xs : List (Option A)) (i : ℕ) (x : A) → get_or xs i None ≡ Some x → i < length xs
is_within xs i x h = elim (cases_lt i (length xs)) [ inl lt ↦ lt | inr le ↦ absurd (none-some x (sym (get_or_past xs i None le) ∙ h)) ]

pub other_place : {A : Type 0} (xs : List (Option A)) (i k : ℕ) (v : A) → get_or xs i None ≡ None → get_or xs k None ≡ Some v → k ≡ i → ⊥
other_place xs i k v h h' e = none-some v (sym h ∙ ap (λ (n : ℕ). get_or xs n None) (sym e) ∙ h')

pub same_read : {A : Type 0} (xs : List (Option A)) (i k : ℕ) (u v : A) → get_or xs i None ≡ Some u → get_or xs k None ≡ Some v → i ≡ k → u ≡ v
same_read xs i k u v h h' e = same_Some u v (sym h ∙ ap (λ (n : ℕ). get_or xs n None) e ∙ h')

pub some_of : {A : Type 0} (o : Option A) → true ≡ is_some o → (x : A) × (o ≡ Some x)
some_of (Some a) h = (a, refl)
some_of None h = absurd (false≢true (sym h))

pub none_of : {A : Type 0} (o : Option A) → false ≡ is_some o → o ≡ None
none_of None h = refl
none_of (Some a) h = absurd (false≢true h)

pub none_pushed : {A : Type 0} (xs : List (Option A)) → ((k : ℕ) → get_or xs k None ≡ None) → (k : ℕ) → get_or (xs ++ None ∷ []) k None ≡ None
none_pushed [] h zero = refl
none_pushed [] h (suc k) = refl
none_pushed (x ∷ xs) h zero = h 0
none_pushed (x ∷ xs) h (suc k) = none_pushed xs (λ j. h (suc j)) k
