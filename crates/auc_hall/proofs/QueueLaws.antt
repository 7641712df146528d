-- Places of the queue of a search.
use Rattle.std.proofs.Common.{◌≡◌, ◌⊎◌, ℕ, zero, suc, ◌<◌, List, [], ◌∷◌, ◌++◌, length, get_or, take, Some, refl, sym, ap, ◌∙◌, arith, inl, inr, pos}
use Rattle.std.specs.List.{slice_get}
use Rattle.std.proofs.lemmas.List.{get_or_read}
use Rattle.std.proofs.lemmas.Option.{none-some, same_Some, slice_get-get_or, slice_get_within}
use Rattle.auc_graph.specs.declared.rows.RowArc.{RowArc}
use Rattle.auc_graph.specs.Table.{Table, row_of}
use Rattle.auc_hall.specs.declared.search.Reached.{Reached}
use Rattle.auc_hall.specs.Search.{HasArc, Grows}
use Rattle.auc_hall.proofs.ProblemLaws.{no_arc}

abbrev pub blank : Reached
blank = record { person = 0; parent = 0; arc = record { object = 0; cost = pos 0; arc = 0 } }

pub entry : (queue : List Reached) (m : ℕ) → m < length queue → slice_get queue m ≡ Some (get_or queue m blank)
entry queue m h = slice_get-get_or queue m blank h

pub in_queue : (t : Table) (queue : List Reached) (at : ℕ) (a : RowArc) → HasArc t queue at a → at < length queue
in_queue t queue at a h = slice_get_within queue at h.by h.there

pub get_kept : (xs ys : List Reached) (m : ℕ) (e : Reached) → slice_get xs m ≡ Some e → slice_get (xs ++ ys) m ≡ Some e
get_kept [] ys m e h = absurd (none-some e h)
get_kept (x ∷ xs) ys zero e h = h
get_kept (x ∷ xs) ys (suc m) e h = get_kept xs ys m e h

pub get_pushed : (xs : List Reached) (y : Reached) → slice_get (xs ++ y ∷ []) (length xs) ≡ Some y
get_pushed [] y = refl
get_pushed (x ∷ xs) y = get_pushed xs y

pub get_cases : {A : Type 0} (xs : List A) (y : A) (m : ℕ) (e : A) → slice_get (xs ++ y ∷ []) m ≡ Some e → (slice_get xs m ≡ Some e) ⊎ ((m ≡ length xs) × (y ≡ e))
get_cases [] y zero e h = inr (refl, same_Some y e h)
get_cases [] y (suc m) e h = absurd (none-some e h)
get_cases (x ∷ xs) y zero e h = inl h
get_cases (x ∷ xs) y (suc m) e h = elim (get_cases xs y m e h) [ inl p ↦ inl p | inr p ↦ inr (ap suc p.0, p.1) ]

pub get_front : (xs : List Reached) (n m : ℕ) (e : Reached) → slice_get (take n xs) m ≡ Some e → (m < n) × (slice_get xs m ≡ Some e)
get_front [] zero m e h = absurd (none-some e h)
get_front [] (suc n) m e h = absurd (none-some e h)
get_front (x ∷ xs) zero m e h = absurd (none-some e h)
get_front (x ∷ xs) (suc n) zero e h = (omega arith, h)
get_front (x ∷ xs) (suc n) (suc m) e h = let r = get_front xs n m e h in (omega (arith, r.0), r.1)

was_in : (xs ys : List Reached) (m : ℕ) (e : Reached) → m < length xs → slice_get (xs ++ ys) m ≡ Some e → slice_get xs m ≡ Some e
was_in [] ys m e lt h = absurd (omega arith)
was_in (x ∷ xs) ys zero e lt h = h
was_in (x ∷ xs) ys (suc m) e lt h = was_in xs ys m e (omega arith) h

pub was_there : (old_queue queue : List Reached) (m : ℕ) (e : Reached) → Grows old_queue queue → m < length old_queue → slice_get queue m ≡ Some e → slice_get old_queue m ≡ Some e
was_there old_queue queue m e g lt h = was_in old_queue g.0 m e lt (ap (λ (q : List Reached). slice_get q m) (sym g.1) ∙ h)

first_only_at : (y : Reached) (m : ℕ) (e : Reached) → slice_get (y ∷ []) m ≡ Some e → (m ≡ 0) × (e.person ≡ y.person)
first_only_at y zero e h = (refl, ap (λ (r : Reached). r.person) (sym (same_Some y e h)))
first_only_at y (suc m) e h = absurd (none-some e h)

pub first_only : (start : ℕ) (queue : List Reached) → queue ≡ record { person = start; parent = 0; arc = no_arc } ∷ [] → (m : ℕ) (e : Reached) → slice_get queue m ≡ Some e → (m ≡ 0) × (e.person ≡ start)
first_only start queue is m e h = first_only_at (record { person = start; parent = 0; arc = no_arc }) m e (ap (λ (q : List Reached). slice_get q m) (sym is) ∙ h)

pub first_stays : (old_queue queue : List Reached) (start : ℕ) → Grows old_queue queue → 0 < length old_queue → ((e : Reached) → slice_get old_queue 0 ≡ Some e → e.person ≡ start) → (e : Reached) → slice_get queue 0 ≡ Some e → e.person ≡ start
first_stays old_queue queue start g some before e h = before e (was_there old_queue queue 0 e g some h)

pub still : (t : Table) (old_queue queue : List Reached) (at : ℕ) → Grows old_queue queue → at < length old_queue → slice_get queue at ≡ Some (get_or old_queue at blank)
still t old_queue queue at g lt = ap (λ (q : List Reached). slice_get q at) g.1 ∙ get_kept old_queue g.0 at (get_or old_queue at blank) (entry old_queue at lt)

-- the row that was asked for is that of the person at the place
pub the_row : (t : Table) (queue : List Reached) (at : ℕ) (q : Reached) (row : List RowArc) → at < length queue → q ≡ get_or queue at q → row ≡ row_of t q.person → row ≡ row_of t (get_or queue at blank).person
the_row t queue at q row lt e r = r ∙ ap (λ (x : Reached). row_of t x.person) (get_or_read queue at q lt e blank)
