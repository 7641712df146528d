-- A pass over a row, arc by arc.
use Rattle.std.proofs.Common.{◌≡◌, ◌≢◌, ℕ, ◌≤◌, inl, inr, List, [], ◌∷◌, ◌++◌, refl, sym, ◌∙◌, arith}
use Rattle.std.specs.Prelude.{ℤ, ◌≤ℤ◌, ◌<ℤ◌, All}
use Rattle.std.proofs.lemmas.Int.{ints}
use Rattle.std.proofs.lemmas.List.{take_all}
use Rattle.std.proofs.Common.{take, length}
use Rattle.std.proofs.lemmas.List.Elements.{All-nil, All-push, All-weaker, Contains-push, Contains-append_left}
use Rattle.auc_graph.specs.declared.rows.RowArc.{RowArc}
use Rattle.auc_persons.specs.declared.bidder.scan.Scan.{Scan}
use Rattle.auc_persons.specs.Scan.{endless, Reached, IsValue, IsScan, Beats, Loses}

grow : (P Q : RowArc → Type 0) (row : List RowArc) (a : RowArc) → ((b : RowArc) → P b → Q b) → All P row → Q a → All Q (row ++ a ∷ [])
grow P Q row a h old new = All-push Q row a (All-weaker P Q h row old) new

-- the first arc
pub first : (val : RowArc → ℤ) (a : RowArc) (v : ℤ) → v ≡ val a → IsValue v → IsScan val (a ∷ []) (record { value = v; second = endless; best = a })
first val a v is ok = record {
  listed = Contains-push [] a;
  is_value = is;
  in_range = ok;
  least = All-push (λ b. v ≤ℤ val b) [] a (All-nil (λ b. v ≤ℤ val b)) (omega (arith, ints, is));
  lowest = All-push (λ b. v ≡ val b → a.object ≤ b.object) [] a (All-nil (λ b. v ≡ val b → a.object ≤ b.object)) (λ _. omega arith);
  earliest = All-push (λ b. v ≡ val b → a.object ≡ b.object → a.arc ≤ b.arc) [] a (All-nil (λ b. v ≡ val b → a.object ≡ b.object → a.arc ≤ b.arc)) (λ _ _. omega arith);
  others = All-push (λ b. b.object ≢ a.object → endless ≤ℤ val b) [] a (All-nil (λ b. b.object ≢ a.object → endless ≤ℤ val b)) (λ ne. absurd (ne refl));
  reached = inl (All-push (λ b. b.object ≡ a.object) [] a (All-nil (λ b. b.object ≡ a.object)) refl, refl);
}

pub other_wins : (val : RowArc → ℤ) (row : List RowArc) (f : Scan) (a : RowArc) (v : ℤ) → IsScan val row f → v ≡ val a → IsValue v → a.object ≢ f.best.object → Beats a v f
    → IsScan val (row ++ a ∷ []) (record { value = v; second = f.value; best = a })
other_wins val row f a v s is ok other (inl lt) = record {
  listed = Contains-push row a;
  is_value = is;
  in_range = ok;
  least = grow (λ b. f.value ≤ℤ val b) (λ b. v ≤ℤ val b) row a (λ b h. omega (arith, ints)) s.least (omega (arith, ints));
  lowest = grow (λ b. f.value ≤ℤ val b) (λ b. v ≡ val b → a.object ≤ b.object) row a (λ b h e. omega (arith, ints)) s.least (λ _. omega arith);
  earliest = grow (λ b. f.value ≤ℤ val b) (λ b. v ≡ val b → a.object ≡ b.object → a.arc ≤ b.arc) row a (λ b h e _. omega (arith, ints)) s.least (λ _ _. omega arith);
  others = grow (λ b. f.value ≤ℤ val b) (λ b. b.object ≢ a.object → f.value ≤ℤ val b) row a (λ b h ne. h) s.least (λ ne. absurd (ne refl));
  reached = inr (record { arc = f.best; listed = Contains-append_left row (a ∷ []) f.best s.listed; other = λ e. other (sym e); value_is = sym s.is_value; in_range = s.in_range });
}
other_wins val row f a v s is ok other (inr tie) = record {
  listed = Contains-push row a;
  is_value = is;
  in_range = ok;
  least = grow (λ b. f.value ≤ℤ val b) (λ b. v ≤ℤ val b) row a (λ b h. omega (arith, ints, tie.0)) s.least (omega (arith, ints));
  lowest = grow (λ b. f.value ≡ val b → f.best.object ≤ b.object) (λ b. v ≡ val b → a.object ≤ b.object) row a (λ b h e. omega (arith, h (sym tie.0 ∙ e), tie.1)) s.lowest (λ _. omega arith);
  earliest = grow (λ b. f.value ≡ val b → f.best.object ≤ b.object) (λ b. v ≡ val b → a.object ≡ b.object → a.arc ≤ b.arc) row a (λ b h e o. omega (arith, h (sym tie.0 ∙ e), tie.1)) s.lowest (λ _ _. omega arith);
  others = grow (λ b. f.value ≤ℤ val b) (λ b. b.object ≢ a.object → f.value ≤ℤ val b) row a (λ b h ne. h) s.least (λ ne. absurd (ne refl));
  reached = inr (record { arc = f.best; listed = Contains-append_left row (a ∷ []) f.best s.listed; other = λ e. other (sym e); value_is = sym s.is_value; in_range = s.in_range });
}

-- an arc to another object that isn't better
loses_lowest : (val : RowArc → ℤ) (row : List RowArc) (f : Scan) (a : RowArc) (v : ℤ) → IsScan val row f → v ≡ val a → Loses a v f → (f.value ≡ val a → f.best.object ≤ a.object) × (f.value ≤ℤ val a)
loses_lowest val row f a v s is (inl lt) = ((λ e. omega (arith, ints)), omega (arith, ints))
loses_lowest val row f a v s is (inr tie) = ((λ e. tie.1), omega (arith, ints, tie.0))

stays : (val : RowArc → ℤ) (row : List RowArc) (f : Scan) (a : RowArc) (v second : ℤ) → IsScan val row f → v ≡ val a → a.object ≢ f.best.object → Loses a v f
    → All (λ b. b.object ≢ f.best.object → second ≤ℤ val b) (row ++ a ∷ []) → Reached val (row ++ a ∷ []) f.best second
    → IsScan val (row ++ a ∷ []) (record { value = f.value; second = second; best = f.best })
stays val row f a v second s is other loses others reached = record {
  listed = Contains-append_left row (a ∷ []) f.best s.listed;
  is_value = s.is_value;
  in_range = s.in_range;
  least = All-push (λ b. f.value ≤ℤ val b) row a s.least (loses_lowest val row f a v s is loses).1;
  lowest = All-push (λ b. f.value ≡ val b → f.best.object ≤ b.object) row a s.lowest (loses_lowest val row f a v s is loses).0;
  earliest = All-push (λ b. f.value ≡ val b → f.best.object ≡ b.object → f.best.arc ≤ b.arc) row a s.earliest (λ _ e. absurd (other (sym e)));
  others = others;
  reached = reached;
}

pub other_next : (val : RowArc → ℤ) (row : List RowArc) (f : Scan) (a : RowArc) (v : ℤ) → IsScan val row f → v ≡ val a → IsValue v → a.object ≢ f.best.object → Loses a v f → v <ℤ f.second
    → IsScan val (row ++ a ∷ []) (record { value = f.value; second = v; best = f.best })
other_next val row f a v s is ok other loses lt = stays val row f a v v s is other loses
    (grow (λ b. b.object ≢ f.best.object → f.second ≤ℤ val b) (λ b. b.object ≢ f.best.object → v ≤ℤ val b) row a (λ b h ne. let g = h ne in omega (arith, ints)) s.others (λ _. omega (arith, ints)))
    (inr (record { arc = a; listed = Contains-push row a; other = other; value_is = sym is; in_range = ok }))

reached_other : (val : RowArc → ℤ) (row : List RowArc) (best a : RowArc) (v second : ℤ) → IsValue v → second ≤ℤ v → Reached val row best second → Reached val (row ++ a ∷ []) best second
reached_other val row best a v second ok le (inl r) = absurd (omega (arith, ints, r.1, ok.high))
reached_other val row best a v second ok le (inr r) = inr (record { arc = r.arc; listed = Contains-append_left row (a ∷ []) r.arc r.listed; other = r.other; value_is = r.value_is; in_range = r.in_range })

pub other_loses : (val : RowArc → ℤ) (row : List RowArc) (f : Scan) (a : RowArc) (v : ℤ) → IsScan val row f → v ≡ val a → IsValue v → a.object ≢ f.best.object → Loses a v f → f.second ≤ℤ v
    → IsScan val (row ++ a ∷ []) f
other_loses val row f a v s is ok other loses le = stays val row f a v f.second s is other loses
    (All-push (λ b. b.object ≢ f.best.object → f.second ≤ℤ val b) row a s.others (λ _. omega (arith, ints)))
    (reached_other val row f.best a v f.second ok le s.reached)

pub row_whole : (val : RowArc → ℤ) (row : List RowArc) (i : ℕ) (f : Scan) → length row ≤ i → IsScan val (take i row) f → IsScan val row f
row_whole val row i f le s = rw (take_all i row le) at s

second_range : (val : RowArc → ℤ) (row : List RowArc) (a : RowArc) (second : ℤ) → second <ℤ endless → Reached val row a second → IsValue second
second_range val row a second lt (inl r) = absurd (omega (arith, ints, r.1))
second_range val row a second lt (inr r) = r.in_range

pub second_is : (val : RowArc → ℤ) (row : List RowArc) (f : Scan) → IsScan val row f → f.second <ℤ endless → IsValue f.second
second_is val row f h lt = second_range val row f.best f.second lt h.reached
