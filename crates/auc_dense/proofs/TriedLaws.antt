-- What a proposal for a table shows, entry by entry.
use Rattle.std.proofs.Common.{◌≡◌, ◌≢◌, ℕ, ◌+◌, inl, inr, List, [], ◌∷◌, ◌++◌, length, get_or, sym, ap, subst, ◌∙◌, arith, length-append}
use Rattle.std.specs.Prelude.{ℤ, pos, ◌≤ℤ◌}
use Rattle.std.proofs.lemmas.Bool.{cases_lt}
use Rattle.std.proofs.lemmas.List.{get_or_append_left}
use Rattle.std.proofs.Math.Seq.{get_or-append_seam}
use Rattle.auc_claim.specs.declared.lists.Pick.{Pick}
use Rattle.auc_dense.specs.Table.{row_of}
use Rattle.auc_dense.specs.Tried.{AreApart, AreBest, AreHeldApart, ArePicks, HoldsOfEach, IsNoneBelow, no_pick, pick_at, worth_at}

-- one more entry of a row that isn't worth less
pub none_more : (gap : ℤ) (row prices : List ℤ) (least : ℤ) (place : ℕ) → IsNoneBelow gap row prices least place → (get_or row place (pos 0) ≢ gap → least ≤ℤ worth_at row prices place) → IsNoneBelow gap row prices least (place + 1)
none_more gap row prices least place before here object lt own = elim (cases_lt object place) [
  | inl below ↦ before object below own
  | inr not_below ↦ (let e : place ≡ object = omega (arith, lt, not_below) in subst (λ (k : ℕ). get_or row k (pos 0) ≢ gap → least ≤ℤ worth_at row prices k) e here own)
]

-- one more person of whose row and pick it holds
pub each_more : (Holds : List ℤ → Pick → Type 0) (objects : ℕ) (costs : List ℤ) (stride person : ℕ) (picks : List Pick) (pick : Pick) → HoldsOfEach objects costs stride person picks Holds → Holds (row_of objects costs stride person) pick
    → HoldsOfEach objects costs stride (person + 1) (picks ++ pick ∷ []) Holds
each_more Holds objects costs stride person picks pick before here = record {
  many = let len = length-append picks (pick ∷ []) in let many = before.many in omega (arith, len, many);
  each = λ i lt. elim (cases_lt i person) [
    | inl below ↦ (let many = before.many in
        subst (λ (p : Pick). Holds (row_of objects costs stride i) p) (sym (get_or_append_left picks (pick ∷ []) no_pick i (omega (arith, below, many)))) (before.each i below))
    | inr not_below ↦ (let many = before.many in
        let e : length picks ≡ i = omega (arith, lt, not_below, many) in
        let f : person ≡ i = omega (arith, lt, not_below) in
        let at : pick_at (picks ++ pick ∷ []) i ≡ pick = ap (λ (k : ℕ). pick_at (picks ++ pick ∷ []) k) (sym e) ∙ get_or-append_seam picks pick [] no_pick in
        subst (λ (p : Pick). Holds (row_of objects costs stride i) p) (sym at) (subst (λ (k : ℕ). Holds (row_of objects costs stride k) pick) f here))
  ];
}

-- the best picks are picks
pub best_are_picks : (objects : ℕ) (costs : List ℤ) (stride : ℕ) (gap : ℤ) (prices : List ℤ) (persons : ℕ) (picks : List Pick) → AreBest objects costs stride gap prices persons picks → ArePicks objects costs stride gap persons picks
best_are_picks objects costs stride gap prices persons picks best = record { many = best.many; each = λ k lt. (best.each k lt).entry }

-- who holds an object is one person
pub apart : (picks : List Pick) (holders : List ℕ) → AreHeldApart picks holders → AreApart picks
apart picks holders held one other lt inside same =
    let first = held one (omega (arith, lt, inside)) in
    let second = held other inside in
    let e : one ≡ other = sym first ∙ ap (λ (j : ℕ). get_or holders j (length picks)) same ∙ second in
    absurd (omega (arith, e, lt))
