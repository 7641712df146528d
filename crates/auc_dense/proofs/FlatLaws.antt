-- The rows of a problem, as the bids of a phase see them, and the spread of its costs.
use Rattle.std.proofs.Common.{◌≡◌, ◌≢◌, inl, inr, ℕ, zero, suc, ◌+◌, ◌*◌, ◌^◌, ◌<◌, ◌≤◌, Bool, true, false, cond, eqb, eq-eqb, List, [], ◌∷◌, length, map, refl, sym, ap, subst, ◌∙◌, arith, Contains}
use Rattle.std.specs.Prelude.{ℤ, pos, ◌-ℤ◌, ◌≤ℤ◌, ◌⊎◌, All, Any, filter}
use Rattle.std.specs.List.{enumerate_from, range_with_len}
use Rattle.std.proofs.lemmas.Bool.{cases_lt, false≢true}
use Rattle.std.proofs.lemmas.Bool.Decides.{nat_tests}
use Rattle.std.proofs.lemmas.Int.{by_lt_z, ints}
use Rattle.std.proofs.lemmas.List.{get_or_past, length-map}
use Rattle.std.proofs.lemmas.List.Elements.{All-contains, All-map, All-weaker}
use Rattle.std.proofs.lemmas.List.FromFn.{get_or-map-range_with_len, length-map-range_with_len}
use Rattle.auc_graph.specs.declared.arc.Arc.{Arc}
use Rattle.auc_graph.specs.declared.limits.TheConstants.{MOST_ARCS}
use Rattle.auc_graph.specs.Problem.{IsProblem, IsWithin}
use Rattle.auc_graph.specs.Reading.{problem}
use Rattle.auc_graph.specs.Row.{IsCostRange, IsSpread, is_of, row, row_arc}
use Rattle.auc_graph.specs.Table.{IsRow, IsRowArc, IsTableOf, Table}
use Rattle.auc_graph.proofs.RowLaws.{row_is}
use Rattle.auc_rows.specs.declared.arc.ShortArc.{ShortArc}
use Rattle.auc_rows.specs.Rows.{AreSameRows, FlatTable, IsFlatTable, IsShort, flat_row_of, scale_in, short, short_row}
use Rattle.auc_dense.proofs.TableLaws.{arc_for, same_arc}

-- ---- the arcs of a row

abbrev pub short_of : Arc → ShortArc
short_of a = record { object = a.object; cost = a.cost }

-- the row of a person in arcs, the first of which has place m
abbrev from : ℕ → ℕ → List Arc → List ShortArc
from i m arcs = map short (map row_arc (filter (is_of i) (enumerate_from m arcs)))

kept_first : (kept : Bool) (x : ℕ × Arc) (xs : List (ℕ × Arc)) (s : ShortArc) → Contains (map short (map row_arc (cond kept (x ∷ xs) xs))) s → ((kept ≡ true) × (short_of x.1 ≡ s)) ⊎ Contains (map short (map row_arc xs)) s
kept_first true x xs s (zero, lt, e) = inl (refl, e)
kept_first true x xs s (suc k, lt, e) = inr (k, omega (arith, lt), e)
kept_first false x xs s h = inr h

equal_if : (m n : ℕ) → eqb m n ≡ true → m ≡ n
equal_if m n h = grind (arith, nat_tests)

listed_from : (i m : ℕ) (arcs : List Arc) (s : ShortArc) → Contains (from i m arcs) s → Contains arcs (arc_for i s.object s.cost)
listed_from i m [] s (k, lt, e) = absurd (omega (arith, lt))
listed_from i m (a ∷ arcs) s h = elim (kept_first (eqb a.person i) (m, a) (filter (is_of i) (enumerate_from (m + 1) arcs)) s h) [
  | inl p ↦ (0, omega arith, same_arc a i s.object s.cost (equal_if a.person i p.0) (ap (λ (x : ShortArc). x.object) p.1) (ap (λ (x : ShortArc). x.cost) p.1))
  | inr b ↦ (let x = listed_from i (m + 1) arcs s b in (suc x.0, omega (arith, x.1), x.2))
]

kept_here : (kept : Bool) (x : ℕ × Arc) (xs : List (ℕ × Arc)) → kept ≡ true → Contains (map short (map row_arc (cond kept (x ∷ xs) xs))) (short_of x.1)
kept_here true x xs e = (0, omega arith, refl)
kept_here false x xs e = absurd (false≢true e)

kept_behind : (kept : Bool) (x : ℕ × Arc) (xs : List (ℕ × Arc)) (s : ShortArc) → Contains (map short (map row_arc xs)) s → Contains (map short (map row_arc (cond kept (x ∷ xs) xs))) s
kept_behind true x xs s (k, lt, e) = (suc k, omega (arith, lt), e)
kept_behind false x xs s h = h

there_from : (i m : ℕ) (arcs : List Arc) (a : Arc) → Contains arcs a → a.person ≡ i → Contains (from i m arcs) (short_of a)
there_from i m [] a (k, lt, e) p = absurd (omega (arith, lt))
there_from i m (b ∷ arcs) a (zero, lt, e) p =
    subst (λ (c : Arc). Contains (from i m (b ∷ arcs)) (short_of c)) e
    (kept_here (eqb b.person i) (m, b) (filter (is_of i) (enumerate_from (m + 1) arcs)) (eq-eqb b.person i (ap (λ (c : Arc). c.person) e ∙ p)))
there_from i m (b ∷ arcs) a (suc k, lt, e) p = kept_behind (eqb b.person i) (m, b) (filter (is_of i) (enumerate_from (m + 1) arcs)) (short_of a) (there_from i (m + 1) arcs a (k, omega (arith, lt), e) p)

-- an arc of a row is one of the problem's
pub arc_of_row : (i : ℕ) (arcs : List Arc) (s : ShortArc) → Contains (short_row i arcs) s → Contains arcs (arc_for i s.object s.cost)
unfolding row
arc_of_row i arcs s h = listed_from i 0 arcs s h

-- and the other way round
pub in_short_row : (i : ℕ) (arcs : List Arc) (a : Arc) → Contains arcs a → a.person ≡ i → Contains (short_row i arcs) (short_of a)
unfolding row
in_short_row i arcs a h p = there_from i 0 arcs a h p

-- ---- the rows of a problem

abbrev pub flat : ℕ → ℕ → List Arc → ℤ → FlatTable
flat persons objects arcs spread = record { objects = objects; spread = spread; rows = map (λ i. short_row i arcs) (range_with_len 0 persons) }

abbrev pub its : ℕ → ℕ → List Arc → ℤ → Table
its persons objects arcs spread = record { objects = objects; spread = spread; rows = map (λ i. row i arcs) (range_with_len 0 persons) }

module _ (persons objects : ℕ) (arcs : List Arc) (spread : ℤ) where
  pub many_rows : length (map (λ i. short_row i arcs) (range_with_len 0 persons)) ≡ persons
  many_rows = length-map-range_with_len (λ i. short_row i arcs) 0 persons

  pub flat_row : (i : ℕ) → i < persons → flat_row_of (flat persons objects arcs spread) i ≡ short_row i arcs
  flat_row i lt = get_or-map-range_with_len (λ i. short_row i arcs) 0 persons i i [] lt (omega arith)

  flat_past : (i : ℕ) → persons ≤ i → flat_row_of (flat persons objects arcs spread) i ≡ []
  flat_past i le = get_or_past (map (λ i. short_row i arcs) (range_with_len 0 persons)) i [] (let m = many_rows in omega (arith, le, m))

  pub flat_scale : scale_in (flat persons objects arcs spread) ≡ pos (persons + 1)
  flat_scale = ap (λ (n : ℕ). pos (n + 1)) many_rows

  module _ (is : IsProblem (problem persons objects arcs)) where
    facts : (i : ℕ) → IsRow objects (row i arcs)
    facts i = row_is persons objects arcs is.few is.within i

    flat_short : (i : ℕ) → All (IsShort objects) (flat_row_of (flat persons objects arcs spread) i)
    flat_short i = elim (cases_lt i persons) [
      | inl l ↦ rw (flat_row i l) (All-map (IsShort objects) short (row i arcs) (All-weaker (IsRowArc objects) (λ a. IsShort objects (short a)) (λ a w. record { object = w.object; low = w.low; high = w.high }) (row i arcs) (facts i).within))
      | inr le ↦ rw (flat_past i le) (λ k d lt. absurd (omega (arith, lt)))
    ]

    flat_few : (i : ℕ) → length (flat_row_of (flat persons objects arcs spread) i) ≤ MOST_ARCS
    flat_few i = elim (cases_lt i persons) [
      | inl l ↦ rw (flat_row i l) (omega (arith, (facts i).few, length-map (row i arcs) short))
      | inr le ↦ rw (flat_past i le) (omega arith)
    ]

    pub flat_is : pos 0 ≤ℤ spread → spread ≤ℤ pos (2 * 10 ^ 9) → IsFlatTable (flat persons objects arcs spread)
    flat_is low high = record {
      some = (let m = many_rows in let s = is.some in omega (arith, m, s));
      most = (let m = many_rows in let s = is.most in omega (arith, m, s));
      enough = (let m = many_rows in let s = is.enough in omega (arith, m, s));
      most_objects = is.most_objects;
      low = low;
      high = high;
      each = flat_short;
      few = flat_few;
    }

  pub its_of : IsSpread arcs spread → IsTableOf (problem persons objects arcs) (its persons objects arcs spread)
  its_of spreads = record { objects = refl; rows = refl; spread = spreads }

  many_its : length (map (λ i. row i arcs) (range_with_len 0 persons)) ≡ persons
  many_its = length-map-range_with_len (λ i. row i arcs) 0 persons

  pub same_rows : AreSameRows (its persons objects arcs spread) (flat persons objects arcs spread)
  same_rows = record {
    objects = refl;
    persons = many_rows ∙ sym many_its;
    spread = refl;
    rows = λ i lt. (
        let l : i < persons = (let n = many_its in omega (arith, lt, n)) in
        flat_row i l ∙ ap (map short) (sym (get_or-map-range_with_len (λ i. row i arcs) 0 persons i i [] l (omega arith)))
        );
  }

-- ---- the spread of the costs

all_cons : (P : Arc → Type 0) (a : Arc) (arcs : List Arc) → P a → All P arcs → All P (a ∷ arcs)
all_cons P a arcs first others zero d lt = first
all_cons P a arcs first others (suc k) d lt = others k d (omega (arith, lt))

any_later : (P : Arc → Type 0) (a : Arc) (arcs : List Arc) → Any P arcs → Any P (a ∷ arcs)
any_later P a arcs (k, b, lt, e, h) = (suc k, b, omega (arith, lt), e, h)

least_cost : (a : Arc) (arcs : List Arc) → (least : ℤ) × Any (λ b. b.cost ≡ least) (a ∷ arcs) × All (λ b. least ≤ℤ b.cost) (a ∷ arcs)
least_cost a [] = (a.cost, (0, a, omega arith, refl, refl), all_cons (λ b. a.cost ≤ℤ b.cost) a [] (omega (arith, ints)) (λ k d lt. absurd (omega (arith, lt))))
least_cost a (b ∷ arcs) =
    let r = least_cost b arcs in
    by_lt_z a.cost r.0
    (λ below. (a.cost, (0, a, omega arith, refl, refl), all_cons (λ c. a.cost ≤ℤ c.cost) a (b ∷ arcs) (omega (arith, ints)) (All-weaker (λ c. r.0 ≤ℤ c.cost) (λ c. a.cost ≤ℤ c.cost) (λ c le. omega (arith, ints, le, below)) (b ∷ arcs) r.2)))
    (λ not_below. (r.0, any_later (λ c. c.cost ≡ r.0) a (b ∷ arcs) r.1, all_cons (λ c. r.0 ≤ℤ c.cost) a (b ∷ arcs) not_below r.2))

greatest_cost : (a : Arc) (arcs : List Arc) → (greatest : ℤ) × Any (λ b. b.cost ≡ greatest) (a ∷ arcs) × All (λ b. b.cost ≤ℤ greatest) (a ∷ arcs)
greatest_cost a [] = (a.cost, (0, a, omega arith, refl, refl), all_cons (λ b. b.cost ≤ℤ a.cost) a [] (omega (arith, ints)) (λ k d lt. absurd (omega (arith, lt))))
greatest_cost a (b ∷ arcs) =
    let r = greatest_cost b arcs in
    by_lt_z r.0 a.cost
    (λ above. (a.cost, (0, a, omega arith, refl, refl), all_cons (λ c. c.cost ≤ℤ a.cost) a (b ∷ arcs) (omega (arith, ints)) (All-weaker (λ c. c.cost ≤ℤ r.0) (λ c. c.cost ≤ℤ a.cost) (λ c le. omega (arith, ints, le, above)) (b ∷ arcs) r.2)))
    (λ not_above. (r.0, any_later (λ c. c.cost ≡ r.0) a (b ∷ arcs) r.1, all_cons (λ c. c.cost ≤ℤ r.0) a (b ∷ arcs) not_above r.2))

-- the spread of costs two of which differ
pub record HasSpread (arcs : List Arc) : Type 0 where
  pub spread : ℤ
  pub is : IsSpread arcs spread
  pub low : pos 1 ≤ℤ spread
  pub high : spread ≤ℤ pos (2 * 10 ^ 9)

apart : (least greatest one other : ℤ) → least ≤ℤ one → least ≤ℤ other → one ≤ℤ greatest → other ≤ℤ greatest → one ≢ other → pos 1 ≤ℤ (greatest -ℤ least)
apart least greatest one other a b c d ne =
    by_lt_z one other
    (λ below. omega (arith, ints, a, d, below))
    (λ not_below.
    by_lt_z other one
    (λ above. omega (arith, ints, b, c, above))
    (λ not_above. absurd (ne (omega (arith, ints, not_below, not_above)))))

pub has_spread : (persons objects : ℕ) (arcs : List Arc) (a b : Arc) → IsProblem (problem persons objects arcs) → Contains arcs a → Contains arcs b → a.cost ≢ b.cost → HasSpread arcs
has_spread persons objects [] a b is (k, lt, e) there ne = absurd (omega (arith, lt))
has_spread persons objects (first ∷ arcs) a b is here there ne =
    let least = least_cost first arcs in
    let greatest = greatest_cost first arcs in
    let in_least = All-contains (IsWithin persons objects) (first ∷ arcs) least.1.1 is.within (least.1.0, least.1.2, least.1.3) in
    let in_greatest = All-contains (IsWithin persons objects) (first ∷ arcs) greatest.1.1 is.within (greatest.1.0, greatest.1.2, greatest.1.3) in
    let range : IsCostRange (first ∷ arcs) least.0 greatest.0 = record { least_listed = least.1; greatest_listed = greatest.1; none_below = least.2; none_above = greatest.2 } in
    record {
      spread = greatest.0 -ℤ least.0;
      is = inr (least.0, greatest.0, range, refl);
      low = apart least.0 greatest.0 a.cost b.cost (All-contains (λ c. least.0 ≤ℤ c.cost) (first ∷ arcs) a least.2 here) (All-contains (λ c. least.0 ≤ℤ c.cost) (first ∷ arcs) b least.2 there) (All-contains (λ c. c.cost ≤ℤ greatest.0) (first ∷ arcs) a greatest.2 here)
          (All-contains (λ c. c.cost ≤ℤ greatest.0) (first ∷ arcs) b greatest.2 there) ne;
      high = let l = in_least.low in let h = in_greatest.high in let e = least.1.4 in let f = greatest.1.4 in omega (arith, ints, l, h, e, f);
    }
