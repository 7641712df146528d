-- Arcs of a table, as its entries are gone through.
use Rattle.std.proofs.Common.{◌≡◌, ◌≢◌, ℕ, zero, suc, ◌+◌, ◌-◌, ◌*◌, ◌<◌, ◌≤◌, Bool, true, false, cond, List, [], ◌∷◌, ◌++◌, length, take, drop, get_or, Option, Some, None, refl, sym, ap, subst, ◌∙◌, arith, append_assoc, length-append}
use Rattle.std.specs.Prelude.{ℤ, pos, nat_le, neg_ℤ}
use Rattle.std.specs.Option.{option_or}
use Rattle.std.specs.Cmp.{signed_Decides}
use Rattle.std.proofs.lemmas.Bool.Decides.{nat_tests}
use Rattle.std.proofs.lemmas.List.{take_more, length-take-le, append-nil, take-append-drop}
use Rattle.auc_graph.specs.declared.arc.Arc.{Arc}
use Rattle.auc_graph.specs.declared.limits.TheConstants.{MOST_ARCS, MOST_COST}
use Rattle.auc_graph.specs.declared.list_faults.ListFault.{ListFault}
use Rattle.auc_graph.specs.declared.list_faults.ListFault.TheVariants.{TooManyArcs, Cost}
use Rattle.auc_graph.specs.InMemory.{fault_at, first_fault}
use Rattle.auc_graph.specs.Reading.{is_between}
use Rattle.auc_dense.specs.Table.{row_of, entry_arcs, row_arcs, table_arcs, at_entry, entry_of}
use Rattle.auc_dense.specs.Entries.{IsFirstFault, entry_fault}
use Rattle.auc_graph.proofs.InMemoryLaws.{from_no}

abbrev pub arc_for : ℕ → ℕ → ℤ → Arc
arc_for person object cost = record { cost = cost; person = person; object = object }

-- the arcs of a row in two parts
pub row_parts : (gap : ℤ) (person k : ℕ) (xs ys : List ℤ) → row_arcs gap person k (xs ++ ys) ≡ row_arcs gap person k xs ++ row_arcs gap person (k + length xs) ys
row_parts gap person k [] ys = let e : k ≡ k + 0 = omega arith in ap (λ (m : ℕ). row_arcs gap person m ys) e
row_parts gap person k (z ∷ xs) ys =
    let e : suc k + length xs ≡ k + suc (length xs) = omega arith in
    ap (λ (xs : List Arc). entry_arcs gap person k z ++ xs) (row_parts gap person (suc k) xs ys ∙ ap (λ (m : ℕ). row_arcs gap person (suc k) xs ++ row_arcs gap person m ys) e)
    ∙ sym (append_assoc (entry_arcs gap person k z) (row_arcs gap person (suc k) xs) (row_arcs gap person (k + suc (length xs)) ys))

pub gap_arcs : (gap : ℤ) (person object : ℕ) (cost : ℤ) → cost ≡ gap → entry_arcs gap person object cost ≡ []
gap_arcs gap person object cost e = grind (arith, signed_Decides)

pub own_arcs : (gap : ℤ) (person object : ℕ) (cost : ℤ) → cost ≢ gap → entry_arcs gap person object cost ≡ arc_for person object cost ∷ []
own_arcs gap person object cost e = grind (arith, signed_Decides)

-- the arcs of one more entry
pub row_more : (gap : ℤ) (person : ℕ) (row : List ℤ) (j : ℕ) → j < length row → row_arcs gap person 0 (take (j + 1) row) ≡ row_arcs gap person 0 (take j row) ++ entry_arcs gap person j (get_or row j (pos 0))
row_more gap person row j lt =
    let len : length (take j row) ≡ j = length-take-le j row (omega (arith, lt)) in
    ap (row_arcs gap person 0) (take_more row j (pos 0) lt)
    ∙ row_parts gap person 0 (take j row) (get_or row j (pos 0) ∷ [])
    ∙ ap (λ (m : ℕ). row_arcs gap person 0 (take j row) ++ (entry_arcs gap person m (get_or row j (pos 0)) ++ [])) (omega (arith, len))
    ∙ ap (λ (xs : List Arc). row_arcs gap person 0 (take j row) ++ xs) (append-nil (entry_arcs gap person j (get_or row j (pos 0))))

-- a gap leaves the arcs as they are
pub row_gap : (gap : ℤ) (person : ℕ) (row : List ℤ) (j : ℕ) → j < length row → get_or row j (pos 0) ≡ gap → row_arcs gap person 0 (take (j + 1) row) ≡ row_arcs gap person 0 (take j row)
row_gap gap person row j lt e =
    row_more gap person row j lt ∙ ap (λ (xs : List Arc). row_arcs gap person 0 (take j row) ++ xs) (gap_arcs gap person j (get_or row j (pos 0)) e) ∙ append-nil (row_arcs gap person 0 (take j row))

-- and another entry puts its arc after them
pub row_own : (gap : ℤ) (person : ℕ) (row : List ℤ) (j : ℕ) → j < length row → get_or row j (pos 0) ≢ gap → row_arcs gap person 0 (take (j + 1) row) ≡ row_arcs gap person 0 (take j row) ++ arc_for person j (get_or row j (pos 0)) ∷ []
row_own gap person row j lt e =
    row_more gap person row j lt ∙ ap (λ (xs : List Arc). row_arcs gap person 0 (take j row) ++ xs) (own_arcs gap person j (get_or row j (pos 0)) e)

pub same_arc : (a : Arc) (person object : ℕ) (cost : ℤ) → a.person ≡ person → a.object ≡ object → a.cost ≡ cost → a ≡ arc_for person object cost
same_arc a person object cost p o c = ap (λ (n : ℕ). arc_for n a.object a.cost) p ∙ ap (λ (n : ℕ). arc_for person n a.cost) o ∙ ap (λ (z : ℤ). arc_for person object z) c

-- what stands after some arcs once one more entry was looked at
pub gap_step : (gap : ℤ) (person : ℕ) (row : List ℤ) (j : ℕ) (first now : List Arc) → j < length row → get_or row j (pos 0) ≡ gap → now ≡ first ++ row_arcs gap person 0 (take j row) → now ≡ first ++ row_arcs gap person 0 (take (j + 1) row)
gap_step gap person row j first now lt e is = is ∙ ap (λ (xs : List Arc). first ++ xs) (sym (row_gap gap person row j lt e))

pub own_step : (gap : ℤ) (person : ℕ) (row : List ℤ) (j : ℕ) (first now more : List Arc) (a : Arc) → j < length row → get_or row j (pos 0) ≢ gap → now ≡ first ++ row_arcs gap person 0 (take j row)
    → a.person ≡ person → a.object ≡ j → a.cost ≡ get_or row j (pos 0) → more ≡ now ++ a ∷ [] → more ≡ first ++ row_arcs gap person 0 (take (j + 1) row)
own_step gap person row j first now more a lt e is p o c next =
    next ∙ ap (λ (xs : List Arc). xs ++ a ∷ []) is ∙ append_assoc first (row_arcs gap person 0 (take j row)) (a ∷ []) ∙ ap (λ (b : Arc). first ++ (row_arcs gap person 0 (take j row) ++ b ∷ [])) (same_arc a person j (get_or row j (pos 0)) p o c)
    ∙ ap (λ (xs : List Arc). first ++ xs) (sym (row_own gap person row j lt e))

-- what an arc's tests tell, and an entry's
tests_none : (x y : Bool) (i j : ℕ) → cond x (Some TooManyArcs) (cond y None (Some (Cost i))) ≡ None → cond x (Some TooManyArcs) (cond y None (Some (Cost j))) ≡ None
tests_none true y i j e = absurd cc
tests_none false true i j e = refl
tests_none false false i j e = absurd cc

tests_some : (m : ℕ) (a : Arc) (x y : Bool) (i : ℕ) (fault : ListFault) → cond x (Some TooManyArcs) (cond y None (Some (Cost (entry_of m a)))) ≡ Some fault
    → (found : ListFault) × (cond x (Some TooManyArcs) (cond y None (Some (Cost i))) ≡ Some found) × (fault ≡ at_entry m a found)
tests_some m a true y i fault e = (TooManyArcs, refl, cc)
tests_some m a false true i fault e = absurd cc
tests_some m a false false i fault e = (Cost i, refl, cc)

within_no : (n m : ℕ) → m < n → nat_le n m ≡ false
within_no n m lt = grind (arith, nat_tests)

-- an entry without a fault has an arc without one
pub entry_none : (n m person object place : ℕ) (cost : ℤ) → person < n → object < m → entry_fault place (person * m + object) cost ≡ None → fault_at n m place (arc_for person object cost) ≡ None
entry_none n m person object place cost p o e = rw (within_no n person p, within_no m object o) (tests_none (nat_le MOST_ARCS place) (is_between (neg_ℤ MOST_COST) MOST_COST cost) (person * m + object) place e)

-- and an entry's fault is that of its arc
pub entry_some : (n m person object place : ℕ) (cost : ℤ) (fault : ListFault) → person < n → object < m → entry_fault place (person * m + object) cost ≡ Some fault
    → (found : ListFault) × (fault_at n m place (arc_for person object cost) ≡ Some found) × (fault ≡ at_entry m (arc_for person object cost) found)
entry_some n m person object place cost fault p o e = rw (within_no n person p, within_no m object o) (tests_some m (arc_for person object cost) (nat_le MOST_ARCS place) (is_between (neg_ℤ MOST_COST) MOST_COST cost) place fault e)

or_parts : (a b c : Option ListFault) → option_or (option_or a b) c ≡ option_or a (option_or b c)
or_parts None b c = refl
or_parts (Some x) b c = refl

-- the first fault of arcs in two parts
pub fault_parts : (n m k : ℕ) (xs ys : List Arc) → first_fault n m k (xs ++ ys) ≡ option_or (first_fault n m k xs) (first_fault n m (k + length xs) ys)
fault_parts n m k [] ys = let e : k ≡ k + 0 = omega arith in ap (λ (i : ℕ). first_fault n m i ys) e
fault_parts n m k (a ∷ xs) ys =
    let e : suc k + length xs ≡ k + suc (length xs) = omega arith in
    ap (option_or (fault_at n m k a)) (fault_parts n m (suc k) xs ys ∙ ap (λ (i : ℕ). option_or (first_fault n m (suc k) xs) (first_fault n m i ys)) e)
    ∙ sym (or_parts (fault_at n m k a) (first_fault n m (suc k) xs) (first_fault n m (k + suc (length xs)) ys))

pub faultless_more : (n m k place : ℕ) (xs ys : List Arc) → first_fault n m k xs ≡ None → place ≡ k + length xs → first_fault n m place ys ≡ None → first_fault n m k (xs ++ ys) ≡ None
faultless_more n m k place xs ys e is f = fault_parts n m k xs ys ∙ ap (λ (x : Option ListFault). option_or x (first_fault n m (k + length xs) ys)) e ∙ ap (λ (i : ℕ). first_fault n m i ys) (sym is) ∙ f

-- one more arc without a fault
pub faultless_own : (n m before place : ℕ) (gap : ℤ) (person : ℕ) (row : List ℤ) (j : ℕ) → person < n → j < m → j < length row → get_or row j (pos 0) ≢ gap → first_fault n m before (row_arcs gap person 0 (take j row)) ≡ None
    → place ≡ before + length (row_arcs gap person 0 (take j row)) → entry_fault place (person * m + j) (get_or row j (pos 0)) ≡ None → first_fault n m before (row_arcs gap person 0 (take (j + 1) row)) ≡ None
faultless_own n m before place gap person row j p o lt own e is f =
    let arc = arc_for person j (get_or row j (pos 0)) in
    let none = entry_none n m person j place (get_or row j (pos 0)) p o f in
    ap (first_fault n m before) (row_own gap person row j lt own) ∙ faultless_more n m before place (row_arcs gap person 0 (take j row)) (arc_for person j (get_or row j (pos 0)) ∷ []) e is (ap (λ (x : Option ListFault). option_or x None) none)

-- the arcs after those of the first entries
rest_of : (gap : ℤ) (person : ℕ) (row : List ℤ) (j : ℕ) → row_arcs gap person 0 row ≡ row_arcs gap person 0 (take (j + 1) row) ++ row_arcs gap person (0 + length (take (j + 1) row)) (drop (j + 1) row)
rest_of gap person row j = ap (row_arcs gap person 0) (sym (take-append-drop (j + 1) row)) ∙ row_parts gap person 0 (take (j + 1) row) (drop (j + 1) row)

-- the first fault of a row
pub first_of_row : (n m before place : ℕ) (gap : ℤ) (person : ℕ) (row : List ℤ) (j : ℕ) (fault : ListFault) → person < n → j < m → j < length row → get_or row j (pos 0) ≢ gap → first_fault n m before (row_arcs gap person 0 (take j row)) ≡ None
    → place ≡ before + length (row_arcs gap person 0 (take j row)) → entry_fault place (person * m + j) (get_or row j (pos 0)) ≡ Some fault → IsFirstFault n m before (row_arcs gap person 0 row) fault
first_of_row n m before place gap person row j fault p o lt own e is f =
    let some = entry_some n m person j place (get_or row j (pos 0)) fault p o f in
    let behind = row_arcs gap person (0 + length (take (j + 1) row)) (drop (j + 1) row) in
    record {
      before = row_arcs gap person 0 (take j row);
      arc = arc_for person j (get_or row j (pos 0));
      behind = row_arcs gap person (0 + length (take (j + 1) row)) (drop (j + 1) row);
      parts = rest_of gap person row j ∙ ap (λ (xs : List Arc). xs ++ row_arcs gap person (0 + length (take (j + 1) row)) (drop (j + 1) row)) (row_own gap person row j lt own)
          ∙ append_assoc (row_arcs gap person 0 (take j row)) (arc_for person j (get_or row j (pos 0)) ∷ []) (row_arcs gap person (0 + length (take (j + 1) row)) (drop (j + 1) row));
      faultless = e;
      found = some.0;
      found_is = ap (λ (i : ℕ). fault_at n m i (arc_for person j (get_or row j (pos 0)))) (sym is) ∙ some.1;
      told = some.2;
    }

-- a fault of arcs that have others before and after them
pub first_of_all : (n m place : ℕ) (front arcs back : List Arc) (fault : ListFault) → first_fault n m 0 front ≡ None → place ≡ length front → IsFirstFault n m place arcs fault → IsFirstFault n m 0 ((front ++ arcs) ++ back) fault
first_of_all n m place front arcs back fault e is h = let at : place ≡ 0 + length front = omega (arith, is) in record {
  before = front ++ h.before;
  arc = h.arc;
  behind = h.behind ++ back;
  parts = ap (λ (xs : List Arc). (front ++ xs) ++ back) h.parts ∙ ap (λ (xs : List Arc). xs ++ back) (sym (append_assoc front h.before (h.arc ∷ h.behind))) ∙ append_assoc (front ++ h.before) (h.arc ∷ h.behind) back;
  faultless = faultless_more n m 0 place front h.before e at h.faultless;
  found = h.found;
  found_is = let len : 0 + length (front ++ h.before) ≡ place + length h.before = omega (arith, is, length-append front h.before) in ap (λ (i : ℕ). fault_at n m i h.arc) len ∙ h.found_is;
  told = h.told;
}

-- the rows after the first ones
rows_from : (objects : ℕ) (costs : List ℤ) (stride : ℕ) (gap : ℤ) (person more : ℕ) → (back : List Arc) × (table_arcs objects costs stride gap (person + more) ≡ table_arcs objects costs stride gap person ++ back)
rows_from objects costs stride gap person zero = let e : person + zero ≡ person = omega arith in ([], ap (table_arcs objects costs stride gap) e ∙ sym (append-nil (table_arcs objects costs stride gap person)))
rows_from objects costs stride gap person (suc more) =
    let r = rows_from objects costs stride gap person more in
    let e : person + suc more ≡ suc (person + more) = omega arith in (
      r.0 ++ row_arcs gap (person + more) 0 (row_of objects costs stride (person + more)),
      ap (table_arcs objects costs stride gap) e ∙ ap (λ (xs : List Arc). xs ++ row_arcs gap (person + more) 0 (row_of objects costs stride (person + more))) r.1
          ∙ append_assoc (table_arcs objects costs stride gap person) r.0 (row_arcs gap (person + more) 0 (row_of objects costs stride (person + more))),
    )

pub table_more : (objects : ℕ) (costs : List ℤ) (stride : ℕ) (gap : ℤ) (person : ℕ) → table_arcs objects costs stride gap (person + 1) ≡ table_arcs objects costs stride gap person ++ row_arcs gap person 0 (row_of objects costs stride person)
table_more objects costs stride gap person = let e : person + 1 ≡ suc person = omega arith in ap (table_arcs objects costs stride gap) e

-- the first fault of a row is that of the table, where no row before has one
pub first_of_table : (n m place : ℕ) (costs : List ℤ) (stride : ℕ) (gap : ℤ) (person persons : ℕ) (fault : ListFault) → person < persons → first_fault n m 0 (table_arcs m costs stride gap person) ≡ None → place ≡ length (table_arcs m costs stride gap person)
    → IsFirstFault n m place (row_arcs gap person 0 (row_of m costs stride person)) fault → IsFirstFault n m 0 (table_arcs m costs stride gap persons) fault
first_of_table n m place costs stride gap person persons fault lt e is h =
    let r = rows_from m costs stride gap (person + 1) (persons - (person + 1)) in
    let len : person + 1 + (persons - (person + 1)) ≡ persons = omega (arith, lt) in
    let parts : table_arcs m costs stride gap persons ≡ (table_arcs m costs stride gap person ++ row_arcs gap person 0 (row_of m costs stride person)) ++ r.0 =
    ap (table_arcs m costs stride gap) (sym len) ∙ r.1 ∙ ap (λ (xs : List Arc). xs ++ r.0) (table_more m costs stride gap person) in
    subst (λ (xs : List Arc). IsFirstFault n m 0 xs fault) (sym parts) (first_of_all n m place (table_arcs m costs stride gap person) (row_arcs gap person 0 (row_of m costs stride person)) r.0 fault e is h)

-- the arcs of one more row
pub count_more : (m place next : ℕ) (costs : List ℤ) (stride : ℕ) (gap : ℤ) (person : ℕ) → place ≡ length (table_arcs m costs stride gap person) → next ≡ place + length (row_arcs gap person 0 (row_of m costs stride person)) → next ≡ length (table_arcs m costs stride gap (person + 1))
count_more m place next costs stride gap person is next_is =
    let len = length-append (table_arcs m costs stride gap person) (row_arcs gap person 0 (row_of m costs stride person)) in
    let more : next ≡ length (table_arcs m costs stride gap person ++ row_arcs gap person 0 (row_of m costs stride person)) = omega (arith, is, next_is, len) in
    more ∙ ap length (sym (table_more m costs stride gap person))

pub faultless_table : (n m place : ℕ) (costs : List ℤ) (stride : ℕ) (gap : ℤ) (person : ℕ) → first_fault n m 0 (table_arcs m costs stride gap person) ≡ None → place ≡ length (table_arcs m costs stride gap person)
    → first_fault n m place (row_arcs gap person 0 (row_of m costs stride person)) ≡ None → first_fault n m 0 (table_arcs m costs stride gap (person + 1)) ≡ None
faultless_table n m place costs stride gap person e is f =
    let at : place ≡ 0 + length (table_arcs m costs stride gap person) = omega (arith, is) in
    ap (first_fault n m 0) (table_more m costs stride gap person) ∙ faultless_more n m 0 place (table_arcs m costs stride gap person) (row_arcs gap person 0 (row_of m costs stride person)) e at f

few_by : (x y : Bool) (entry : ℕ) → cond x (Some TooManyArcs) (cond y None (Some (Cost entry))) ≡ None → x ≡ false
few_by true y entry e = absurd cc
few_by false y entry e = refl

entry_few : (place entry : ℕ) (cost : ℤ) → entry_fault place entry cost ≡ None → place < MOST_ARCS
entry_few place entry cost e = from_no MOST_ARCS place (few_by (nat_le MOST_ARCS place) (is_between (neg_ℤ MOST_COST) MOST_COST cost) entry e)

-- the place after the arcs of a row's first entries, none of which is at fault
pub record IsBehind (n m before : ℕ) (gap : ℤ) (person : ℕ) (row : List ℤ) (j place : ℕ) : Type 0 where
  pub place_is : place ≡ before + length (row_arcs gap person 0 (take j row))
  pub few : place ≤ MOST_ARCS
  pub faultless : first_fault n m before (row_arcs gap person 0 (take j row)) ≡ None

pub behind_gap : (n m before : ℕ) (gap : ℤ) (person : ℕ) (row : List ℤ) (j place next : ℕ) → j < length row → get_or row j (pos 0) ≡ gap → IsBehind n m before gap person row j place → next ≡ place → IsBehind n m before gap person row (j + 1) next
behind_gap n m before gap person row j place next lt e h is =
    let same = row_gap gap person row j lt e in
    record {
      place_is = is ∙ h.place_is ∙ ap (λ (xs : List Arc). before + length xs) (sym same);
      few = omega (arith, is, h.few);
      faultless = ap (first_fault n m before) same ∙ h.faultless;
    }

pub behind_own : (n m before : ℕ) (gap : ℤ) (person : ℕ) (row : List ℤ) (j place next : ℕ) → person < n → j < m → j < length row → get_or row j (pos 0) ≢ gap → entry_fault place (person * m + j) (get_or row j (pos 0)) ≡ None
    → IsBehind n m before gap person row j place → next ≡ place + 1 → IsBehind n m before gap person row (j + 1) next
behind_own n m before gap person row j place next p o lt own none h is =
    let len = length-append (row_arcs gap person 0 (take j row)) (arc_for person j (get_or row j (pos 0)) ∷ []) in
    let more : next ≡ before + length (row_arcs gap person 0 (take j row) ++ arc_for person j (get_or row j (pos 0)) ∷ []) = omega (arith, is, h.place_is, len) in
    let below = entry_few place (person * m + j) (get_or row j (pos 0)) none in
    record {
      place_is = more ∙ ap (λ (xs : List Arc). before + length xs) (sym (row_own gap person row j lt own));
      few = omega (arith, is, below);
      faultless = faultless_own n m before place gap person row j p o lt own h.faultless h.place_is none;
    }
