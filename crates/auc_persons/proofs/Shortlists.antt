-- Candidate lists.
use Rattle.std.proofs.Common.{◌≡◌, ℕ, zero, suc, Bool, true, false, ◌+◌, ◌-◌, ◌<◌, ◌≤◌, ◌⊎◌, inl, inr, List, [], ◌∷◌, ◌++◌, length, get_or, take, ap, refl, arith, pos, Option, Some, None}
use Rattle.std.specs.Prelude.{ℤ, ◌≤ℤ◌, All, AllPairs, Contains, IfSome}
use Rattle.std.proofs.lemmas.Int.{ints}
use Rattle.std.proofs.lemmas.Bool.{cases_lt}
use Rattle.std.proofs.lemmas.List.{get_or-take, take_more, take_all, length-take}
use Rattle.std.proofs.lemmas.List.Elements.{All-contains, All-from_get_or, All-nil, All-push, All-weaker, Contains-append_left, Contains-push}
use Rattle.std.proofs.lemmas.List.Quantifiers.{all_pairs_push}
use Rattle.auc_graph.specs.declared.rows.RowArc.{RowArc}
use Rattle.auc_graph.specs.Bid.{value}
use Rattle.auc_graph.specs.Table.{IsRow, IsRowArc, Table, row_of}
use Rattle.auc_persons.specs.declared.bidder.scan.Scan.{Scan}
use Rattle.auc_persons.specs.Candidates.{Decides, Gathered, Keeps, KeepsListed, Kept, Listed, no_list}
use Rattle.auc_persons.specs.Persons.{NeverFall}
use Rattle.auc_persons.specs.Scan.{copy_in, IsScan, Reached}
use Rattle.auc_persons.specs.Priced.{no_arc}
use Rattle.auc_persons.specs.Search.{IsFound}
use Rattle.auc_persons.proofs.Found.{found_in_some}

-- ---- what a list decides

decided_least : (val : RowArc → ℤ) (arcs : List RowArc) (bound : ℤ) (f : Scan) (b : RowArc) → IsScan val arcs f → Decides bound f → Contains arcs b ⊎ (bound ≤ℤ val b) → f.value ≤ℤ val b
decided_least val arcs bound f b s d (inl there) = All-contains (λ x. f.value ≤ℤ val x) arcs b s.least there
decided_least val arcs bound f b s d (inr out) = let best = d.best in omega (arith, ints, best, out)

decided_lowest : (val : RowArc → ℤ) (arcs : List RowArc) (bound : ℤ) (f : Scan) (b : RowArc) → IsScan val arcs f → Decides bound f → Contains arcs b ⊎ (bound ≤ℤ val b) → f.value ≡ val b → f.best.object ≤ b.object
decided_lowest val arcs bound f b s d (inl there) e = All-contains (λ x. f.value ≡ val x → f.best.object ≤ x.object) arcs b s.lowest there e
decided_lowest val arcs bound f b s d (inr out) e = let best = d.best in absurd (omega (arith, ints, best, out, e))

decided_earliest : (val : RowArc → ℤ) (arcs : List RowArc) (bound : ℤ) (f : Scan) (b : RowArc) → IsScan val arcs f → Decides bound f → Contains arcs b ⊎ (bound ≤ℤ val b) → f.value ≡ val b → f.best.object ≡ b.object → f.best.arc ≤ b.arc
decided_earliest val arcs bound f b s d (inl there) e o = All-contains (λ x. f.value ≡ val x → f.best.object ≡ x.object → f.best.arc ≤ x.arc) arcs b s.earliest there e o
decided_earliest val arcs bound f b s d (inr out) e o = let best = d.best in absurd (omega (arith, ints, best, out, e))

decided_others : (val : RowArc → ℤ) (arcs : List RowArc) (bound : ℤ) (f : Scan) (b : RowArc) → IsScan val arcs f → Decides bound f → Contains arcs b ⊎ (bound ≤ℤ val b) → (b.object ≡ f.best.object → ⊥) → f.second ≤ℤ val b
decided_others val arcs bound f b s d (inl there) ne = All-contains (λ x. (x.object ≡ f.best.object → ⊥) → f.second ≤ℤ val x) arcs b s.others there ne
decided_others val arcs bound f b s d (inr out) ne = let next = d.next in omega (arith, ints, next, out)

decided_reached : (val : RowArc → ℤ) (row arcs : List RowArc) (bound : ℤ) (f : Scan) → All (Contains row) arcs → Decides bound f → Reached val arcs f.best f.second → Reached val row f.best f.second
decided_reached val row arcs bound f members d (inl none) = let some = d.some in absurd (omega (arith, ints, none.1, some))
decided_reached val row arcs bound f members d (inr r) = inr (record { arc = r.arc; listed = All-contains (Contains row) arcs r.arc members r.listed; other = r.other; value_is = r.value_is; in_range = r.in_range })

pub decided_by : (val : RowArc → ℤ) (row arcs : List RowArc) (bound : ℤ) (f : Scan) → IsScan val arcs f → Decides bound f → All (Contains row) arcs → (arcs ≡ []) ⊎ All (λ b. Contains arcs b ⊎ (bound ≤ℤ val b)) row → IsScan val row f
decided_by val row arcs bound f s d members (inl none) = absurd (omega (arith, s.listed.1, ap length none))
decided_by val row arcs bound f s d members (inr rest) = record {
  listed = All-contains (Contains row) arcs f.best members s.listed;
  is_value = s.is_value;
  in_range = s.in_range;
  least = All-weaker (λ b. Contains arcs b ⊎ (bound ≤ℤ val b)) (λ b. f.value ≤ℤ val b) (λ b c. decided_least val arcs bound f b s d c) row rest;
  lowest = All-weaker (λ b. Contains arcs b ⊎ (bound ≤ℤ val b)) (λ b. f.value ≡ val b → f.best.object ≤ b.object) (λ b c. decided_lowest val arcs bound f b s d c) row rest;
  earliest = All-weaker (λ b. Contains arcs b ⊎ (bound ≤ℤ val b)) (λ b. f.value ≡ val b → f.best.object ≡ b.object → f.best.arc ≤ b.arc) (λ b c. decided_earliest val arcs bound f b s d c) row rest;
  others = All-weaker (λ b. Contains arcs b ⊎ (bound ≤ℤ val b)) (λ b. (b.object ≡ f.best.object → ⊥) → f.second ≤ℤ val b) (λ b c. decided_others val arcs bound f b s d c) row rest;
  reached = decided_reached val row arcs bound f members d s.reached;
}

-- a pass over the list that decides is one over the row
pub decided_is : (val : RowArc → ℤ) (row arcs : List RowArc) (bound : ℤ) (f : Scan) → Keeps val row arcs bound → IsScan val arcs f → Decides bound f → IsScan val row f
decided_is val row arcs bound f keeps s d = decided_by val row arcs bound f s d keeps.members keeps.rest

pub decided_if : (val : RowArc → ℤ) (row arcs : List RowArc) (bound : ℤ) (r : Option Scan) → Keeps val row arcs bound → IfSome r (IsScan val arcs) → IfSome r (λ f. Decides bound f → IsScan val row f)
decided_if val row arcs bound None keeps s = tt
decided_if val row arcs bound (Some f) keeps s = λ d. decided_is val row arcs bound f keeps s d

pub found_if : (val : RowArc → ℤ) (row arcs : List RowArc) (bound : ℤ) (r : Option Scan) → Keeps val row arcs bound → IfSome r (IsScan val arcs) → IfSome r (IsFound val row)
found_if val row arcs bound None keeps s = tt
found_if val row arcs bound (Some f) keeps s = found_in_some val row arcs f keeps.members s

-- a list is a row
pub list_is_row : (val : RowArc → ℤ) (objects : ℕ) (row arcs : List RowArc) (bound : ℤ) → IsRow objects row → Keeps val row arcs bound → length arcs ≤ 24 → IsRow objects arcs
list_is_row val objects row arcs bound is keeps few = record {
  within = All-weaker (Contains row) (IsRowArc objects) (λ b there. All-contains (IsRowArc objects) row b is.within there) arcs keeps.members;
  rising = keeps.rising;
  few = omega (arith, few);
}

-- ---- making a list

pub gathered_none : (val : RowArc → ℤ) (bound : ℤ) → Gathered val [] [] bound
gathered_none val bound = record {
  members = All-nil (Contains []);
  rising = λ i j d lt below. absurd (omega (arith, below));
  rest = All-nil (λ b. Contains [] b ⊎ (bound ≤ℤ val b));
}

grown : (val : RowArc → ℤ) (arcs : List RowArc) (bound : ℤ) (a b : RowArc) → Contains arcs b ⊎ (bound ≤ℤ val b) → Contains (arcs ++ a ∷ []) b ⊎ (bound ≤ℤ val b)
grown val arcs bound a b (inl there) = inl (Contains-append_left arcs (a ∷ []) b there)
grown val arcs bound a b (inr out) = inr out

pub gathered_one : (val : RowArc → ℤ) (seen arcs : List RowArc) (bound : ℤ) (a : RowArc) → Gathered val seen arcs bound → All (λ x. x.arc < a.arc) seen → Gathered val (seen ++ a ∷ []) (arcs ++ a ∷ []) bound
gathered_one val seen arcs bound a g below = record {
  members = All-push (Contains (seen ++ a ∷ [])) arcs a (All-weaker (Contains seen) (Contains (seen ++ a ∷ [])) (λ b there. Contains-append_left seen (a ∷ []) b there) arcs g.members) (Contains-push seen a);
  rising = all_pairs_push (λ x y. x.arc < y.arc) arcs a g.rising (λ k d lt. All-contains (λ x. x.arc < a.arc) seen (get_or arcs k d) below (g.members k d lt));
  rest = All-push (λ b. Contains (arcs ++ a ∷ []) b ⊎ (bound ≤ℤ val b)) seen a (All-weaker (λ b. Contains arcs b ⊎ (bound ≤ℤ val b)) (λ b. Contains (arcs ++ a ∷ []) b ⊎ (bound ≤ℤ val b)) (λ b c. grown val arcs bound a b c) seen g.rest) (inl (Contains-push arcs a));
}

pub gathered_out : (val : RowArc → ℤ) (seen arcs : List RowArc) (bound : ℤ) (a : RowArc) → Gathered val seen arcs bound → bound ≤ℤ val a → Gathered val (seen ++ a ∷ []) arcs bound
gathered_out val seen arcs bound a g out = record {
  members = All-weaker (Contains seen) (Contains (seen ++ a ∷ [])) (λ b there. Contains-append_left seen (a ∷ []) b there) arcs g.members;
  rising = g.rising;
  rest = All-push (λ b. Contains arcs b ⊎ (bound ≤ℤ val b)) seen a g.rest (inr out);
}

-- all that were seen come before
pub all_before : (row : List RowArc) (i : ℕ) → AllPairs (λ x y. x.arc < y.arc) row → i < length row → All (λ x. x.arc < (get_or row i no_arc).arc) (take i row)
all_before row i order lt = All-from_get_or (λ x. x.arc < (get_or row i no_arc).arc) (take i row) no_arc (λ k below.
    let k_lt : k < i = omega (arith, length-take i row, below) in
    rw (get_or-take i row k no_arc k_lt) (order k i no_arc k_lt lt))

module _ (val : RowArc → ℤ) (row arcs : List RowArc) (bound : ℤ) (i : ℕ) (order : AllPairs (λ a b. a.arc < b.arc) row) (lt : i < length row) (g : Gathered val (take i row) arcs bound) where
  pub row_one : Gathered val (take (i + 1) row) (arcs ++ get_or row i no_arc ∷ []) bound
  row_one = rw (take_more row i no_arc lt) (gathered_one val (take i row) arcs bound (get_or row i no_arc) g (all_before row i order lt))

  pub row_out : bound ≤ℤ val (get_or row i no_arc) → Gathered val (take (i + 1) row) arcs bound
  row_out out = rw (take_more row i no_arc lt) (gathered_out val (take i row) arcs bound (get_or row i no_arc) g out)

-- places that are left out, since the values there are the bound or above
out_by : (val : RowArc → ℤ) (row arcs : List RowArc) (bound : ℤ) (i : ℕ) → AllPairs (λ a b. a.arc < b.arc) row → (i < length row → bound ≤ℤ val (get_or row i no_arc)) → Gathered val (take i row) arcs bound → (i < length row) ⊎ (length row ≤ i) → Gathered val (take (i + 1) row) arcs bound
out_by val row arcs bound i order out g (inl lt) = row_out val row arcs bound i order lt g (out lt)
out_by val row arcs bound i order out g (inr le) = rw (take_all (i + 1) row (omega (arith, le))) (rw (take_all i row le) at g)

outs : (val : RowArc → ℤ) (row arcs : List RowArc) (bound : ℤ) (i n : ℕ) → AllPairs (λ a b. a.arc < b.arc) row → ((k : ℕ) → i ≤ k → k < i + n → k < length row → bound ≤ℤ val (get_or row k no_arc)) → Gathered val (take i row) arcs bound → (j : ℕ) → j ≡ i + n → Gathered val (take j row) arcs bound
outs val row arcs bound i zero order out g j e = let same : j ≡ i = omega (arith, e) in rw same g
outs val row arcs bound i (suc n) order out g j e =
    let before = outs val row arcs bound i n order (λ k le lt below. out k le (omega (arith, lt)) below) g (i + n) refl in
    let next = out_by val row arcs bound (i + n) order (λ lt. out (i + n) (omega arith) (omega arith) lt) before (cases_lt (i + n) (length row)) in
    let same : j ≡ i + n + 1 = omega (arith, e) in
    rw same next

pub gathered_to : (val : RowArc → ℤ) (row arcs : List RowArc) (bound : ℤ) (i j : ℕ) → AllPairs (λ a b. a.arc < b.arc) row → i ≤ j → ((k : ℕ) → i ≤ k → k < j → k < length row → bound ≤ℤ val (get_or row k no_arc)) → Gathered val (take i row) arcs bound → Gathered val (take j row) arcs bound
gathered_to val row arcs bound i j order le out g = outs val row arcs bound i (j - i) order (λ k low lt below. out k low (omega (arith, le, lt)) below) g j (omega (arith, le))

pub gathered_keeps : (val : RowArc → ℤ) (row arcs : List RowArc) (bound : ℤ) (i : ℕ) → length row ≤ i → Gathered val (take i row) arcs bound → Keeps val row arcs bound
gathered_keeps val row arcs bound i le g =
    let all = rw (take_all i row le) at g in
    record { members = all.members; rising = all.rising; rest = inr all.rest }

-- a list with no arc says nothing
pub none_keeps : (val : RowArc → ℤ) (row arcs : List RowArc) (bound : ℤ) → arcs ≡ [] → Keeps val row arcs bound
none_keeps val row arcs bound none = rw none (record { members = All-nil (Contains row); rising = λ i j d lt below. absurd (omega (arith, below)); rest = inl refl })

-- a list that took all arcs below its bound, or none
pub taken_keeps : (val : RowArc → ℤ) (row arcs : List RowArc) (bound : ℤ) (i : ℕ) (fitted : Bool) → length row ≤ i → (fitted ≡ true → Gathered val (take i row) arcs bound) → (fitted ≡ false → arcs ≡ []) → Keeps val row arcs bound
taken_keeps val row arcs bound i true le all none = gathered_keeps val row arcs bound i le (all refl)
taken_keeps val row arcs bound i false le all none = none_keeps val row arcs bound (none refl)

-- ---- copies rise

value_rises : (scale : ℤ) (q r : List ℤ) (b : RowArc) → NeverFall q r → value scale (copy_in q) b ≤ℤ value scale (copy_in r) b
value_rises scale q r b rise = let up = rise b.object in omega (arith, ints, up)

rest_rises : (scale : ℤ) (q r : List ℤ) (arcs : List RowArc) (bound : ℤ) (b : RowArc) → NeverFall q r → Contains arcs b ⊎ (bound ≤ℤ value scale (copy_in q) b) → Contains arcs b ⊎ (bound ≤ℤ value scale (copy_in r) b)
rest_rises scale q r arcs bound b rise (inl there) = inl there
rest_rises scale q r arcs bound b rise (inr out) = let up = value_rises scale q r b rise in inr (omega (arith, ints, up, out))

all_rise : (scale : ℤ) (q r : List ℤ) (row arcs : List RowArc) (bound : ℤ) → NeverFall q r → (arcs ≡ []) ⊎ All (λ b. Contains arcs b ⊎ (bound ≤ℤ value scale (copy_in q) b)) row → (arcs ≡ []) ⊎ All (λ b. Contains arcs b ⊎ (bound ≤ℤ value scale (copy_in r) b)) row
all_rise scale q r row arcs bound rise (inl none) = inl none
all_rise scale q r row arcs bound rise (inr rest) = inr (All-weaker (λ b. Contains arcs b ⊎ (bound ≤ℤ value scale (copy_in q) b)) (λ b. Contains arcs b ⊎ (bound ≤ℤ value scale (copy_in r) b)) (λ b c. rest_rises scale q r arcs bound b rise c) row rest)

keeps_rises : (t : Table) (q r : List ℤ) (l : Listed) → NeverFall q r → KeepsListed t q l → KeepsListed t r l
keeps_rises t q r l rise k = record { members = k.members; rising = k.rising; rest = all_rise (pos (length t.rows + 1)) q r _ l.arcs l.bound rise k.rest }

pub kept_rises : (t : Table) (q r : List ℤ) (lists : List Listed) → NeverFall q r → Kept t q lists → Kept t r lists
kept_rises t q r lists rise kept = All-weaker (KeepsListed t q) (KeepsListed t r) (λ l k. keeps_rises t q r l rise k) lists kept

-- a new list for a person
pub keeps_new : (t : Table) (copies : List ℤ) (person : ℕ) → KeepsListed t copies (no_list person)
keeps_new t copies person = none_keeps (value (pos (length t.rows + 1)) (copy_in copies)) _ [] (pos 0) refl

-- what a list says of the row of its person
pub keeps_at : (t : Table) (copies : List ℤ) (l : Listed) (person : ℕ) (scale : ℤ) (row : List RowArc) → KeepsListed t copies l → l.person ≡ person → scale ≡ pos (length t.rows + 1) → row ≡ row_of t person → Keeps (value scale (copy_in copies)) row l.arcs l.bound
keeps_at t copies l person scale row k own is here = rw (is, here, ← own) k

pub keeps_back : (t : Table) (copies : List ℤ) (l : Listed) (person : ℕ) (scale : ℤ) (row : List RowArc) → Keeps (value scale (copy_in copies)) row l.arcs l.bound → l.person ≡ person → scale ≡ pos (length t.rows + 1) → row ≡ row_of t person → KeepsListed t copies l
keeps_back t copies l person scale row k own is here = rw (own, ← is, ← here) k
