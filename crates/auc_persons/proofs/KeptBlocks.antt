-- Blocks of a shard, as candidate lists.
use Rattle.std.proofs.Common.{◌≡◌, ℕ, ◌+◌, inr, inl, List, [], ◌∷◌, ◌++◌, length, get_or, refl, arith, pos}
use Rattle.std.specs.Prelude.{ℤ, All, map}
use Rattle.std.specs.List.{AllByRecursion}
use Rattle.std.proofs.lemmas.List.Elements.{All-append, All-contains, All-contains_itself, All-from_recursion, All-map, All-weaker, Contains-append_left, Contains-append_right, Contains-get_or, recursion_from_All}
use Rattle.auc_graph.specs.declared.rows.RowArc.{RowArc}
use Rattle.auc_graph.specs.Bid.{value}
use Rattle.auc_graph.specs.Table.{Table, row_of}
use Rattle.auc_persons.specs.declared.bidder.bound.TheConstants.{NO_BOUND}
use Rattle.auc_persons.specs.declared.bidder.bound.Bound.{Bound}
use Rattle.auc_persons.specs.declared.bidder.bound.Blocked.{Blocked}
use Rattle.auc_persons.specs.Blocks.{AreRight, HasArcs, IsUnknown, of_blocked, of_bound}
use Rattle.auc_persons.specs.Candidates.{Keeps, KeepsListed, Kept}
use Rattle.auc_persons.specs.Scan.{copy_in}
use Rattle.auc_persons.proofs.SameRows.{Rises, same_row}
use Rattle.auc_persons.proofs.Shortlists.{none_keeps}

-- ---- lists of two parts, and what is seen of each element

pub front : {X : Type 0} (P : X → Type 0) (xs ys : List X) → All P (xs ++ ys) → All P xs
front P xs ys h k d lt = All-contains P (xs ++ ys) (get_or xs k d) h (Contains-append_left xs ys (get_or xs k d) (Contains-get_or xs k d lt))

pub behind : {X : Type 0} (P : X → Type 0) (xs ys : List X) → All P (xs ++ ys) → All P ys
behind P xs ys h k d lt = All-contains P (xs ++ ys) (get_or ys k d) h (Contains-append_right xs ys (get_or ys k d) (Contains-get_or ys k d lt))

seen_by : {X Y : Type 0} (P : X → Type 0) (f : Y → X) (ys : List Y) → AllByRecursion P (map f ys) → AllByRecursion (λ y. P (f y)) ys
seen_by P f [] h = h
seen_by P f (y ∷ ys) h = (h.0, seen_by P f ys h.1)

seen : {X Y : Type 0} (P : X → Type 0) (f : Y → X) (ys : List Y) → All P (map f ys) → All (λ y. P (f y)) ys
seen P f ys h = All-from_recursion (λ y. P (f y)) ys (seen_by P f ys (recursion_from_All P (map f ys) h))

-- ---- persons and bounds

pub kept_persons : (made t : Table) (copies : List ℤ) (persons : List Blocked) (bounds : List Bound) → Kept t copies (map (of_blocked made) persons ++ map (of_bound made) bounds) → All (λ b. KeepsListed t copies (of_blocked made b)) persons
kept_persons made t copies persons bounds kept = seen (KeepsListed t copies) (of_blocked made) persons (front (KeepsListed t copies) (map (of_blocked made) persons) (map (of_bound made) bounds) kept)

pub kept_bounds : (made t : Table) (copies : List ℤ) (persons : List Blocked) (bounds : List Bound) → Kept t copies (map (of_blocked made) persons ++ map (of_bound made) bounds) → AreRight made t copies bounds
kept_bounds made t copies persons bounds kept = seen (KeepsListed t copies) (of_bound made) bounds (behind (KeepsListed t copies) (map (of_blocked made) persons) (map (of_bound made) bounds) kept)

pub kept_of : (made t : Table) (copies : List ℤ) (persons : List Blocked) (bounds : List Bound) → All (λ b. KeepsListed t copies (of_blocked made b)) persons → AreRight made t copies bounds → Kept t copies (map (of_blocked made) persons ++ map (of_bound made) bounds)
kept_of made t copies persons bounds own right =
    All-append (KeepsListed t copies) (map (of_blocked made) persons) (map (of_bound made) bounds) (All-map (KeepsListed t copies) (of_blocked made) persons own) (All-map (KeepsListed t copies) (of_bound made) bounds right)

-- the row of a person is the one that is remembered
pub same_as : (made t : Table) (copies : List ℤ) (b : Blocked) (person : ℕ) → KeepsListed t copies (of_blocked made b) → HasArcs made b → b.person ≡ person → b.arcs ≡ length (row_of t person) → Rises (row_of t person) → row_of made person ≡ row_of t person
same_as made t copies b person keeps has own arcs rises =
    same_row (row_of t person) (row_of made person) rises (rw own at keeps.rising) (rw own at keeps.members) (omega (arith, rw own at has, arcs))

-- ---- new ones

pub whole_keeps : (val : RowArc → ℤ) (row : List RowArc) (bound : ℤ) → Rises row → Keeps val row row bound
whole_keeps val row bound rises = record { members = All-contains_itself row; rising = rises; rest = inr (λ k d lt. inl (Contains-get_or row k d lt)) }

unknown_is : (made t : Table) (copies : List ℤ) (b : Bound) → IsUnknown b → KeepsListed t copies (of_bound made b)
unknown_is made t copies b unknown = rw unknown (none_keeps (value (pos (length t.rows + 1)) (copy_in copies)) (row_of t b.person.value) [] NO_BOUND refl)

pub unknown_are : (made t : Table) (copies : List ℤ) (bounds : List Bound) → All IsUnknown bounds → AreRight made t copies bounds
unknown_are made t copies bounds unknown = All-weaker IsUnknown (λ b. KeepsListed t copies (of_bound made b)) (λ b u. unknown_is made t copies b u) bounds unknown

pub own_new : (t : Table) (copies : List ℤ) (persons : List Blocked) → All (λ b. Rises (row_of t b.person)) persons → All (λ b. KeepsListed t copies (of_blocked t b)) persons
own_new t copies persons rises = All-weaker (λ b. Rises (row_of t b.person)) (λ b. KeepsListed t copies (of_blocked t b)) (λ b r. whole_keeps (value (pos (length t.rows + 1)) (copy_in copies)) (row_of t b.person) (pos 0) r) persons rises
