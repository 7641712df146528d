-- What holds of the rows of a problem holds of its arcs.
use Rattle.std.proofs.Common.{◌≡◌, ◌≢◌, ◌⊎◌, ℕ, zero, suc, ◌+◌, ◌<◌, Bool, true, false, cond, eqb, List, [], ◌∷◌, length, get_or, map, Option, Some, refl, sym, ap, subst, ◌∙◌, arith, inl, inr, Contains, pos}
use Rattle.std.specs.Prelude.{filter, nat_eq}
use Rattle.std.specs.List.{slice_get, enumerate_from, range_with_len}
use Rattle.std.proofs.lemmas.Bool.{false≢true}
use Rattle.std.proofs.lemmas.Bool.Decides.{nat_tests}
use Rattle.std.proofs.lemmas.List.{length-map, get_or-map}
use Rattle.std.proofs.lemmas.List.Elements.{All-map}
use Rattle.std.proofs.lemmas.List.FromFn.{length-map-range_with_len, get_or-map-range_with_len}
use Rattle.std.proofs.lemmas.Map.Keys.{IsDistinct-from_apart}
use Rattle.std.proofs.lemmas.Option.{none-some, same_Some, slice_get_within, slice_get-get_or, get_or_from_slice_get}
use Rattle.auc_graph.specs.declared.arc.Arc.{Arc}
use Rattle.auc_graph.specs.declared.rows.RowArc.{RowArc}
use Rattle.auc_graph.specs.Problem.{Problem}
use Rattle.auc_graph.specs.Row.{row, row_arc, is_of}
use Rattle.auc_graph.specs.Table.{Table, IsTableOf, row_of}
use Rattle.auc_graph.specs.Assignment.{person_of, object_of}
use Rattle.auc_hall.specs.declared.matching.Matching.{Matching}
use Rattle.auc_hall.specs.declared.matching.Matching.TheVariants.{Full, Hall}
use Rattle.auc_hall.specs.Assignment.{IsFull, number_of}
use Rattle.auc_hall.specs.HallSet.{IsRowHallSet}
use Rattle.auc_graph.specs.HallSet.{IsHallSet}
use Rattle.auc_graph.proofs.RisingLaws.{rising_differ}
use Rattle.auc_hall.specs.OfProblem.{IsFullOf, AreKnown, IsHallSetOf}
use Rattle.auc_hall.specs.Matching.{IsMatching, IsMatchingOf}
use Rattle.auc_hall.proofs.Membership.{first_or_behind, behind, nothing, contains_at, place_of}

-- a row arc stands for this arc of the list, at its place
pub record StandsFor (arcs : List Arc) (i : ℕ) (a : RowArc) (b : Arc) : Type 0 where
  pub there : slice_get arcs a.arc ≡ Some b
  pub person : b.person ≡ i
  pub object : b.object ≡ a.object

first_kept : (kept : Bool) (x : ℕ × Arc) (xs : List (ℕ × Arc)) (a : RowArc) → Contains (map row_arc (cond kept (x ∷ xs) xs)) a → ((kept ≡ true) × (row_arc x ≡ a)) ⊎ Contains (map row_arc xs) a
first_kept true x xs a h = elim (first_or_behind (row_arc x) (map row_arc xs) a h) [ inl e ↦ inl (refl, e) | inr b ↦ inr b ]
first_kept false x xs a h = inr h

equal_if : (m n : ℕ) → eqb m n ≡ true → m ≡ n
equal_if m n h = grind (arith, nat_tests)

-- the arc of the list that is this arc of the row, and its place, where the first place has the number m
record IsAt (arcs : List Arc) (i m : ℕ) (a : RowArc) : Type 0 where
  pub at : ℕ
  pub arc : Arc
  pub there : slice_get arcs at ≡ Some arc
  pub person : arc.person ≡ i
  pub is : row_arc (m + at, arc) ≡ a

row_arc_at : (person m : ℕ) (arcs : List Arc) (a : RowArc) → Contains (map row_arc (filter (is_of person) (enumerate_from m arcs))) a → IsAt arcs person m a
row_arc_at person m [] a h = absurd (nothing a h)
row_arc_at person m (c ∷ arcs) a h = elim (first_kept (eqb c.person person) (m, c) (filter (is_of person) (enumerate_from (m + 1) arcs)) a h) [
  | inl p ↦ record { at = 0; arc = c; there = refl; person = equal_if c.person person p.0; is = ap (λ (k : ℕ). row_arc (k, c)) (omega arith) ∙ p.1 }
  | inr b ↦
      let x = row_arc_at person (m + 1) arcs a b in
      record { at = suc x.at; arc = x.arc; there = x.there; person = x.person; is = ap (λ (k : ℕ). row_arc (k, x.arc)) (omega arith) ∙ x.is }
]

pub stands_for : (person : ℕ) (arcs : List Arc) (a : RowArc) → Contains (row person arcs) a → (b : Arc) × StandsFor arcs person a b
unfolding row
stands_for person arcs a h =
    let x = row_arc_at person 0 arcs a h in
    let from_none : 0 + x.at ≡ x.at = omega arith in (
      x.arc,
      record {
        there = ap (slice_get arcs) (sym (ap (λ (r : RowArc). r.arc) x.is) ∙ from_none) ∙ x.there;
        person = x.person;
        object = ap (λ (r : RowArc). r.object) x.is;
      },
    )

if_kept : (kept : Bool) (x : ℕ × Arc) (xs : List (ℕ × Arc)) → kept ≡ true → Contains (map row_arc (cond kept (x ∷ xs) xs)) (row_arc x)
if_kept true x xs h = (0, omega arith, refl)
if_kept false x xs h = absurd (false≢true h)

behind_kept : (kept : Bool) (x : ℕ × Arc) (xs : List (ℕ × Arc)) (a : RowArc) → Contains (map row_arc xs) a → Contains (map row_arc (cond kept (x ∷ xs) xs)) a
behind_kept true x xs a h = behind (row_arc x) (map row_arc xs) a h
behind_kept false x xs a h = h

equal_is : (m n : ℕ) → m ≡ n → eqb m n ≡ true
equal_is m n e = grind (arith, nat_tests)

in_row_from : (person m : ℕ) (arcs : List Arc) (n : ℕ) (b : Arc) → slice_get arcs n ≡ Some b → b.person ≡ person → Contains (map row_arc (filter (is_of person) (enumerate_from m arcs))) (row_arc (m + n, b))
in_row_from person m [] n b h e = absurd (none-some b h)
in_row_from person m (c ∷ arcs) zero b h e =
    let is : c ≡ b = same_Some c b h in
    subst (λ (k : ℕ). Contains (map row_arc (filter (is_of person) (enumerate_from m (c ∷ arcs)))) (row_arc (k, b))) (omega arith)
    (subst (λ (d : Arc). Contains (map row_arc (filter (is_of person) (enumerate_from m (c ∷ arcs)))) (row_arc (m, d))) is
    (if_kept (eqb c.person person) (m, c) (filter (is_of person) (enumerate_from (m + 1) arcs)) (equal_is c.person person (ap (λ (d : Arc). d.person) is ∙ e))))
in_row_from person m (c ∷ arcs) (suc n) b h e =
    subst (λ (k : ℕ). Contains (map row_arc (filter (is_of person) (enumerate_from m (c ∷ arcs)))) (row_arc (k, b))) (omega arith)
    (behind_kept (eqb c.person person) (m, c) (filter (is_of person) (enumerate_from (m + 1) arcs)) (row_arc (m + 1 + n, b)) (in_row_from person (m + 1) arcs n b h e))

pub in_row : (person : ℕ) (arcs : List Arc) (n : ℕ) (b : Arc) → slice_get arcs n ≡ Some b → b.person ≡ person → Contains (row person arcs) (row_arc (n, b))
unfolding row
in_row person arcs n b h e = subst (λ (k : ℕ). Contains (map row_arc (filter (is_of person) (enumerate_from 0 arcs))) (row_arc (k, b))) (omega arith) (in_row_from person 0 arcs n b h e)

pub length-rows : (p : Problem) (t : Table) → IsTableOf p t → length t.rows ≡ p.persons
length-rows p t h = ap length h.rows ∙ length-map-range_with_len (λ person. row person p.arcs) 0 p.persons

pub row_is : (p : Problem) (t : Table) → IsTableOf p t → (i : ℕ) → i < p.persons → row_of t i ≡ row i p.arcs
row_is p t h i lt = ap (λ (rows : List (List RowArc)). get_or rows i []) h.rows ∙ get_or-map-range_with_len (λ person. row person p.arcs) 0 p.persons i i [] lt (omega arith)

pub hall_set_of : (p : Problem) (t : Table) (persons objects : List ℕ) → IsTableOf p t → IsRowHallSet t persons objects → IsHallSetOf p persons objects
hall_set_of p t persons objects of s =
    let persons_in : (i : ℕ) → Contains persons i → i < p.persons = λ i c. omega (arith, s.within i c, length-rows p t of) in
    let set : IsHallSet p persons objects = record {
      within = persons_in;
      different = rising_differ persons s.persons_rise;
      all = λ a c his.
          let at = place_of p.arcs a c in
          let his_row = subst (λ (r : List RowArc). Contains r (row_arc (at.0, a))) (sym (row_is p t of a.person (persons_in a.person his))) (in_row a.person p.arcs at.0 a at.1 refl) in
          s.all a.person a.object his (row_arc (at.0, a), his_row, refl);
      fewer = s.fewer;
    } in
    let only : AreKnown p persons objects = λ j c.
    let x = s.only j c in
    let b = stands_for x.0 p.arcs x.2.0 (subst (λ (r : List RowArc). Contains r x.2.0) (row_is p t of x.0 (persons_in x.0 x.1)) x.2.1) in
    (b.0, contains_at p.arcs x.2.0.arc b.0 b.1.there, subst (λ (i : ℕ). Contains persons i) (sym b.1.person) x.1, b.1.object ∙ x.2.2) in
    record { set = set; known = only; persons_rise = s.persons_rise; objects_rise = s.objects_rise }

-- the arc of the list for which a row arc stands
abbrev listed : List Arc → RowArc → Arc
listed arcs a = get_or arcs a.arc (record { person = 0; object = 0; cost = pos 0 })

abbrev pub no_arc : RowArc
no_arc = record { object = 0; cost = pos 0; arc = 0 }

-- each arc of the choice stands for one of its person
abbrev StandFor : List Arc → List RowArc → ℕ → Type 0
StandFor arcs choice first = (i : ℕ) (a : RowArc) → slice_get choice i ≡ Some a → StandsFor arcs (first + i) a (listed arcs a)

later : (arcs : List Arc) (a : RowArc) (choice : List RowArc) (first : ℕ) → StandFor arcs (a ∷ choice) first → StandFor arcs choice (first + 1)
later arcs a choice first h i b e = subst (λ (n : ℕ). StandsFor arcs n b (listed arcs b)) (omega arith) (h (suc i) b e)

numbers_are : (arcs : List Arc) (choice : List RowArc) (first : ℕ) → StandFor arcs choice first → map (slice_get arcs) (map number_of choice) ≡ map Some (map (listed arcs) choice)
numbers_are arcs [] first h = refl
numbers_are arcs (a ∷ choice) first h =
    ap (λ (o : Option Arc). o ∷ map (slice_get arcs) (map number_of choice)) (h 0 a refl).there
    ∙ ap (λ (os : List (Option Arc)). Some (listed arcs a) ∷ os) (numbers_are arcs choice (first + 1) (later arcs a choice first h))

persons_are : (arcs : List Arc) (choice : List RowArc) (first : ℕ) → StandFor arcs choice first → map person_of (map (listed arcs) choice) ≡ range_with_len first (length choice)
persons_are arcs [] first h = refl
persons_are arcs (a ∷ choice) first h =
    let is : (listed arcs a).person ≡ first = (h 0 a refl).person ∙ omega arith in
    ap (λ (k : ℕ). k ∷ map person_of (map (listed arcs) choice)) is
    ∙ ap (λ (ks : List ℕ). first ∷ ks) (persons_are arcs choice (first + 1) (later arcs a choice first h))

-- the object of the arc at this place of the choice
object_at : (arcs : List Arc) (choice : List RowArc) → StandFor arcs choice 0 → (i d : ℕ) → i < length choice → get_or (map object_of (map (listed arcs) choice)) i d ≡ (get_or choice i no_arc).object
object_at arcs choice h i d lt =
    let len : i < length (map (listed arcs) choice) = omega (arith, length-map choice (listed arcs)) in
    get_or-map object_of (map (listed arcs) choice) i (listed arcs no_arc) d len
    ∙ ap object_of (get_or-map (listed arcs) choice i no_arc (listed arcs no_arc) lt)
    ∙ (h i (get_or choice i no_arc) (slice_get-get_or choice i no_arc lt)).object

not_equal : (m n : ℕ) → m ≢ n → eqb m n ≡ false
not_equal m n ne = grind (arith, nat_tests)

pub full_of : (p : Problem) (t : Table) (numbers : List ℕ) → IsTableOf p t → IsFull t numbers → IsFullOf p numbers
full_of p t numbers of f =
    let choice = f.choice in
    let same_length : length choice ≡ p.persons = f.assigned.persons ∙ length-rows p t of in
    let h : StandFor p.arcs choice 0 = λ i a e.
    let lt : i < p.persons = omega (arith, same_length, slice_get_within choice i a e) in
    let x = stands_for i p.arcs a (subst (λ (r : List RowArc). Contains r a) (row_is p t of i lt) (f.assigned.own i a e)) in
    let is : x.0 ≡ listed p.arcs a = sym (get_or_from_slice_get p.arcs a.arc x.0 (record { person = 0; object = 0; cost = pos 0 }) x.1.there) in
    subst (λ (n : ℕ). StandsFor p.arcs n a (listed p.arcs a)) (omega arith) (subst (λ (b : Arc). StandsFor p.arcs i a b) is x.1)
    in record {
      choice = map (listed p.arcs) choice;
      assigned = record {
        persons = persons_are p.arcs choice 0 h ∙ ap (range_with_len 0) same_length;
        arcs = All-map (Contains p.arcs) (listed p.arcs) choice (λ i d lt. contains_at p.arcs (get_or choice i d).arc (listed p.arcs (get_or choice i d)) (h i (get_or choice i d) (slice_get-get_or choice i d lt)).there);
        objects = IsDistinct-from_apart nat_eq (map object_of (map (listed p.arcs) choice)) (λ i j d lt in_list.
            let len : length (map object_of (map (listed p.arcs) choice)) ≡ length choice = length-map (map (listed p.arcs) choice) object_of ∙ length-map choice (listed p.arcs) in
            let i_in : i < length choice = omega (arith, len) in
            let j_in : j < length choice = omega (arith, len) in
            not_equal (get_or (map object_of (map (listed p.arcs) choice)) i d) (get_or (map object_of (map (listed p.arcs) choice)) j d)
            (λ e. absurd (omega (arith, f.assigned.objects i j (get_or choice i no_arc) (get_or choice j no_arc) (slice_get-get_or choice i no_arc i_in) (slice_get-get_or choice j no_arc j_in) (sym (object_at p.arcs choice h i d i_in) ∙ e ∙ object_at p.arcs choice h j d j_in)))));
      };
      arcs_are = ap (map (slice_get p.arcs)) f.numbers_are ∙ numbers_are p.arcs choice 0 h;
    }

pub matching_of : (p : Problem) (t : Table) (m : Matching) → IsTableOf p t → IsMatching t m → IsMatchingOf p m
matching_of p t (Full numbers) of h = full_of p t numbers of h
matching_of p t (Hall persons objects) of h = hall_set_of p t persons objects of h
