-- The answer is an assignment or a Hall set.
use Rattle.std.proofs.Common.{◌≡◌, ◌≢◌, ℕ, zero, suc, ◌+◌, ◌<◌, Bool, true, false, List, [], ◌∷◌, ◌++◌, length, get_or, set, take, drop, map, Option, Some, None, refl, sym, ap, subst, ◌∙◌, arith, inl, inr, Contains, append_assoc, replicate}
use Rattle.std.specs.List.{slice_get}
use Rattle.std.proofs.lemmas.List.{take_more, drop_more, length-set, length-append, length-replicate, get_or-set_same, get_or-set_other}
use Rattle.std.proofs.lemmas.List.Elements.{All-contains}
use Rattle.std.proofs.lemmas.Bool.{cases_eq, cases_Bool, both_ways}
use Rattle.std.proofs.lemmas.Option.{none-some, same_Some, slice_get_within}
use Rattle.auc_graph.specs.declared.rows.RowArc.{RowArc}
use Rattle.auc_graph.specs.Table.{Table, row_of}
use Rattle.auc_hall.specs.declared.search.Reached.{Reached}
use Rattle.auc_hall.specs.Assignment.{number_of, IsRowAssignment}
use Rattle.auc_hall.specs.HallSet.{IsRowHallSet}
use Rattle.auc_hall.specs.Partial.{pick}
use Rattle.auc_hall.specs.Matched.{IsPlaced, IsMatched}
use Rattle.auc_hall.specs.Search.{WasSeen, AreKnown, AreSeen, IsTrail, AreWalked}
use Rattle.auc_hall.specs.Chosen.{places, chosen, AreReached, ArePersons}
use Rattle.auc_hall.proofs.QueueLaws.{blank, entry, get_kept, get_pushed, get_cases, get_front}
use Rattle.auc_hall.proofs.FlagLaws.{count_set, count_none, seen_kept, seen_within, no_flag, place_only, place_all, length-places, places_rise}
use Rattle.auc_hall.proofs.SearchLaws.{starts}

chosen_some : (o : Option RowArc) (a : RowArc) (rest : List (Option RowArc)) → o ≡ Some a → chosen (o ∷ rest) ≡ a ∷ chosen rest
chosen_some (Some b) a rest h = ap (λ (x : RowArc). x ∷ chosen rest) (same_Some b a h)
chosen_some None a rest h = absurd (none-some a h)

chosen_none : (o : Option RowArc) (rest : List (Option RowArc)) → o ≡ None → chosen (o ∷ rest) ≡ chosen rest
chosen_none None rest h = refl
chosen_none (Some b) rest h = absurd (none-some b (sym h))

pub number_more : (out : List ℕ) (choice : List (Option RowArc)) (all : List ℕ) (i : ℕ) (a : RowArc) → i < length choice → get_or choice i None ≡ Some a → out ++ map number_of (chosen (drop i choice)) ≡ all → (out ++ a.arc ∷ []) ++ map number_of (chosen (drop (i + 1) choice)) ≡ all
number_more out choice all i a lt h told =
    append_assoc out (a.arc ∷ []) (map number_of (chosen (drop (i + 1) choice)))
    ∙ ap (λ (x : List RowArc). out ++ map number_of x) (sym (ap chosen (drop_more choice i None lt) ∙ chosen_some (get_or choice i None) a (drop (i + 1) choice) h)) ∙ told

pub number_past : (out : List ℕ) (choice : List (Option RowArc)) (all : List ℕ) (i : ℕ) → i < length choice → get_or choice i None ≡ None → out ++ map number_of (chosen (drop i choice)) ≡ all → out ++ map number_of (chosen (drop (i + 1) choice)) ≡ all
number_past out choice all i lt h told =
    ap (λ (x : List RowArc). out ++ map number_of x) (sym (ap chosen (drop_more choice i None lt) ∙ chosen_none (get_or choice i None) (drop (i + 1) choice) h)) ∙ told

-- the flag of one more person of the queue
flag_pushed : (queue : List Reached) (persons : ℕ) (flags : List Bool) (e : Reached) → AreReached queue persons flags → e.person < persons → ((m : ℕ) (f : Reached) → slice_get queue m ≡ Some f → f.person ≢ e.person) → AreReached (queue ++ e ∷ []) persons (set flags e.person true)
flag_pushed queue persons flags e r lt new =
    let room : e.person < length flags = omega (arith, r.size) in
    let unset : get_or flags e.person false ≡ false = elim (cases_Bool (get_or flags e.person false)) [ inl t ↦ (let x = r.only e.person t in absurd (new x.at x.by x.there x.person)) | inr f ↦ f ] in
    record {
      size = length-set flags e.person true ∙ r.size;
      all = λ m f h. elim (get_cases queue e m f h) [
        | inl p ↦ seen_kept flags e.person f.person room (r.all m f p)
        | inr p ↦ subst (λ (q : Reached). WasSeen (set flags e.person true) q.person) p.1 (get_or-set_same flags e.person true false room)
      ];
      only = λ i h. elim (cases_eq i e.person) [
        | inl same ↦ record { at = length queue; by = e; there = get_pushed queue e; person = sym same }
        | inr n ↦
            let x = r.only i (sym (get_or-set_other flags e.person i true false n) ∙ h) in
            record { at = x.at; by = x.by; there = get_kept queue (e ∷ []) x.at x.by x.there; person = x.person }
      ];
      count = omega (arith, count_set flags e.person room unset, r.count, length-append queue (e ∷ []));
    }

pub flag_more : (queue : List Reached) (persons : ℕ) (flags : List Bool) (i : ℕ) → ArePersons queue persons → i < length queue → AreReached (take i queue) persons flags → AreReached (take (i + 1) queue) persons (set flags (get_or queue i blank).person true)
flag_more queue persons flags i p lt r =
    let e = entry queue i lt in
    subst (λ (q : List Reached). AreReached q persons (set flags (get_or queue i blank).person true)) (sym (take_more queue i blank lt))
    (flag_pushed (take i queue) persons flags (get_or queue i blank) r (p.within i (get_or queue i blank) e)
    (λ m f h. let x = get_front queue i m f h in p.apart m i f (get_or queue i blank) x.1 e x.0))

pub no_flags : (flags : List Bool) (persons : ℕ) → flags ≡ replicate persons false → AreReached [] persons flags
no_flags flags persons is =
    let none : (j : ℕ) → get_or flags j false ≡ false = λ j. ap (λ (x : List Bool). get_or x j false) is ∙ no_flag persons j in
    record {
      size = ap length is ∙ length-replicate persons false;
      all = λ m e h. absurd (none-some e h);
      only = λ i h. absurd (both_ways (get_or flags i false) (none i) h);
      count = count_none flags none;
    }

-- The persons reached by the search have arcs only to the objects seen, which are one fewer: a Hall set.
pub is_hall_set : (t : Table) (queue : List Reached) (seen flags : List Bool) → AreKnown t queue → AreSeen t queue seen → AreWalked t queue seen (length queue) → AreReached queue (length t.rows) flags
    → IsRowHallSet t (places 0 flags) (places 0 seen)
is_hall_set t queue seen flags known marks walked r =
    record {
      within = λ i c.
          let x = place_only 0 flags i c in
          omega (arith, x.1, seen_within flags x.0 x.2, r.size);
      persons_rise = places_rise 0 flags;
      objects_rise = places_rise 0 seen;
      all = λ i j c k.
          let x = place_only 0 flags i c in
          let y = r.only x.0 x.2 in
          let same : y.by.person ≡ i = omega (arith, x.1, y.person) in
          let hers : Contains (row_of t y.by.person) k.0 = subst (λ (n : ℕ). Contains (row_of t n) k.0) (sym same) k.1 in
          let was = All-contains (λ (a : RowArc). WasSeen seen a.object) (row_of t y.by.person) k.0 (walked y.at y.by (slice_get_within queue y.at y.by y.there) y.there) hers in
          place_all 0 seen k.0.object was j (omega (arith, k.2));
      only = λ j c.
          let x = place_only 0 seen j c in
          let y = marks.behind x.0 x.2 in
          let from = known y.at y.by y.there y.later in
          (from.by.person, place_all 0 flags from.by.person (r.all y.by.parent from.by from.there) from.by.person (omega arith), (y.by.arc, from.own, omega (arith, x.1, y.object)));
      fewer = omega (arith, length-places 0 flags, length-places 0 seen, marks.count, r.count);
    }

get_chosen : (choice : List (Option RowArc)) → ((i : ℕ) → i < length choice → IsPlaced choice i) → (i : ℕ) (a : RowArc) → slice_get (chosen choice) i ≡ Some a → pick choice i ≡ Some a
get_chosen [] all i a h = absurd (none-some a h)
get_chosen (Some b ∷ choice) all zero a h = h
get_chosen (Some b ∷ choice) all (suc i) a h = get_chosen choice (λ k lt. all (suc k) (omega arith)) i a h
get_chosen (None ∷ choice) all i a h = let x = all 0 (omega arith) in absurd (none-some x.0 x.1)

length-chosen : (choice : List (Option RowArc)) → ((i : ℕ) → i < length choice → IsPlaced choice i) → length (chosen choice) ≡ length choice
length-chosen [] all = refl
length-chosen (Some b ∷ choice) all = ap suc (length-chosen choice (λ k lt. all (suc k) (omega arith)))
length-chosen (None ∷ choice) all = let x = all 0 (omega arith) in absurd (none-some x.0 x.1)

-- If each person has an arc, the arcs are an assignment.
pub is_assignment : (t : Table) (choice : List (Option RowArc)) (holder : List (Option ℕ)) → IsMatched t choice holder → ((i : ℕ) → i < length t.rows → IsPlaced choice i) → IsRowAssignment t (chosen choice)
is_assignment t choice holder m done =
    let all : (i : ℕ) → i < length choice → IsPlaced choice i = λ i lt. done i (omega (arith, m.persons)) in
    record {
      persons = length-chosen choice all ∙ m.persons;
      own = λ i a h. m.own i a (get_chosen choice all i a h);
      objects = λ i k a b hi hk same.
          same_Some i k (sym (m.tied.taken i a (get_chosen choice all i a hi)) ∙ ap (λ (j : ℕ). get_or holder j None) same ∙ m.tied.taken k b (get_chosen choice all k b hk));
    }

pub persons_of : (t : Table) (holder : List (Option ℕ)) (queue : List Reached) (n : ℕ) → IsTrail t holder queue → n ≡ length t.rows → ArePersons queue n
persons_of t holder queue n s e = record { within = λ m f h. omega (arith, e, s.within m f h); apart = s.apart }

-- one more person is done, and no earlier one undone
pub done_more : (before choice : List (Option RowArc)) (queue : List Reached) (person : ℕ) → ((i : ℕ) → i < person → IsPlaced before i) → ((i : ℕ) → IsPlaced before i → IsPlaced choice i) → (first : Reached) → slice_get queue 0 ≡ Some first
    → ((e : Reached) → slice_get queue 0 ≡ Some e → e.person ≡ person) → ((e : Reached) → slice_get queue 0 ≡ Some e → IsPlaced choice e.person) → (i : ℕ) → i < person + 1 → IsPlaced choice i
done_more before choice queue person done kept first there starts placed i lt = elim (cases_eq i person) [
  | inl e ↦ subst (IsPlaced choice) (starts first there ∙ sym e) (placed first there)
  | inr n ↦ kept i (done i (omega (arith, n)))
]

-- what was walked, by the queue and the flags as they are named
pub walked_same : (t : Table) (queue named : List Reached) (seen flags : List Bool) → named ≡ queue → flags ≡ seen → AreWalked t queue seen (length queue) → AreWalked t named flags (length named)
walked_same t queue named seen flags e f w =
    subst (λ (q : List Reached). AreWalked t q flags (length q)) (sym e) (subst (λ (x : List Bool). AreWalked t queue x (length queue)) (sym f) w)
