-- Steps of the search.
use Rattle.std.proofs.Common.{◌≡◌, ◌≢◌, ℕ, ◌+◌, ◌<◌, ◌≤◌, Bool, true, false, List, [], ◌∷◌, ◌++◌, length, get_or, set, take, Option, Some, None, refl, sym, ap, subst, ◌∙◌, arith, inl, inr, Contains, All, append_assoc}
use Rattle.std.specs.List.{slice_get}
use Rattle.std.proofs.lemmas.List.{take_all, get_or_past, get_or_read, length-set, length-append, get_or-set_same, get_or-set_other}
use Rattle.std.proofs.lemmas.List.Elements.{All-weaker, All-more, Contains-get_or}
use Rattle.std.proofs.lemmas.Bool.{cases_eq, cases_Bool, both_ways}
use Rattle.std.proofs.lemmas.Option.{same_Some, slice_get_within}
use Rattle.auc_graph.specs.declared.rows.RowArc.{RowArc}
use Rattle.auc_graph.specs.Table.{Table, row_of}
use Rattle.auc_hall.specs.declared.search.Reached.{Reached}
use Rattle.auc_hall.specs.Matched.{holder_of}
use Rattle.auc_hall.specs.Search.{AreHolders, AreMarks, HoldsNothing, WasSeen, HasArc, AreSeen, AreWalked, IsSearch, IsFreeArc, LeadsOut, Grows}
use Rattle.auc_hall.proofs.QueueLaws.{blank, entry, get_kept, get_pushed, get_cases, was_there, first_only, still}
use Rattle.auc_hall.proofs.FlagLaws.{count_set, count_none, count_most, seen_kept}
use Rattle.auc_hall.proofs.ProblemLaws.{no_arc}

has_kept : (t : Table) (queue more : List Reached) (m : ℕ) (a : RowArc) → HasArc t queue m a → HasArc t (queue ++ more) m a
has_kept t queue more m a h = record { by = h.by; there = get_kept queue more m h.by h.there; own = h.own }

-- A person at a place of the queue has an arc to an object not seen yet, which i holds.
pub record IsNew (t : Table) (holder : List (Option ℕ)) (queue : List Reached) (seen : List Bool) (y : Reached) : Type 0 where
  pub known : HasArc t queue y.parent y.arc
  pub holds : holder_of holder y.arc.object ≡ Some y.person
  pub unseen : get_or seen y.arc.object false ≡ false
  pub room : y.arc.object < length seen

unlike : (t : Table) (holder : List (Option ℕ)) (queue : List Reached) (seen : List Bool) (y : Reached) → AreHolders t holder → IsSearch t holder queue seen → IsNew t holder queue seen y
    → (m : ℕ) (e : Reached) → slice_get queue m ≡ Some e → e.person ≢ y.person
unlike t holder queue seen y holders s new m e h same =
    elim (cases_eq m 0) [
      | inl m0 ↦
          let is : s.starts.by ≡ e = same_Some s.starts.by e (sym s.starts.there ∙ ap (λ (n : ℕ). slice_get queue n) (sym m0) ∙ h) in
          s.starts.free y.arc.object (new.holds ∙ ap (λ (i : ℕ). Some i) (sym (ap (λ (r : Reached). r.person) is ∙ same)))
      | inr n ↦
          let up : 0 < m = omega (arith, n) in
          let j : e.arc.object ≡ y.arc.object = holders.once e.arc.object y.arc.object y.person (s.trail.held m e h up ∙ ap (λ (i : ℕ). Some i) same) new.holds in
          both_ways (get_or seen y.arc.object false) new.unseen (ap (λ (n : ℕ). get_or seen n false) (sym j) ∙ s.marks.reached m e h up)
    ]

pub reach : (t : Table) (holder : List (Option ℕ)) (queue : List Reached) (seen : List Bool) (y : Reached) → AreHolders t holder → IsSearch t holder queue seen → IsNew t holder queue seen y
    → IsSearch t holder (queue ++ y ∷ []) (set seen y.arc.object true)
reach t holder queue seen y holders s new =
    let some : 0 < length queue = slice_get_within queue 0 s.starts.by s.starts.there in
    record {
      trail = record {
        before = λ m e h up. elim (get_cases queue y m e h) [
          | inl p ↦ s.trail.before m e p up
          | inr p ↦ subst (λ (r : Reached). r.parent < m) p.1 (omega (arith, p.0, slice_get_within queue y.parent new.known.by new.known.there))
        ];
        known = λ m e h up. elim (get_cases queue y m e h) [
          | inl p ↦ has_kept t queue (y ∷ []) e.parent e.arc (s.trail.known m e p up)
          | inr p ↦ has_kept t queue (y ∷ []) e.parent e.arc (subst (λ (r : Reached). HasArc t queue r.parent r.arc) p.1 new.known)
        ];
        held = λ m e h up. elim (get_cases queue y m e h) [
          | inl p ↦ s.trail.held m e p up
          | inr p ↦ subst (λ (r : Reached). holder_of holder r.arc.object ≡ Some r.person) p.1 new.holds
        ];
        within = λ m e h. elim (get_cases queue y m e h) [
          | inl p ↦ s.trail.within m e p
          | inr p ↦ subst (λ (r : Reached). r.person < length t.rows) p.1 (holders.within y.arc.object y.person new.holds)
        ];
        apart = λ m n e f he hf lt. elim (get_cases queue y n f hf) [
          | inl q ↦ elim (get_cases queue y m e he) [
            | inl p ↦ s.trail.apart m n e f p q lt
            | inr p ↦ absurd (omega (arith, p.0, lt, slice_get_within queue n f q))
          ]
          | inr q ↦ elim (get_cases queue y m e he) [
            | inl p ↦ subst (λ (r : Reached). e.person ≢ r.person) q.1 (unlike t holder queue seen y holders s new m e p)
            | inr p ↦ absurd (omega (arith, p.0, q.0, lt))
          ]
        ];
      };
      starts = record { by = s.starts.by; there = get_kept queue (y ∷ []) 0 s.starts.by s.starts.there; free = s.starts.free };
      marks = record {
        size = length-set seen y.arc.object true ∙ s.marks.size;
        reached = λ m e h up. elim (get_cases queue y m e h) [
          | inl p ↦ seen_kept seen y.arc.object e.arc.object new.room (s.marks.reached m e p up)
          | inr p ↦ subst (λ (r : Reached). WasSeen (set seen y.arc.object true) r.arc.object) p.1 (get_or-set_same seen y.arc.object true false new.room)
        ];
        behind = λ j h. elim (cases_eq j y.arc.object) [
          | inl e ↦ record { at = length queue; by = y; there = get_pushed queue y; later = some; object = sym e }
          | inr n ↦
              let x = s.marks.behind j (sym (get_or-set_other seen y.arc.object j true false n) ∙ h) in
              record { at = x.at; by = x.by; there = get_kept queue (y ∷ []) x.at x.by x.there; later = x.later; object = x.object }
        ];
        count = omega (arith, count_set seen y.arc.object new.room new.unseen, s.marks.count, length-append queue (y ∷ []));
      };
    }

-- The invariant of the pass over a row.
pub record IsWalk (t : Table) (holder : List (Option ℕ)) (old_queue queue : List Reached) (old_seen seen : List Bool) (row : List RowArc) (i : ℕ) : Type 0 where
  pub search : IsSearch t holder queue seen
  pub grows : Grows old_queue queue
  pub kept : (j : ℕ) → WasSeen old_seen j → WasSeen seen j
  pub walked : All (λ a. WasSeen seen a.object) (take i row)

-- the arc at hand leads to a new object
pub walk_on : (t : Table) (holder : List (Option ℕ)) (old_queue queue : List Reached) (old_seen seen : List Bool) (row : List RowArc) (i : ℕ) (y : Reached) (d : RowArc)
    → AreHolders t holder → IsWalk t holder old_queue queue old_seen seen row i → IsNew t holder queue seen y → i < length row → get_or row i d ≡ y.arc
    → IsWalk t holder old_queue (queue ++ y ∷ []) old_seen (set seen y.arc.object true) row (i + 1)
walk_on t holder old_queue queue old_seen seen row i y d holders w new lt is =
    record {
      search = reach t holder queue seen y holders w.search new;
      grows = (w.grows.0 ++ y ∷ [], ap (λ (q : List Reached). q ++ y ∷ []) w.grows.1 ∙ append_assoc old_queue w.grows.0 (y ∷ []));
      kept = λ j h. seen_kept seen y.arc.object j new.room (w.kept j h);
      walked = All-more (λ (a : RowArc). WasSeen (set seen y.arc.object true) a.object) row i d lt
          (All-weaker (λ (a : RowArc). WasSeen seen a.object) (λ (a : RowArc). WasSeen (set seen y.arc.object true) a.object) (λ a h. seen_kept seen y.arc.object a.object new.room h) (take i row) w.walked)
          (ap (λ (a : RowArc). get_or (set seen y.arc.object true) a.object false) is ∙ get_or-set_same seen y.arc.object true false new.room);
    }

-- the arc at hand leads to an object seen before
pub walk_past : (t : Table) (holder : List (Option ℕ)) (old_queue queue : List Reached) (old_seen seen : List Bool) (row : List RowArc) (i : ℕ) (d : RowArc)
    → IsWalk t holder old_queue queue old_seen seen row i → i < length row → WasSeen seen (get_or row i d).object
    → IsWalk t holder old_queue queue old_seen seen row (i + 1)
walk_past t holder old_queue queue old_seen seen row i d w lt is =
    record {
      search = w.search;
      grows = w.grows;
      kept = w.kept;
      walked = All-more (λ (a : RowArc). WasSeen seen a.object) row i d lt w.walked is;
    }

pub has_his_arc : (t : Table) (old_queue queue : List Reached) (at : ℕ) (row : List RowArc) (i : ℕ) → Grows old_queue queue → at < length old_queue → row ≡ row_of t (get_or old_queue at blank).person → i < length row → HasArc t queue at (get_or row i no_arc)
has_his_arc t old_queue queue at row i g lt is i_lt = record {
  by = get_or old_queue at blank;
  there = still t old_queue queue at g lt;
  own = subst (λ (r : List RowArc). Contains r (get_or row i no_arc)) is (Contains-get_or row i no_arc i_lt);
}

-- the same as `walk_past` and `walk_on`, where the row at hand is another name of the row
pub walk_past_row : (t : Table) (holder : List (Option ℕ)) (old_queue queue : List Reached) (old_seen seen : List Bool) (row his_row : List RowArc) (i : ℕ)
    → row ≡ his_row → IsWalk t holder old_queue queue old_seen seen his_row i → i < length row → get_or seen (get_or row i no_arc).object false ≡ true
    → IsWalk t holder old_queue queue old_seen seen his_row (i + 1)
walk_past_row t holder old_queue queue old_seen seen row his_row i e w lt is =
    let w' = subst (λ (r : List RowArc). IsWalk t holder old_queue queue old_seen seen r i) (sym e) w in
    subst (λ (r : List RowArc). IsWalk t holder old_queue queue old_seen seen r (i + 1)) e (walk_past t holder old_queue queue old_seen seen row i no_arc w' lt is)

pub walk_on_row : (t : Table) (holder : List (Option ℕ)) (old_queue queue : List Reached) (old_seen seen : List Bool) (row : List RowArc) (i at partner : ℕ)
    → AreHolders t holder → at < length old_queue → row ≡ row_of t (get_or old_queue at blank).person
    → IsWalk t holder old_queue queue old_seen seen (row_of t (get_or old_queue at blank).person) i → i < length row → get_or seen (get_or row i no_arc).object false ≡ false → (get_or row i no_arc).object < length seen
    → holder_of holder (get_or row i no_arc).object ≡ Some partner
    → IsWalk t holder old_queue (queue ++ record { person = partner; parent = at; arc = get_or row i no_arc } ∷ []) old_seen (set seen (get_or row i no_arc).object true) (row_of t (get_or old_queue at blank).person) (i + 1)
walk_on_row t holder old_queue queue old_seen seen row i at partner m at_lt e w lt unseen room holds =
    let w' = subst (λ (r : List RowArc). IsWalk t holder old_queue queue old_seen seen r i) (sym e) w in
    subst (λ (r : List RowArc). IsWalk t holder old_queue (queue ++ record { person = partner; parent = at; arc = get_or row i no_arc } ∷ []) old_seen (set seen (get_or row i no_arc).object true) r (i + 1)) e
    (walk_on t holder old_queue queue old_seen seen row i (record { person = partner; parent = at; arc = get_or row i no_arc }) no_arc m w'
    (record { known = has_his_arc t old_queue queue at row i w.grows at_lt e lt; holds = holds; unseen = unseen; room = room }) lt refl)

pub way_out : (t : Table) (holder : List (Option ℕ)) (old_queue queue : List Reached) (at : ℕ) (row : List RowArc) (i : ℕ) → Grows old_queue queue → at < length old_queue → row ≡ row_of t (get_or old_queue at blank).person → i < length row
    → holder_of holder (get_or row i no_arc).object ≡ None → (get_or row i no_arc).object < length holder → LeadsOut t holder queue at (get_or row i no_arc)
way_out t holder old_queue queue at row i g at_lt e lt free room = record { has = has_his_arc t old_queue queue at row i g at_lt e lt; free = free; room = room }

-- the person last put into the queue has an arc to a free object
pub last_way_out : (t : Table) (holder : List (Option ℕ)) (old_queue queue : List Reached) (y : Reached) (at : ℕ) (a : RowArc) → queue ≡ old_queue ++ y ∷ [] → at + 1 ≡ length queue → IsFreeArc t holder y.person a → LeadsOut t holder queue at a
last_way_out t holder old_queue queue y at a is here f =
    let place : at ≡ length old_queue = omega (arith, here, ap length is, length-append old_queue (y ∷ [])) in
    record {
      has = record { by = y; there = ap (λ (n : ℕ). slice_get queue n) place ∙ ap (λ (q : List Reached). slice_get q (length old_queue)) is ∙ get_pushed old_queue y; own = f.own };
      free = f.free;
      room = f.room;
    }

-- a row that was walked to its end
pub walked_all : (t : Table) (queue : List Reached) (seen : List Bool) (at : ℕ) (row : List RowArc) (i : ℕ) → at < length queue → row ≡ row_of t (get_or queue at blank).person → length row ≤ i
    → All (λ a. WasSeen seen a.object) (take i (row_of t (get_or queue at blank).person)) → (e : Reached) → slice_get queue at ≡ Some e → All (λ a. WasSeen seen a.object) (row_of t e.person)
walked_all t queue seen at row i at_lt r le all e h =
    let is : get_or queue at blank ≡ e = same_Some (get_or queue at blank) e (sym (entry queue at at_lt) ∙ h) in
    subst (λ (q : Reached). All (λ a. WasSeen seen a.object) (row_of t q.person)) is
    (subst (λ (x : List RowArc). All (λ a. WasSeen seen a.object) x) (take_all i (row_of t (get_or queue at blank).person) (omega (arith, ap length r))) all)

-- the first state of a search
pub starts : (t : Table) (holder : List (Option ℕ)) (queue : List Reached) (seen : List Bool) (start : ℕ) → queue ≡ record { person = start; parent = 0; arc = no_arc } ∷ [] → start < length t.rows → HoldsNothing holder start → length seen ≡ t.objects → ((j : ℕ) → get_or seen j false ≡ false)
    → IsSearch t holder queue seen
starts t holder queue seen start is lt free size none =
    let only : (m : ℕ) (e : Reached) → slice_get queue m ≡ Some e → (m ≡ 0) × (e.person ≡ start) = λ m e h. first_only start queue is m e h in
    record {
      trail = record {
        before = λ m e h up. absurd (omega (arith, (only m e h).0));
        known = λ m e h up. absurd (omega (arith, (only m e h).0));
        held = λ m e h up. absurd (omega (arith, (only m e h).0));
        within = λ m e h. omega (arith, (only m e h).1);
        apart = λ m n e f he hf l. absurd (omega (arith, (only n f hf).0));
      };
      starts = record { by = record { person = start; parent = 0; arc = no_arc }; there = ap (λ (q : List Reached). slice_get q 0) is; free = free };
      marks = record {
        size = size;
        reached = λ m e h up. absurd (omega (arith, (only m e h).0));
        behind = λ j h. absurd (both_ways (get_or seen j false) (none j) h);
        count = omega (arith, count_none seen none, ap length is);
      };
    }

-- a step of the search, seen from above
pub walked_more : (t : Table) (old_queue queue : List Reached) (old_seen seen : List Bool) (at : ℕ) → Grows old_queue queue → at < length old_queue → ((j : ℕ) → WasSeen old_seen j → WasSeen seen j) → AreWalked t old_queue old_seen at
    → ((e : Reached) → slice_get old_queue at ≡ Some e → All (λ a. WasSeen seen a.object) (row_of t e.person)) → AreWalked t queue seen (at + 1)
walked_more t old_queue queue old_seen seen at g at_lt kept before here m e lt h =
    let old : slice_get old_queue m ≡ Some e = was_there old_queue queue m e g (omega arith) h in
    elim (cases_eq m at) [
      | inl s ↦ here e (ap (λ (n : ℕ). slice_get old_queue n) (sym s) ∙ old)
      | inr n ↦ All-weaker (λ (a : RowArc). WasSeen old_seen a.object) (λ (a : RowArc). WasSeen seen a.object) (λ a w. kept a.object w) (row_of t e.person) (before m e (omega (arith, n)) old)
    ]

pub at_most : (t : Table) (queue : List Reached) (seen : List Bool) → AreSeen t queue seen → length queue ≤ t.objects + 1
at_most t queue seen s = omega (arith, s.count, s.size, count_most seen)

-- an object to which no arc of the queue leads from this place on has no flag
abbrev pub AreLeft : List Reached → List Bool → ℕ → Type 0
AreLeft queue seen at = (j : ℕ) → ((m : ℕ) (e : Reached) → slice_get queue m ≡ Some e → at ≤ m → e.arc.object ≢ j) → get_or seen j false ≡ false

pub all_left : (queue : List Reached) (seen : List Bool) → AreMarks queue seen → AreLeft queue seen 0
all_left queue seen marks j others = marks j (λ m e h. others m e h (omega arith))

pub left_past : (queue : List Reached) (seen : List Bool) (at : ℕ) (q : Reached) → at < length queue → q ≡ get_or queue at q → get_or seen q.arc.object false ≡ false → AreLeft queue seen at → AreLeft queue seen (at + 1)
left_past queue seen at q lt read unseen left j others =
    elim (cases_eq j q.arc.object) [
      | inl e ↦ ap (λ (k : ℕ). get_or seen k false) e ∙ unseen
      | inr n ↦ left j (λ m e h le. elim (cases_eq m at) [
        | inl s ↦
            let is : get_or queue at blank ≡ e = same_Some (get_or queue at blank) e (sym (entry queue at lt) ∙ ap (λ (k : ℕ). slice_get queue k) (sym s) ∙ h) in
            λ same. n (sym same ∙ ap (λ (r : Reached). r.arc.object) (sym (get_or_read queue at q lt read blank ∙ is)))
        | inr d ↦ others m e h (omega (arith, d, le))
      ])
    ]

pub left_set : (queue : List Reached) (seen : List Bool) (at : ℕ) (q : Reached) → at < length queue → q ≡ get_or queue at q → q.arc.object < length seen → AreLeft queue seen at → AreLeft queue (set seen q.arc.object false) (at + 1)
left_set queue seen at q lt read room left =
    left_past queue (set seen q.arc.object false) at q lt read (get_or-set_same seen q.arc.object false false room)
    (λ j others. elim (cases_eq j q.arc.object) [
      | inl e ↦ ap (λ (k : ℕ). get_or (set seen q.arc.object false) k false) e ∙ get_or-set_same seen q.arc.object false false room
      | inr n ↦ get_or-set_other seen q.arc.object j false false n ∙ left j others
    ])

pub left_beyond : (queue : List Reached) (seen : List Bool) (at : ℕ) (q : Reached) → at < length queue → q ≡ get_or queue at q → length seen ≤ q.arc.object → AreLeft queue seen at → AreLeft queue seen (at + 1)
left_beyond queue seen at q lt read past left = left_past queue seen at q lt read (get_or_past seen q.arc.object false past) left

pub none_left : (queue : List Reached) (seen : List Bool) (at : ℕ) → length queue ≤ at → AreLeft queue seen at → (j : ℕ) → get_or seen j false ≡ false
none_left queue seen at le left j = left j (λ m e h from. absurd (omega (arith, le, from, slice_get_within queue m e h)))

-- what a search has marked is what it has reached
pub are_marks : (t : Table) (holder : List (Option ℕ)) (queue : List Reached) (seen : List Bool) → IsSearch t holder queue seen → AreMarks queue seen
are_marks t holder queue seen s j others = elim (cases_Bool (get_or seen j false)) [
  | inl seen_it ↦ (let x = s.marks.behind j seen_it in absurd (others x.at x.by x.there x.object))
  | inr f ↦ f
]
