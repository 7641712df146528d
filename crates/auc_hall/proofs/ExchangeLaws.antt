-- The exchange along a path.
use Rattle.std.proofs.Common.{◌≡◌, ℕ, ◌<◌, ◌≤◌, List, length, get_or, set, Option, Some, None, refl, sym, ap, subst, ◌∙◌, arith, Contains}
use Rattle.std.specs.List.{slice_get}
use Rattle.std.proofs.lemmas.List.{length-set}
use Rattle.std.proofs.lemmas.Option.{same_Some}
use Rattle.auc_graph.specs.declared.rows.RowArc.{RowArc}
use Rattle.auc_graph.specs.Table.{Table, row_of}
use Rattle.auc_hall.specs.declared.search.Reached.{Reached}
use Rattle.auc_hall.specs.Partial.{pick}
use Rattle.auc_hall.specs.Matched.{holder_of, AreTied, IsPlaced, IsMatched}
use Rattle.auc_hall.specs.Search.{HasArc, HoldsNothing, IsAugmentingPath, IsTrail}
use Rattle.auc_hall.specs.Completion.{IsExchange}
use Rattle.auc_hall.specs.Completion.IsExchange.{takes_free, takes_over}
use Rattle.auc_hall.proofs.Options.{read_set, read_unset, is_within, other_place, same_read}
use Rattle.auc_hall.proofs.QueueLaws.{blank, entry, in_queue}
use Rattle.auc_hall.proofs.MatchedLaws.{moved, placed, kept_set, untaken}

-- The invariant of the exchange: the partial assignment holds at each step, and the arc at hand leads to a free object.
-- An exchange that continues from it is one from the object at which it began.
pub record IsUnderWay (t : Table) (queue : List Reached) (before choice : List (Option RowArc)) (holder : List (Option ℕ)) (began at : ℕ) (arc : RowArc) : Type 0 where
  pub matched : IsMatched t choice holder
  pub has : HasArc t queue at arc
  pub free : holder_of holder arc.object ≡ None
  pub room : arc.object < length holder
  pub held : (m : ℕ) (e : Reached) → slice_get queue m ≡ Some e → 0 < m → m ≤ at → holder_of holder e.arc.object ≡ Some e.person
  pub first : (e : Reached) → slice_get queue 0 ≡ Some e → pick choice e.person ≡ None
  pub kept : (i : ℕ) → IsPlaced before i → IsPlaced choice i
  pub going : (after : List (Option RowArc)) → IsExchange t after choice arc.object → IsExchange t after before began

unplaced : (choice : List (Option RowArc)) (holder : List (Option ℕ)) (i : ℕ) → AreTied choice holder → HoldsNothing holder i → (o : Option RowArc) → pick choice i ≡ o → pick choice i ≡ None
unplaced choice holder i tied free None is = is
unplaced choice holder i tied free (Some a) is = absurd (free a.object (tied.taken i a is))

pub under_way : (t : Table) (queue : List Reached) (choice : List (Option RowArc)) (holder : List (Option ℕ)) (at : ℕ) (arc : RowArc) → IsAugmentingPath t choice holder queue at arc
    → IsUnderWay t queue choice choice holder arc.object at arc
under_way t queue choice holder at arc path =
    record {
      matched = path.matched;
      has = path.out.has;
      free = path.out.free;
      room = path.out.room;
      held = λ k e h up le. path.trail.held k e h up;
      first = λ e h.
          let same : path.starts.by ≡ e = same_Some path.starts.by e (sym path.starts.there ∙ h) in
          unplaced choice holder e.person path.matched.tied (subst (λ (r : Reached). HoldsNothing holder r.person) same path.starts.free) (pick choice e.person) refl;
      kept = λ i x. x;
      going = λ after x. x;
    }

pub goes_on : (t : Table) (queue : List Reached) (before choice : List (Option RowArc)) (holder first_holder : List (Option ℕ)) (began at : ℕ) (arc : RowArc) (e : Reached) → IsUnderWay t queue before choice holder began at arc → IsTrail t first_holder queue → 0 < at → slice_get queue at ≡ Some e
    → IsUnderWay t queue before (set choice e.person (Some arc)) (set (set holder arc.object (Some e.person)) e.arc.object None) began e.parent e.arc
goes_on t queue before choice holder first_holder began at arc e w trail up h =
    let same : w.has.by ≡ e = same_Some w.has.by e (sym w.has.there ∙ h) in
    let his : Contains (row_of t e.person) arc = subst (λ (r : Reached). Contains (row_of t r.person) arc) same w.has.own in
    let has = w.held at e h up (omega arith) in
    let b = w.matched.tied.held e.arc.object e.person has in
    let p_in = is_within choice e.person b.arc b.picked in
    let j_in : e.arc.object < length (set holder arc.object (Some e.person)) = omega (arith, is_within holder e.arc.object e.person has, length-set holder arc.object (Some e.person)) in
    record {
      matched = moved t choice holder e.person arc e.arc.object w.matched has his w.free w.room;
      has = trail.known at e h up;
      free = read_set (set holder arc.object (Some e.person)) e.arc.object e.arc.object None refl j_in;
      room = omega (arith, j_in, length-set (set holder arc.object (Some e.person)) e.arc.object None);
      held = λ m f hf fpos le.
          let lt : m < at = omega (arith, trail.before at e h up) in
          let by = w.held m f hf fpos (omega arith) in
          read_unset (set holder arc.object (Some e.person)) e.arc.object f.arc.object None (λ s. trail.apart m at f e hf h lt (same_read holder f.arc.object e.arc.object f.person e.person by has s))
          ∙ read_unset holder arc.object f.arc.object (Some e.person) (other_place holder arc.object f.arc.object f.person w.free by) ∙ by;
      first = λ f hf. read_unset choice e.person f.person (Some arc) (trail.apart 0 at f e hf h up) ∙ w.first f hf;
      kept = λ i x. kept_set choice e.person arc p_in i (w.kept i x);
      going = λ after x. w.going after (takes_over choice arc.object e.person arc b.arc (untaken t choice holder arc.object w.matched w.free) his refl b.picked (subst (λ (j : ℕ). IsExchange t after (set choice e.person (Some arc)) j) (sym b.object) x));
    }

-- the result of the exchange
pub record IsExchanged (t : Table) (queue : List Reached) (before choice : List (Option RowArc)) (holder : List (Option ℕ)) (began : ℕ) : Type 0 where
  pub matched : IsMatched t choice holder
  pub first : (e : Reached) → slice_get queue 0 ≡ Some e → IsPlaced choice e.person
  pub kept : (i : ℕ) → IsPlaced before i → IsPlaced choice i
  pub exchange : IsExchange t choice before began

pub ends : (t : Table) (queue : List Reached) (before choice : List (Option RowArc)) (holder first_holder : List (Option ℕ)) (began at : ℕ) (arc : RowArc) → IsUnderWay t queue before choice holder began at arc → IsTrail t first_holder queue → at ≡ 0
    → IsExchanged t queue before (set choice (get_or queue 0 blank).person (Some arc)) (set holder arc.object (Some (get_or queue 0 blank).person)) began
ends t queue before choice holder first_holder began at arc w trail zero_at =
    let e = get_or queue 0 blank in
    let some : 0 < length queue = omega (arith, in_queue t queue at arc w.has) in
    let h : slice_get queue 0 ≡ Some (get_or queue 0 blank) = entry queue 0 some in
    let same : w.has.by ≡ e = same_Some w.has.by e (sym w.has.there ∙ ap (λ (n : ℕ). slice_get queue n) zero_at ∙ h) in
    let his : Contains (row_of t e.person) arc = subst (λ (r : Reached). Contains (row_of t r.person) arc) same w.has.own in
    let p_in : e.person < length choice = omega (arith, trail.within 0 e h, w.matched.persons) in
    record {
      matched = placed t choice holder e.person arc w.matched p_in (w.first e h) his w.free w.room;
      first = λ f hf.
          let f_e : e ≡ f = same_Some e f (sym h ∙ hf) in
          (arc, read_set choice e.person f.person (Some arc) (ap (λ (r : Reached). r.person) (sym f_e)) p_in);
      kept = λ i x. kept_set choice e.person arc p_in i (w.kept i x);
      exchange = w.going (set choice e.person (Some arc)) (takes_free choice arc.object e.person arc (untaken t choice holder arc.object w.matched w.free) his refl (w.first e h) refl);
    }
