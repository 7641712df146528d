-- The result of the last phase is an answer.
use Rattle.std.proofs.Common.{Bool, true, false, ℕ, ℤ, pos, ◌≡◌, ◌<◌, refl, arith, inl, inr, List, [], ◌∷◌, length, get_or, map, Contains, Option, Some, ap, sym, subst, ◌∙◌}
use Rattle.std.specs.Prelude.{All, IfOk, Result, Ok, Err, ◌⊎◌}
use Rattle.std.specs.List.{slice_get}
use Rattle.std.proofs.lemmas.Bool.{cases_lt, false≢true}
use Rattle.std.proofs.lemmas.Int.{ints}
use Rattle.std.proofs.lemmas.List.{get_or-map, length-map}
use Rattle.std.proofs.lemmas.List.Elements.{Contains-get_or}
use Rattle.std.proofs.lemmas.Option.{slice_get-get_or}
use Rattle.auc_claim.specs.declared.cert.CertParts.{CertParts}
use Rattle.auc_claim.specs.declared.reason.Reason.{Reason}
use Rattle.auc_claim.specs.Claim.{pick_of}
use Rattle.auc_claim.proofs.ClaimLaws.{faultless_is_allowed}
use Rattle.auc_claim.proofs.Converse.{assignment_in_range, slack_right_faultless}
use Rattle.auc_graph.specs.Assignment.{IsAssignment, total, total_cost}
use Rattle.auc_graph.specs.declared.arc.Arc.{Arc}
use Rattle.auc_graph.specs.Problem.{IsProblem, Problem}
use Rattle.auc_graph.specs.Price.{IsPrice}
use Rattle.auc_graph.specs.Row.{row}
use Rattle.auc_graph.specs.Table.{IsTableOf, Table}
use Rattle.auc_graph.specs.declared.rows.RowArc.{RowArc}
use Rattle.auc_hall.proofs.Membership.{contains_at}
use Rattle.auc_hall.proofs.ProblemLaws.{length-rows, row_is}
use Rattle.auc_letters.specs.declared.state.Held.{Held}
use Rattle.auc_model.proofs.Chosen.{row_arc_listed}
use Rattle.auc_answers.specs.declared.answer.Answer.{Answer}
use Rattle.auc_answers.specs.Answers.{HasAssignment, IsAnswer, IsBracketAnswer, IsBracketOf, IsCertified, IsInfeasibleAnswer, IsOptimalAnswer}
use Rattle.auc_answers.specs.Claims.{BoundFits, IsChoiceOf, claim_of}
use Rattle.auc_answers.specs.Prepared.{NobodyStuck}
use Rattle.auc_answers.proofs.BracketLaws.{bound_fits, holders_price_few}
use Rattle.auc_rows.specs.declared.arc.ShortArc.{ShortArc}
use Rattle.auc_rows.specs.Rows.{AreRowsOf, AreSameRows, EachHasArc, FlatTable, IsFlatTable, flat_row_of, short, short_row}
use Rattle.auc_market.specs.declared.ending.Ending.{Ending}
use Rattle.auc_direct.specs.Endings.{IsAsked, AreAdopted, AreFirst, AreOfRun, HasReason, IsBracketFor, IsClaimOfFirst, IsClaimOfRun, IsLimited, IsLimitedBy, IsLimitedFirst, IsLimitedFrom, IsLimitedUnless, IsOfFirstPhases, IsOfPhases, IsOfPhasesFrom, IsWideProblem}
use Rattle.auc_direct.specs.Told.{IsTold}
use Rattle.auc_market.specs.Endings.{IsLeft, IsRunStopped, IsStart, IsToldOr}
use Rattle.auc_direct.specs.Phases.{HasRun}
use Rattle.auc_direct.specs.Held.{AreHeld, AreHolders, AreListed, arc_by}
use Rattle.auc_direct.specs.Held.{EachHasRow}
use Rattle.auc_market.specs.Bids.{State}
use Rattle.auc_market.specs.Market.{HaveObjects, Stands, holder_at, own_at}
use Rattle.auc_market.specs.Starts.{AreOpened}
use Rattle.auc_direct.proofs.Choices as choices
use Rattle.auc_market.proofs.MarketLaws.{holder_has, owner_below, total_low}
use Rattle.auc_direct.proofs.EndingLaws.{limited_earlier}

-- ---- there is no assignment

pub none_is_answer : (p : Problem) (answer : Answer) → IsInfeasibleAnswer p answer → IsAnswer p answer
none_is_answer p (Answer.Optimal cert) h = absurd h
none_is_answer p (Answer.Infeasible cert) h = h
none_is_answer p (Answer.Bracket cert) h = absurd h
none_is_answer p (Answer.Broken guard) h = absurd h

pub none_is_limited : (p : Problem) (bids : ℕ) (begun : ℤ) (answer : Answer) → IsInfeasibleAnswer p answer → IsLimited p bids begun answer
none_is_limited p bids begun (Answer.Optimal cert) h = tt
none_is_limited p bids begun (Answer.Infeasible cert) h = tt
none_is_limited p bids begun (Answer.Bracket cert) h = absurd h
none_is_limited p bids begun (Answer.Broken guard) h = tt

pub none_of_phases : (p : Problem) (bids : ℕ) (begun : List ℤ) (answer : Answer) → IsInfeasibleAnswer p answer → IsOfPhases p bids begun answer
none_of_phases p bids begun (Answer.Optimal cert) h = absurd h
none_of_phases p bids begun (Answer.Infeasible cert) h = tt
none_of_phases p bids begun (Answer.Bracket cert) h = absurd h
none_of_phases p bids begun (Answer.Broken guard) h = tt

module _ (p : Problem) (r : FlatTable) (rows : AreRowsOf p r) (prices : List ℤ) where
  -- ---- phases have led to these prices

  sold_by : (bids : ℕ) (begun : List ℤ) → HasRun r bids begun Ending.Sold prices → AreOfRun p bids begun prices ⊎ AreAdopted p prices
  sold_by bids begun run = elim run.2 [ inl by ↦ inl (r, run.0, rows, run.1, by) | inr is ↦ inr (r, run.0, rows, run.1, is) ]

  none_told : (ending : Ending) (answer : Answer) → IsInfeasibleAnswer p answer → IsTold p r ending prices answer
  none_told ending (Answer.Optimal cert) h = absurd h
  none_told ending (Answer.Infeasible cert) h = record { is = h; limited = λ bids begun stopped. tt; told = λ stopped. tt; why = λ bracket. absurd bracket; run = λ bids begun run. tt }
  none_told ending (Answer.Bracket cert) h = absurd h
  none_told ending (Answer.Broken guard) h = absurd h

  -- a limit has stopped the phase, and each person has an object
  pub whole_told : (reason : Reason) (answer : Answer) → IsBracketOf p reason prices answer → IsTold p r (Ending.Stopped reason) prices answer
  whole_told reason (Answer.Optimal cert) h = absurd h
  whole_told reason (Answer.Infeasible cert) h = absurd h
  whole_told reason (Answer.Bracket cert) h =
      let by = h.0 in
      record {
        is = record { reason = reason; lower = by.lower; cost = total_cost by.choice; choice = map pick_of by.choice; prices = prices; is = by.is; certified = h.1 };
        limited = λ bids begun limit. subst (IsLimitedBy p bids (total begun.prices)) (sym by.is) (rows.table, r, begun, rows.of, rows.same, omega (arith, ints), limit);
        told = λ stopped. subst (HasReason Reason.Bids) (sym by.is) (let e : Ending.Stopped reason ≡ Ending.Stopped Reason.Bids = stopped in cc);
        why = λ bracket. ap Ending.Stopped (subst (HasReason Reason.Ceiling) by.is bracket);
        run = λ bids begun run. subst (IsClaimOfRun p bids begun) (sym by.is) (r, run.0, rows, run.1, run.2);
      }
  whole_told reason (Answer.Broken guard) h = absurd h

  module _ (holders : List ℕ) (owns : List ShortArc) (held : List (Option Held)) (is : IsProblem p) (sound : IsFlatTable r) (are : AreHeld p holders owns held) where
    -- ---- each person has an object

    module _ (stands : Stands r (pos 1) prices holders owns) (all : HaveObjects (length r.rows) owns) where
      abbrev choice : List Arc
      choice = choices.arcs p rows.table r (pos 1) prices holders owns held rows.of rows.same sound stands are all

      certified : IsCertified p (claim_of choice prices)
      certified =
          let given = choices.assigned p rows.table r (pos 1) prices holders owns held rows.of rows.same sound stands are all in
          let many = choices.many_prices p rows.table r (pos 1) prices holders owns held rows.of rows.same sound stands are in
          let in_range = assignment_in_range p choice prices is given many stands.within in
          let faultless = slack_right_faultless p choice given prices many (total_cost choice) refl (choices.slack_all p rows.table r (pos 1) prices holders owns held rows.of rows.same sound stands are all) (choices.no_price_left p rows.table r (pos 1) prices holders owns held rows.of rows.same sound stands are all is) in
          record { in_range = in_range; faultless = faultless; allowed = faultless_is_allowed p (claim_of choice prices) is in_range faultless }

      -- what is claimed of these prices and holders passes the checker
      pub sold_passes : (arcs : List Arc) × IsChoiceOf p held arcs × IsCertified p (claim_of arcs prices)
      sold_passes = (choice, choices.is_choice p rows.table r (pos 1) prices holders owns held rows.of rows.same sound stands are all, certified)

      pub sold_told : (answer : Answer) → IsOptimalAnswer p held prices answer → IsTold p r Ending.Sold prices answer
      sold_told (Answer.Optimal cert) h = record {
        is = record { cost = total_cost h.0; choice = map pick_of h.0; prices = prices; is = h.2; certified = h.3 };
        limited = λ bids begun stopped. tt;
        told = λ stopped. absurd (let e : Ending.Sold ≡ Ending.Stopped Reason.Bids = stopped in cc);
        why = λ bracket. absurd bracket;
        run = λ bids begun run. subst (IsClaimOfRun p bids begun) (sym h.2) (sold_by bids begun run);
      }
      sold_told (Answer.Infeasible cert) h = absurd h
      sold_told (Answer.Bracket cert) h = absurd h
      sold_told (Answer.Broken guard) h = absurd (h.1 choice (choices.is_choice p rows.table r (pos 1) prices holders owns held rows.of rows.same sound stands are all) certified)

    -- ---- a limit has stopped the phase

    module _ (eps : ℤ) (reason : Reason) (stands : Stands r eps prices holders owns) where
      fits : HasAssignment p → BoundFits p prices
      fits has =
          let many = choices.many_prices p rows.table r eps prices holders owns held rows.of rows.same sound stands are in
          bound_fits p reason prices is many stands.within (holders_price_few p held prices is (choices.placeable p rows.table r eps prices holders owns held rows.of rows.same sound stands are) many (choices.spare p rows.table r eps prices holders owns held rows.of rows.same sound stands are)) has

      stopped_told : (answer : Answer) → HasAssignment p → IsBracketAnswer p reason held prices answer → IsTold p r (Ending.Stopped reason) prices answer
      stopped_told (Answer.Optimal cert) has h = absurd h
      stopped_told (Answer.Infeasible cert) has h = none_told (Ending.Stopped reason) (Answer.Infeasible cert) h
      stopped_told (Answer.Bracket cert) has h = whole_told reason (Answer.Bracket cert) (h.1, h.2)
      stopped_told (Answer.Broken guard) has h = absurd (h.1 (choices.placeable p rows.table r eps prices holders owns held rows.of rows.same sound stands are) (fits has))

      -- a bracket, or that there is no assignment
      pub either_told : (answer : Answer) → IsInfeasibleAnswer p answer ⊎ (HasAssignment p × IsBracketAnswer p reason held prices answer) → IsTold p r (Ending.Stopped reason) prices answer
      either_told answer (inl h) = none_told (Ending.Stopped reason) answer h
      either_told answer (inr h) = stopped_told answer h.0 h.1

      -- each person has an object
      module _ (all : HaveObjects (length r.rows) owns) where
        pub whole_choice : (arcs : List Arc) × IsChoiceOf p held arcs × IsAssignment p arcs
        whole_choice = (choices.arcs p rows.table r eps prices holders owns held rows.of rows.same sound stands are all, choices.is_choice p rows.table r eps prices holders owns held rows.of rows.same sound stands are all, choices.assigned p rows.table r eps prices holders owns held rows.of rows.same sound stands are all)

        pub whole_prices : length prices ≡ p.objects
        whole_prices = choices.many_prices p rows.table r eps prices holders owns held rows.of rows.same sound stands are

        pub whole_fits : BoundFits p prices
        whole_fits = fits (whole_choice.0, whole_choice.2)

-- what is opened for the rows of a problem is opened for the problem
pub limited_from : (p : Problem) (t : Table) (r : FlatTable) (bids : ℕ) (start begun : List ℤ) → IsTableOf p t → AreSameRows t r → AreOpened r.objects (length r.rows) start begun → (answer : Answer) → IsLimited p bids (total begun) answer → IsLimitedFrom p bids start answer
limited_from p t r bids start begun its same opened answer limited = record {
  begun = begun;
  opened = record { each = opened.each; same = λ e. opened.same (let a = its.objects in let b = same.objects in let c = same.persons in let d = length-rows p t its in omega (arith, a, b, c, d, e)); kept = opened.kept };
  limited = limited;
}

-- the same of a run under a watch
pub limited_from_unless : (before after : Bool) (p : Problem) (t : Table) (r : FlatTable) (bids : ℕ) (start begun : List ℤ) → IsTableOf p t → AreSameRows t r → AreOpened r.objects (length r.rows) start begun → (answer : Answer) → IsLimitedUnless before after answer (IsLimited p bids (total begun) answer) → IsLimitedUnless before after answer (IsLimitedFrom p bids start answer)
limited_from_unless before after p t r bids start begun its same opened answer (inl told) = inl told
limited_from_unless before after p t r bids start begun its same opened answer (inr is) = inr (is.0, limited_from p t r bids start begun its same opened answer is.1)

-- ---- what all phases come to

pub of_answers : {E : Type 0} (P Q : Answer → Type 0) (r : Result Answer E) → ((a : Answer) → P a → Q a) → IfOk r P → IfOk r Q
of_answers P Q (Ok a) f h = f a h
of_answers P Q (Err e) f h = tt

pub left_stands : (r : FlatTable) (ending : Ending) (prices : List ℤ) (holders : List ℕ) (owns : List ShortArc) → IsLeft r ending prices holders owns → (eps : ℤ) × Stands r eps prices holders owns
left_stands r Ending.Sold prices holders owns h = (pos 1, h.0)
left_stands r (Ending.Stopped reason) prices holders owns h = (h.0, h.1)

length_zero : {X : Type 0} (xs : List X) → length xs ≡ 0 → xs ≡ []
length_zero [] e = refl
length_zero (x ∷ xs) e = absurd (omega (arith, e))

-- the problem's arc that an arc of a row stands for
arc_for : (i : ℕ) (arcs : List Arc) (a : RowArc) → Contains (row i arcs) a → slice_get arcs a.arc ≡ Some (record { cost = a.cost; person = i; object = a.object })
unfolding row
arc_for i arcs a c =
    let f = row_arc_listed i 0 arcs a c in
    let arc : Arc = record { cost = a.cost; person = i; object = a.object } in
    let place : a.arc ≡ f.place = (let e = f.numbered in omega (arith, e)) in
    ap (slice_get arcs) place ∙ slice_get-get_or arcs f.place arc f.known ∙ ap Some (f.there arc)

-- the arc of a row is one of the problem
pub listed_at : (p : Problem) (i : ℕ) (s : ShortArc) → Contains (short_row i p.arcs) s → Contains p.arcs (arc_by i s)
listed_at p i s (k, l, e) =
    let none : RowArc = record { cost = pos 0; object = 0; arc = 0 } in
    let lt : k < length (row i p.arcs) = (let m = length-map (row i p.arcs) short in omega (arith, l, m)) in
    let a : RowArc = get_or (row i p.arcs) k none in
    let is : short a ≡ s = sym (get_or-map short (row i p.arcs) k none s lt) ∙ e in
    subst (λ (x : ShortArc). Contains p.arcs (arc_by i x)) is (contains_at p.arcs a.arc (arc_by i (short a)) (arc_for i p.arcs a (Contains-get_or (row i p.arcs) k none lt)))

-- if no person is stuck, each row of the problem has an arc
pub rows_of_nobody_stuck : (p : Problem) (t : Table) → IsTableOf p t → NobodyStuck t → EachHasRow p
rows_of_nobody_stuck p t its some i lt none =
    let l : i < length t.rows = (let f = length-rows p t its in omega (arith, lt, f)) in
    some i l (row_is p t its i lt ∙ length_zero (row i p.arcs) (let m = length-map (row i p.arcs) short in let z = ap (λ (xs : List ShortArc). length xs) none in omega (arith, m, z)))

module _ (p : Problem) (r : FlatTable) (rows : AreRowsOf p r) where
  pub persons_are : length r.rows ≡ p.persons
  persons_are = let e = rows.same.persons in let f = length-rows p rows.table rows.of in omega (arith, e, f)

  pub objects_are : r.objects ≡ p.objects
  objects_are = rows.same.objects ∙ rows.of.objects

  pub row_at : (i : ℕ) → i < p.persons → flat_row_of r i ≡ short_row i p.arcs
  row_at i lt = rows.same.rows i (let f = length-rows p rows.table rows.of in omega (arith, lt, f)) ∙ ap (map short) (row_is p rows.table rows.of i lt)

  pub each_has_arc : EachHasRow p → EachHasArc r
  each_has_arc has i lt =
      let l : i < p.persons = (let e = persons_are in omega (arith, lt, e)) in
      elim (cases_lt 0 (length (flat_row_of r i))) [
        | inl some ↦ some
        | inr none ↦ absurd (has i l (sym (row_at i l) ∙ length_zero (flat_row_of r i) (omega (arith, none))))
      ]

  pub are_holders : (eps : ℤ) (prices : List ℤ) (holders : List ℕ) (owns : List ShortArc) → Stands r eps prices holders owns → AreHolders p holders owns
  are_holders eps prices holders owns stands = record { holders_are = stands.holders_are ∙ objects_are; owns_are = stands.owns_are ∙ persons_are; held = stands.held; holds = stands.holds }

  pub own_listed : (eps : ℤ) (prices : List ℤ) (holders : List ℕ) (owns : List ShortArc) → IsFlatTable r → Stands r eps prices holders owns → AreListed p holders owns
  own_listed eps prices holders owns sound stands j some =
      let i = holder_at holders j in
      let has = holder_has r eps prices holders owns sound stands j some in
      let lt : i < p.persons = (let l = owner_below r eps prices holders owns sound stands i has in let e = persons_are in omega (arith, l, e)) in
      listed_at p i (own_at owns i) (subst (λ (xs : List ShortArc). Contains xs (own_at owns i)) (row_at i lt) (stands.slack i has).listed)

-- ---- under a watch

-- the answer of a stop, if the watch has said no, and otherwise one that a limit explains
pub limit_or_told : (before after : Bool) (p : Problem) (r : FlatTable) (bids : ℕ) (begun : List ℤ) (ending : Ending) (prices : List ℤ) (answer : Answer) → IsToldOr before after ending ((first : State) × (first.prices ≡ begun) × IsRunStopped r bids first ending prices) → IsTold p r ending prices answer → IsLimitedUnless before after answer (IsLimited p bids (total begun) answer)
limit_or_told before after p r bids begun ending prices answer (inl stop) told = inl (stop.0, told.told stop.1)
limit_or_told before after p r bids begun ending prices answer (inr is) told = inr (is.0, subst (λ (zs : List ℤ). IsLimited p bids (total zs) answer) is.1.1 (told.limited bids is.1.0 is.1.2))

not_told : (P : Answer → Type 0) (a : Answer) → IsLimitedUnless false false a (P a) → P a
not_told P a (inl told) = absurd (false≢true told.0)
not_told P a (inr is) = is.1

-- a watch that never says no has stopped nothing
pub never_told : {E : Type 0} (P : Answer → Type 0) (r : Result Answer E) → IfOk r (λ a. IsLimitedUnless false false a (P a)) → IfOk r P
never_told P r h = of_answers (λ a. IsLimitedUnless false false a (P a)) P r (not_told P) h

-- ---- the watch was asked

pub is_asked : (asked : Bool) → asked ≡ true → (answer : Answer) → IsAsked asked answer
is_asked asked h (Answer.Optimal cert) = h
is_asked asked h (Answer.Infeasible cert) = tt
is_asked asked h (Answer.Bracket cert) = h
is_asked asked h (Answer.Broken guard) = h

pub none_asked : (asked : Bool) (p : Problem) (answer : Answer) → IsInfeasibleAnswer p answer → IsAsked asked answer
none_asked asked p (Answer.Optimal cert) h = absurd h
none_asked asked p (Answer.Infeasible cert) h = tt
none_asked asked p (Answer.Bracket cert) h = absurd h
none_asked asked p (Answer.Broken guard) h = absurd h

first_claim : (p : Problem) (bids : ℕ) (begun : List ℤ) (cert : CertParts) → AreFirst p begun → IsClaimOfRun p bids begun cert → IsClaimOfFirst p bids cert
first_claim p bids begun (CertParts.Optimal cost picks prices) first (inl run) = inl (begun, first, run)
first_claim p bids begun (CertParts.Optimal cost picks prices) first (inr is) = inr is
first_claim p bids begun (CertParts.Infeasible persons objects) first run = tt
first_claim p bids begun (CertParts.Bracket reason lower cost picks prices) first run = (begun, first, run)

-- the outcome of a run that began with such prices
pub of_first : (p : Problem) (bids : ℕ) (begun : List ℤ) (answer : Answer) → AreFirst p begun → IsOfPhases p bids begun answer → IsOfFirstPhases p bids answer
of_first p bids begun (Answer.Optimal cert) first run = first_claim p bids begun cert first run
of_first p bids begun (Answer.Infeasible cert) first run = tt
of_first p bids begun (Answer.Bracket cert) first run = first_claim p bids begun cert first run
of_first p bids begun (Answer.Broken guard) first run = tt

-- prices that a phase at the last eps may begin with are such
pub first_prices : (p : Problem) (r : FlatTable) (prices : List ℤ) → AreRowsOf p r → IsStart r (pos 1) prices → AreFirst p prices
first_prices p r prices rows start = record {
  each = start.each ∙ rows.same.objects ∙ rows.of.objects;
  within = start.within;
  spare = elim start.spare [
    | inl square ↦ inl (let a = rows.of.objects in let b = rows.same.objects in let c = rows.same.persons in let d = length-rows p rows.table rows.of in omega (arith, a, b, c, d, square))
    | inr none ↦ inr none.1
  ];
}

pub phases_from : (p : Problem) (t : Table) (r : FlatTable) (bids : ℕ) (start begun : List ℤ) → IsTableOf p t → AreSameRows t r → AreOpened r.objects (length r.rows) start begun → (answer : Answer) → IsOfPhases p bids begun answer → IsOfPhasesFrom p bids start answer
phases_from p t r bids start begun its same opened answer run = record {
  begun = begun;
  opened = record { each = opened.each; same = λ e. opened.same (let a = its.objects in let b = same.objects in let c = same.persons in let d = length-rows p t its in omega (arith, a, b, c, d, e)); kept = opened.kept };
  run = run;
}

-- ---- the greatest price

-- the limit of a run without a start, however high its first prices were
pub first_limited : {E : Type 0} (before after : Bool) (p : Problem) (bids : ℕ) (begun : List ℤ) (result : Result Answer E) → All IsPrice begun → IfOk result (λ a. IsLimitedUnless before after a (IsLimited p bids (total begun) a)) → IfOk result (λ a. IsBracketFor Reason.Ceiling a → IsWideProblem p) → IfOk result (λ a. IsLimitedUnless before after a (IsLimitedFirst p bids a))
first_limited before after p bids begun (Err e) within limit ceiling = tt
first_limited before after p bids begun (Ok a) within limit ceiling = by limit
  where
    by : IsLimitedUnless before after a (IsLimited p bids (total begun) a) → IsLimitedUnless before after a (IsLimitedFirst p bids a)
    by (inl told) = inl told
    by (inr is) = inr (is.0, record { limited = limited_earlier p bids (pos 0) (total begun) a (total_low begun within) is.1; ceiling = ceiling })
