-- How a completion grows, and what it leaves as it was.
use Rattle.std.proofs.Common.{◌≡◌, ℕ, ◌<◌, List, [], length, set, Option, Some, sym, ap, ◌∙◌, inl, inr, Contains, arith}
use Rattle.std.specs.Prelude.{Result, Ok, Err, IfOk}
use Rattle.std.proofs.lemmas.Bool.{cases_lt}
use Rattle.std.proofs.lemmas.List.{get_or_past}
use Rattle.std.proofs.lemmas.Option.{none-some}
use Rattle.auc_graph.specs.declared.rows.RowArc.{RowArc}
use Rattle.auc_graph.specs.Table.{Table, row_of}
use Rattle.auc_hall.specs.declared.matching.Matching.{Matching}
use Rattle.auc_hall.specs.declared.matching.Matching.TheVariants.{Full, Hall}
use Rattle.auc_hall.specs.Matching.{IsHall}
use Rattle.auc_hall.specs.Completion.{IsExchange, IsGrown, AreAllPlaced, HasGrown}
use Rattle.auc_hall.specs.Completion.IsExchange.{takes_free, takes_over}
use Rattle.auc_hall.specs.Completion.IsGrown.{stays, grows}
use Rattle.auc_hall.proofs.MatchedLaws.{kept_set}
use Rattle.auc_hall.proofs.Options.{is_within}

pub grown_by : {t : Table} {after choice between : List (Option RowArc)} {j : ℕ} → IsExchange t between choice j → IsGrown t after between → IsGrown t after choice
grown_by {t} {after} {choice} {between} {j} x more = grows choice between j x more

hall_has_grown : (t : Table) (choice : List (Option RowArc)) (m : Matching) → IsHall m → HasGrown t choice m
hall_has_grown t choice (Full arcs) h = absurd h
hall_has_grown t choice (Hall persons objects) h = h

pub hall_answers : {E : Type 0} (t : Table) (choice : List (Option RowArc)) (r : Result Matching E) → IfOk r IsHall → IfOk r (HasGrown t choice)
hall_answers t choice (Ok m) h = hall_has_grown t choice m h
hall_answers t choice (Err e) h = h

-- a person with an arc is in range
within_rows : (t : Table) (i : ℕ) (a : RowArc) → Contains (row_of t i) a → i < length t.rows
within_rows t i a his = elim (cases_lt i (length t.rows)) [ inl lt ↦ lt | inr le ↦ absurd (omega (arith, his.1, ap length (get_or_past t.rows i [] le))) ]

-- an exchange needs a person without an arc
no_exchange : (t : Table) (after choice : List (Option RowArc)) (j : ℕ) → AreAllPlaced t choice → IsExchange t after choice j → ⊥
no_exchange t after held at all (takes_free choice j i a untaken his leads none is) =
    let x = all i (within_rows t i a his) in
    none-some x.0 (sym none ∙ x.1)
no_exchange t after held at all (takes_over choice j i a b untaken his leads has more) =
    no_exchange t after (set choice i (Some a)) b.object (λ k lt. kept_set choice i a (is_within choice i b has) k (all k lt)) more

pub full_choices_stay : (t : Table) (choice after : List (Option RowArc)) → AreAllPlaced t choice → IsGrown t after choice → after ≡ choice
full_choices_stay t held after all (stays choice is) = is
full_choices_stay t held after all (grows choice between j x more) = absurd (no_exchange t between choice j all x)
