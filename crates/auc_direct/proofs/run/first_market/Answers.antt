use Rattle.std.proofs.Common.{inr, pos, refl, sym, subst, ◌∙◌, ◌≡◌, List, length, ℤ}
use Rattle.auc_market.specs.Endings.{IsStart}
use Rattle.auc_direct.proofs.run.first_market.Goals as goal

pub new-requires-clause-start : goal.new-requires-clause-start
new-requires-clause-start c = c.in_ok-prices.ensures (pos 1) (inr refl)

pub returns-then-not-may_hold_first-clause-start : goal.returns-then-not-may_hold_first-clause-start
returns-then-not-may_hold_first-clause-start c = rw c.in_ok-market.ensures.prices (c.in_ok-prices.ensures (pos 1) (inr refl))

pub from_start-requires-clause-start : goal.from_start-requires-clause-start
from_start-requires-clause-start c =
    let start = c.in_ok-prices-2.ensures (pos 1) (inr refl) in
    rw c.as_slice.ensures.value (record { each = start.each; within = start.within })

pub returns-then-persons-objects-clause-start : goal.returns-then-persons-objects-clause-start
returns-then-persons-objects-clause-start c = rw c.in_ok-market.ensures.prices (c.in_ok-prices.ensures (pos 1) (inr refl))

pub returns-clause-start : goal.returns-clause-start
returns-clause-start c =
    let square : c.args.rows.now.objects ≡ length c.args.rows.now.rows = sym c.objects.ensures.objects ∙ sym c.if-persons-objects.false ∙ c.persons.ensures.persons in
    let same = c.in_ok-market-2.ensures.opened.same square in
    subst (λ (prices : List ℤ). IsStart c.args.rows.now (pos 1) prices) (sym (same ∙ c.as_slice.ensures.value)) (c.in_ok-prices-2.ensures (pos 1) (inr refl))
