use Rattle.std.proofs.Common.{inl, inr, rules, refl, subst, ap, List, w64, ◌∙◌}
use Rattle.std.specs.Prelude.{FitsSigned, ℤ}
use Rattle.std.proofs.lemmas.Int.{to_z-of_z}
use Rattle.auc_claim.specs.declared.lists.Pick.{Pick}
use Rattle.auc_dense.specs.Tried.{AreBest, AreHeldApart, AreOthersFree, lower_at}
use Rattle.auc_dense.proofs.TriedLaws.{apart}
use Rattle.auc_dense.proofs.bounding.bound.Goals as goal
use Rattle.auc_dense.proofs.bounding.bound.Goals.{else-table-via-then-table+else-not-are_others_free, else-table-via-else-table}

pub returns-in-Some-lower_of : goal.returns-in-Some-lower_of
returns-in-Some-lower_of c =
    let gap_fits : FitsSigned w64 c.args.gap = c.ranges.gap in
    let lower_fits : FitsSigned w64 c.in-Some-lower_of.lower = search rules in
    let prices = c.as_slice-prices.ensures.value in
    let told = rw c.in-Some.is at c.in_ok-picks.ensures in
    let own = simp to_z-of_z at told in
    let told_best = rw c.in-Some-2.is at c.in_ok-bests.ensures in
    let best = simp to_z-of_z at told_best in
    let lower = c.in-Some-lower_of.ensures in
    simp to_z-of_z (record {
      priced = c.requires.whole.priced;
      fair = c.requires.whole.fair;
      own = own;
      single = apart c.in-Some.picks.items c.as_slice-holders.result.now (subst (λ (xs : List Pick). AreHeldApart xs c.as_slice-holders.result.now) c.as_slice-2.ensures.value (c.if-not-are_held_apart.ensures refl));
      few = elim c.else-table.branch [
        | else-table-via-then-table+else-not-are_others_free w ↦ inr (subst (λ (xs : List Pick). AreOthersFree xs c.args.proposal.now.prices.items) w.as_slice-then-table.ensures.value
            (subst (λ (xs : List ℤ). AreOthersFree w.as_slice-then-table.result.now xs) prices (w.if-not-are_others_free.ensures refl)))
        | else-table-via-else-table w ↦ inl (search rules)
      ];
      bests = c.in-Some-2.bests.items;
      best = subst (λ (xs : List ℤ). AreBest c.args.table.now.objects c.args.table.now.costs.now c.args.table.now.stride c.args.gap xs c.args.table.now.persons c.in-Some-2.bests.items) prices best;
      lower_is = lower ∙ ap (λ (xs : List ℤ). lower_at xs c.as_slice-4.result.now) prices ∙ ap (lower_at c.args.proposal.now.prices.items) c.as_slice-4.ensures.value;
    })
