use Rattle.std.proofs.Common.{refl, List, subst, w64}
use Rattle.std.specs.Prelude.{FitsSigned, ℤ}
use Rattle.std.proofs.lemmas.Int.{to_z-of_z}
use Rattle.auc_claim.specs.declared.lists.Pick.{Pick}
use Rattle.auc_dense.specs.Tried.{AreBest, AreHeldApart, AreOthersFree}
use Rattle.auc_dense.proofs.TriedLaws.{apart}
use Rattle.auc_dense.proofs.trying.try_out.Goals as goal

pub returns : goal.returns
returns c =
    let gap_fits : FitsSigned w64 c.args.gap = c.ranges.gap in
    let prices = c.as_slice-prices.ensures.value in
    let told = rw c.in-Some.is at c.in_ok-picks.ensures in
    let best = simp to_z-of_z at told in
    record {
      priced = c.requires.whole.priced;
      fair = c.requires.whole.fair;
      best = subst (λ (xs : List ℤ). AreBest c.args.table.now.objects c.args.table.now.costs.now c.args.table.now.stride c.args.gap xs c.args.table.now.persons c.in-Some.picks.items) prices best;
      single = apart c.in-Some.picks.items c.as_slice-holders.result.now (subst (λ (xs : List Pick). AreHeldApart xs c.as_slice-holders.result.now) c.as_slice.ensures.value (c.if-not-are_held_apart.ensures refl));
      free = subst (λ (xs : List Pick). AreOthersFree xs c.args.proposal.now.prices.items) c.as_slice-2.ensures.value
          (subst (λ (xs : List ℤ). AreOthersFree c.as_slice-2.result.now xs) prices (c.if-not-are_others_free.ensures refl));
    }
