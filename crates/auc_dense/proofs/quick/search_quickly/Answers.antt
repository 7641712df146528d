use Rattle.std.proofs.Common.{inr, sym, true, w64}
use Rattle.std.specs.Prelude.{FitsSigned}
use Rattle.std.proofs.lemmas.Int.{to_z-of_z}
use Rattle.auc_dense.proofs.QuickLaws.{no_prices}
use Rattle.auc_dense.proofs.quick.search_quickly.Goals as goal

pub returns-clause-found : goal.returns-clause-found
returns-clause-found g c =
    let gap_fits : FitsSigned w64 c.args.gap = c.ranges.gap in
    let told = rw c.in-Some-2.is at c.in_ok-quick.ensures in
    let by = simp to_z-of_z at told in
    let none = no_prices c.args.run.now.start.now (sym c.if-not-is_empty-2.ensures) in
    record { may = true; prices = by.0; quick_is = by.1; cause = λ is. inr (none, by.2) }
