use Rattle.std.proofs.Common.{w64, rules}
use Rattle.std.specs.Prelude.{FitsSigned}
use Rattle.std.proofs.lemmas.Int.{to_z-of_z}
use Rattle.auc_market.specs.Scan.{short_value}
use Rattle.auc_market.proofs.Shortlists.{best_found}
use Rattle.auc_market.proofs.best.best_of.Goals as goal

pub returns : goal.returns
returns c =
    let f1 : FitsSigned w64 c.args.scale = c.ranges.scale in
    let f2 : FitsSigned w64 c.scan-found.result.value = search rules in
    let f3 : FitsSigned w64 c.scan-found.result.second = search rules in
    let s = simp to_z-of_z at c.scan-found.ensures in
    simp to_z-of_z (best_found (short_value c.args.scale c.args.prices.now) c.args.row.now c.scan-found.result s)
