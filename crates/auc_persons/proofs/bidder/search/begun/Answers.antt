use Rattle.std.proofs.Common.{get_or, w64, rules}
use Rattle.std.specs.Prelude.{FitsSigned}
use Rattle.std.proofs.lemmas.Int.{to_z-of_z}
use Rattle.std.proofs.lemmas.List.Elements.{Contains-get_or}
use Rattle.auc_persons.specs.Priced.{no_arc, value_in}
use Rattle.auc_persons.proofs.Found.{found_alone}
use Rattle.auc_persons.proofs.bidder.search.begun.Goals as goal

pub returns-clause-found : goal.returns-clause-found
returns-clause-found c =
    let f2 : FitsSigned w64 c.value.result = search rules in
    let row = c.args.row.arcs.now in
    let is = c.value.ensures.is in
    let e = simp to_z-of_z at c.by-2.ensures.scan in
    rw e (found_alone (value_in c.args.row) row (get_or row 0 no_arc) c.value.result (Contains-get_or row 0 no_arc (search rules)) is c.value.ensures.range)
