use Rattle.std.proofs.Common.{◌≡◌, length, w64, arith}
use Rattle.std.specs.Prelude.{FitsSigned}
use Rattle.std.proofs.lemmas.Int.{to_z-of_z}
use Rattle.auc_persons.specs.Priced.{value_in}
use Rattle.auc_persons.proofs.Shortlists.{gathered_none, taken_keeps}
use Rattle.auc_persons.proofs.bidder.shortlist.Shortlist.fill.Goals as goal

pub take_part-requires-clause-gathered : goal.take_part-requires-clause-gathered
take_part-requires-clause-gathered c =
    let f5 : FitsSigned w64 c.args.bound = c.ranges.bound in
    simp to_z-of_z (rw c.begin.ensures (gathered_none (value_in c.args.row) c.args.bound))

pub returns-clause-keeps : goal.returns-clause-keeps
returns-clause-keeps c =
    let f5 : FitsSigned w64 c.args.bound = c.ranges.bound in
    let part = c.take_part in
    let taken = simp to_z-of_z at part.ensures.taken in
    let begun = simp to_z-of_z at c.begin.ensures in
    let b : part.new.self.bound ≡ c.args.bound = search (begun, part.ensures.bound) in
    rw b (taken_keeps (value_in c.args.row) c.args.row.arcs.now part.new.self.arcs c.args.bound (length c.args.row.arcs.now) part.result (omega arith) taken part.ensures.none)
