use Rattle.std.proofs.Common.{◌+◌, w64, arith}
use Rattle.std.specs.Prelude.{FitsSigned}
use Rattle.std.proofs.lemmas.Int.{ints, to_z-of_z}
use Rattle.auc_persons.specs.Priced.{no_arc, value_in}
use Rattle.auc_persons.proofs.Shortlists.{gathered_to}
use Rattle.auc_persons.proofs.bidder.shortlist.Shortlist.take_block.Goals as goal

-- none of the arcs is below the bound
pub returns-then-least-bound-clause-taken : goal.returns-then-least-bound-clause-taken
returns-then-least-bound-clause-taken c _ =
    let f2 : FitsSigned w64 c.args.least = c.ranges.least in
    let f5 : FitsSigned w64 c.args.bound = c.ranges.bound in
    let r = c.requires in
    gathered_to (value_in c.args.row) c.args.row.arcs.now c.args.self.now.arcs c.args.bound c.args.from (c.args.from + 16) c.args.row.is_row.rising (omega arith) (λ k low high below. omega (arith, ints, r.least k no_arc low high below, c.if-least-bound.true)) r.gathered

pub returns-clause-taken : goal.returns-clause-taken
returns-clause-taken c fitted =
    let f5 : FitsSigned w64 c.args.bound = c.ranges.bound in
    let part = c.take_part in
    let taken = simp to_z-of_z at part.ensures.taken in
    let ends = c.min.ensures in
    gathered_to (value_in c.args.row) c.args.row.arcs.now part.new.self.arcs c.args.bound (c.args.from + c.min.result) (c.args.from + 16) c.args.row.is_row.rising (omega (arith, ends)) (λ k low high below. absurd (omega (arith, low, high, below, ends))) (taken fitted)
