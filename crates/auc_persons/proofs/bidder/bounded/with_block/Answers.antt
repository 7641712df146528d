use Rattle.std.proofs.Common.{w64, arith, rules}
use Rattle.std.specs.Prelude.{FitsSigned}
use Rattle.std.proofs.lemmas.Int.{ints}
use Rattle.auc_persons.proofs.Parts.{covered_above}
use Rattle.auc_persons.proofs.bidder.bounded.with_block.Goals as goal

-- none of the arcs is at the limit or below
pub returns-then-least-begun-clause-covered : goal.returns-then-least-begun-clause-covered
returns-then-least-begun-clause-covered c =
    let f2 : FitsSigned w64 c.args.least = c.ranges.least in
    let f3 : FitsSigned w64 c.args.begun.limit = search rules in
    let r = c.requires in
    λ k d low high below. covered_above c.args.row.scale c.args.row.copies.now c.args.row.arcs.now c.args.begun.scan c.args.begun.limit k d c.args.row.scale_low c.args.row.scale_high c.args.row.is_row c.args.row.are_prices r.found r.limit (omega (arith, ints, c.if-least-begun.true, r.least k d low high below)) below

pub returns-clause-covered : goal.returns-clause-covered
returns-clause-covered c =
    let all = c.with_part.ensures.covered in
    λ k d low high below. all k d low (omega (arith, low, high, below, c.min.ensures))

pub returns-clause-found : goal.returns-clause-found
returns-clause-found c =
    c.with_part.ensures.found

pub returns-clause-kept : goal.returns-clause-kept
returns-clause-kept c =
    c.with_part.ensures.kept
