use Rattle.std.proofs.Common.{◌≡◌, arith, refl, subst, w64, ℕ}
use Rattle.std.specs.Prelude.{FitsSigned}
use Rattle.std.proofs.lemmas.Int.{to_z-of_z}
use Rattle.auc_dense.proofs.BiddingLaws.{IsUnderWay, have_bid, no_bid, one_more_bid}
use Rattle.auc_dense.proofs.bidding.bid_out.Goals as goal

pub loop-made-init : goal.loop-made-init
loop-made-init c =
    let gap_fits : FitsSigned w64 c.args.gap = c.ranges.gap in
    let first = c.in_ok-phase.ensures in
    simp to_z-of_z (no_bid c.args.table.now.persons c.args.table.now.objects c.args.table.now.costs.now c.args.table.now.stride c.args.gap c.requires.problem c.requires.table.table c.in_ok-phase.phase first.prices first.holders first.displaced first.begun)

pub loop-made-preserved : goal.loop-made-preserved
loop-made-preserved c =
    let gap_fits : FitsSigned w64 c.args.gap = c.ranges.gap in
    let was = simp to_z-of_z at c.loop-made.invariant in
    let made = simp to_z-of_z at (c.if-not-bid.ensures refl) in
    simp to_z-of_z (one_more_bid c.args.table.now.persons c.args.table.now.objects c.args.table.now.costs.now c.args.table.now.stride c.args.gap c.requires.problem c.requires.table.table c.loop-made._made c.loop-made.phase c.bid.new.phase was made)

pub returns : goal.returns
returns c =
    let gap_fits : FitsSigned w64 c.args.gap = c.ranges.gap in
    let two = simp to_z-of_z at (c.if-not-has_two_costs.ensures refl) in
    let was = simp to_z-of_z at c.loop-made.invariant in
    let all : c.loop-made._made ≡ c.args.bids = (let past = c.loop-made-test.false in let end = c.loop-made.auto._made-end in omega (arith, past, end)) in
    have_bid c.args.table.now.persons c.args.table.now.objects c.args.table.now.costs.now c.args.table.now.stride c.args.gap c.requires.problem c.requires.table.table c.args.bids c.loop-made.phase two
    (subst (λ (n : ℕ). IsUnderWay c.args.table.now.persons c.args.table.now.objects c.args.table.now.costs.now c.args.table.now.stride c.args.gap n c.loop-made.phase) all was)
