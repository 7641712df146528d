use Rattle.std.proofs.Common.{get_or, pos, arith, w64}
use Rattle.std.specs.Prelude.{FitsSigned}
use Rattle.std.proofs.lemmas.Int.{ints, to_z-of_z}
use Rattle.auc_claim.specs.Start.{is_high}
use Rattle.auc_claim.proofs.ClaimLaws.{place_is, no_place}
use Rattle.auc_claim.proofs.start.high_price.Goals as goal

pub returns-then-prices-object-gt-HIGHEST_START : goal.returns-then-prices-object-gt-HIGHEST_START
returns-then-prices-object-gt-HIGHEST_START c =
    let f = c.requires.fair c.loop-object.object (pos 0) c.loop-object-test.true in
    let fits : FitsSigned w64 (get_or c.args.prices.now c.loop-object.object (pos 0)) = omega (arith, ints, f.low, f.high) in
    place_is is_high c.args.prices.now c.loop-object.object (pos 0) (omega arith) c.loop-object.invariant (simp to_z-of_z at c.if-prices-object-gt-HIGHEST_START.true)

pub returns : goal.returns
returns c = no_place is_high c.args.prices.now (pos 0) (λ k lt. c.loop-object.invariant k (omega arith))
