use Rattle.std.proofs.Common.{arith, refl, w64}
use Rattle.std.specs.Prelude.{FitsSigned}
use Rattle.std.proofs.lemmas.Int.{to_z-of_z}
use Rattle.auc_market.proofs.StartLaws.{stands_within, within_next}
use Rattle.auc_market.proofs.holdings.Holdings.all_within.Goals as goal

pub loop-person-preserved : goal.loop-person-preserved
loop-person-preserved c =
    let f : FitsSigned w64 c.args.eps = c.ranges.eps in
    let inv = simp to_z-of_z at c.loop-person.invariant in
    let here = simp to_z-of_z at (c.if-not-is_within.ensures.yes refl) in
    simp to_z-of_z (within_next c.args.rows.now c.args.eps c.args.self.now.prices.items c.args.self.now.owns.items c.loop-person.person inv here)

pub returns : goal.returns
returns c = λ _. (
    let f : FitsSigned w64 c.args.eps = c.ranges.eps in
    let inv = simp to_z-of_z at c.loop-person.invariant in
    let over = c.loop-person-test.false in
    let persons = c.persons-person-end.ensures.persons in
    stands_within c.args.rows.now c.args.eps c.args.self.now.prices.items c.args.self.now.holders.items c.args.self.now.owns.items c.persons-person-end.ensures.sound c.requires.stands (λ i lt. inv i (omega (arith, lt, over, persons)))
    )
