use Rattle.std.proofs.Common.{◌≡◌, ◌+◌, ◌*◌, ◌/◌, ◌-◌, ◌∙◌, w64, arith, refl}
use Rattle.std.specs.Prelude.{FitsSigned}
use Rattle.std.proofs.lemmas.Int.{to_z-of_z}
use Rattle.auc_persons.proofs.bidder.shortlist.Shortlist.take_part.Goals as goal

pub loop-pair-preserved : goal.loop-pair-preserved
loop-pair-preserved c =
    let f5 : FitsSigned w64 c.args.bound = c.ranges.bound in
    let inv = simp to_z-of_z at c.loop-pair.invariant in
    let one = simp to_z-of_z at c.if-not-take_at.ensures in
    let two = simp to_z-of_z at c.if-not-take_at-2.ensures in
    let step : c.args.from + 2 * c.loop-pair.pair + 1 + 1 ≡ c.args.from + 2 * (c.loop-pair.pair + 1) = omega arith in
    simp to_z-of_z (record {
      gathered = rw step at two.taken refl;
      order = omega (arith, c.loop-pair-test.true);
      bound = two.bound ∙ one.bound ∙ inv.bound;
      person = two.person ∙ one.person ∙ inv.person;
    })

pub take_at-requires-then-place-to-clause-gathered : goal.take_at-requires-then-place-to-clause-gathered
take_at-requires-then-place-to-clause-gathered c =
    let all : c.loop-pair.pair ≡ (c.args.to - c.args.from) / 2 = omega (arith, c.loop-pair-test.false, c.loop-pair.auto.pair-end) in
    rw all at c.loop-pair.invariant.gathered

pub returns-then-place-to-clause-taken : goal.returns-then-place-to-clause-taken
returns-then-place-to-clause-taken c took =
    let f5 : FitsSigned w64 c.args.bound = c.ranges.bound in
    let last = simp to_z-of_z at c.take_at-then-place-to.ensures.taken in
    let at : c.args.from + 2 * ((c.args.to - c.args.from) / 2) + 1 ≡ c.args.to = omega (arith, c.if-place-to.true) in
    rw at at last took

pub returns-clause-taken : goal.returns-clause-taken
returns-clause-taken c _ =
    let f5 : FitsSigned w64 c.args.bound = c.ranges.bound in
    let inv = simp to_z-of_z at c.loop-pair.invariant in
    let all : c.loop-pair.pair ≡ (c.args.to - c.args.from) / 2 = omega (arith, c.loop-pair-test.false, c.loop-pair.auto.pair-end) in
    let at : c.args.from + 2 * c.loop-pair.pair ≡ c.args.to = omega (arith, all, c.if-place-to.false, inv.order) in
    rw at at inv.gathered
