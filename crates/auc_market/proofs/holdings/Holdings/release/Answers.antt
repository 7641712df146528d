use Rattle.std.proofs.Common.{◌≡◌, arith, false, refl, true, w64}
use Rattle.std.specs.Prelude.{FitsSigned}
use Rattle.std.proofs.lemmas.Int.{to_z-of_z}
use Rattle.auc_market.proofs.StartLaws.{kept_left, kept_on, stands_left, stands_within, within_next}
use Rattle.auc_market.proofs.holdings.Holdings.release.Goals as goal

pub loop-person-preserved-then-is_within : goal.loop-person-preserved-then-is_within
loop-person-preserved-then-is_within c =
    let f1 : FitsSigned w64 c.args.eps = c.ranges.eps in
    let inv = simp to_z-of_z at c.loop-person.invariant in
    let here = simp to_z-of_z at (c.if-is_within.ensures.yes refl) in
    simp to_z-of_z (record {
      stands = inv.stands;
      kept = inv.kept;
      within = λ e. within_next c.args.rows.now c.args.eps c.loop-person.self.prices.items c.loop-person.self.owns.items c.loop-person.person (inv.within e) here;
    })

pub loop-person-preserved : goal.loop-person-preserved
loop-person-preserved c =
    let inv = c.loop-person.invariant in
    let some = c.if-is_within.ensures.no refl in
    let sound = c.persons-person-end.ensures.sound in
    rw (c.leave.ensures.prices, c.leave.ensures.holders, c.leave.ensures.owns) (record {
      stands = stands_left c.args.rows.now c.loop-person.self.prices.items c.loop-person.self.holders.items c.loop-person.self.owns.items c.loop-person.person sound inv.stands some;
      kept = kept_on c.args.self.now.prices.items c.loop-person.self.prices.items _ inv.kept (kept_left c.args.rows.now c.loop-person.self.prices.items c.loop-person.self.holders.items c.loop-person.self.owns.items c.loop-person.person sound inv.stands some);
      within = λ e. absurd (let no : true ≡ false = e in cc);
    })

pub returns-clause-nobody : goal.returns-clause-nobody
returns-clause-nobody c = λ e. (
    let f1 : FitsSigned w64 c.args.eps = c.ranges.eps in
    let inv = simp to_z-of_z at c.loop-person.invariant in
    let test = c.loop-person-test.false in
    let persons = c.persons-person-end.ensures.persons in
    stands_within c.args.rows.now c.args.eps c.loop-person.self.prices.items c.loop-person.self.holders.items c.loop-person.self.owns.items c.persons-person-end.ensures.sound inv.stands (λ i lt some. inv.within e i (omega (arith, lt, test, persons)) some)
    )
