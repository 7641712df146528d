use Rattle.std.proofs.Common.{w64, arith, rules}
use Rattle.std.specs.Prelude.{FitsSigned}
use Rattle.std.proofs.lemmas.Int.{ints, to_z-of_z}
use Rattle.auc_persons.proofs.Found.{taken_other_first, taken_other_next, taken_other_stays, taken_same_first, taken_same_stays}
use Rattle.auc_persons.proofs.bidder.search.Search.with.Goals as goal

pub returns-then-arc-best-clause-taken : goal.returns-then-arc-best-clause-taken
returns-then-arc-best-clause-taken c =
    let f1 : FitsSigned w64 c.args.value = c.ranges.value in
    let f2 : FitsSigned w64 c.args.self.scan.value = search rules in
    let f3 : FitsSigned w64 c.args.self.scan.second = search rules in
    let p = simp to_z-of_z at c.if-is_preceded.ensures in
    let e = simp to_z-of_z at c.by.ensures.scan in
    taken_same_first c.args.self.scan c.args.arc c.args.value c.by.result.scan c.if-arc-best.true p e

pub returns-then-is_preceded-clause-taken : goal.returns-then-is_preceded-clause-taken
returns-then-is_preceded-clause-taken c =
    let f1 : FitsSigned w64 c.args.value = c.ranges.value in
    let f2 : FitsSigned w64 c.args.self.scan.value = search rules in
    let f3 : FitsSigned w64 c.args.self.scan.second = search rules in
    let p = simp to_z-of_z at c.if-is_preceded.ensures in
    let e = simp to_z-of_z at c.by-then-is_preceded.ensures.scan in
    taken_other_first c.args.self.scan c.args.arc c.args.value c.by-then-is_preceded.result.scan c.if-arc-best.false p e

pub returns-then-arc-best-2-clause-taken : goal.returns-then-arc-best-2-clause-taken
returns-then-arc-best-2-clause-taken c =
    let f1 : FitsSigned w64 c.args.value = c.ranges.value in
    let f2 : FitsSigned w64 c.args.self.scan.value = search rules in
    let f3 : FitsSigned w64 c.args.self.scan.second = search rules in
    let q = simp to_z-of_z at c.if-is_preceded.ensures in
    taken_same_stays c.args.self.scan c.args.arc c.args.value c.if-arc-best-2.true q

pub returns-then-second-value-clause-taken : goal.returns-then-second-value-clause-taken
returns-then-second-value-clause-taken c =
    let f1 : FitsSigned w64 c.args.value = c.ranges.value in
    let f2 : FitsSigned w64 c.args.self.scan.value = search rules in
    let f3 : FitsSigned w64 c.args.self.scan.second = search rules in
    let q = simp to_z-of_z at c.if-is_preceded.ensures in
    taken_other_stays c.args.self.scan c.args.arc c.args.value c.if-arc-best-2.false q (omega (arith, ints))

pub returns-clause-taken : goal.returns-clause-taken
returns-clause-taken c =
    let f1 : FitsSigned w64 c.args.value = c.ranges.value in
    let f2 : FitsSigned w64 c.args.self.scan.value = search rules in
    let f3 : FitsSigned w64 c.args.self.scan.second = search rules in
    let q = simp to_z-of_z at c.if-is_preceded.ensures in
    let e = simp to_z-of_z at c.by-2.ensures.scan in
    taken_other_next c.args.self.scan c.args.arc c.args.value c.by-2.result.scan c.if-arc-best-2.false q (omega (arith, ints)) e
