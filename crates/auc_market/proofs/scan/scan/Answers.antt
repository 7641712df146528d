use Rattle.std.proofs.Common.{◌≡◌, ◌+◌, ◌-◌, ◌*◌, ℕ, arith, length, subst, w64, rules}
use Rattle.std.specs.Prelude.{FitsSigned}
use Rattle.std.proofs.lemmas.Int.{to_z-of_z}
use Rattle.auc_market.specs.Scan.{IsFound, short_value}
use Rattle.auc_market.proofs.ScanLaws.{found_first, found_more}
use Rattle.auc_market.proofs.scan.scan.Goals as goal

pub loop-pair-init : goal.loop-pair-init
loop-pair-init c =
    let f1 : FitsSigned w64 c.args.scale = c.ranges.scale in
    let f2 : FitsSigned w64 c.value_of.result = search rules in
    let is = simp to_z-of_z at c.value_of.ensures.is in
    simp to_z-of_z (found_first (short_value c.args.scale c.args.prices.now) c.args.row.now c.value_of.result is c.value_of.ensures.range)

pub loop-pair-preserved : goal.loop-pair-preserved
loop-pair-preserved c =
    let f1 : FitsSigned w64 c.args.scale = c.ranges.scale in
    let f2 : FitsSigned w64 c.value_of-one.result = search rules in
    let f3 : FitsSigned w64 c.value_of-other.result = search rules in
    let val = short_value c.args.scale c.args.prices.now in
    let row = c.args.row.now in
    let inv = simp to_z-of_z at c.loop-pair.invariant in
    let one = simp to_z-of_z at c.value_of-one.ensures.is in
    let other = simp to_z-of_z at c.value_of-other.ensures.is in
    let low = simp to_z-of_z at c.with_two-found.ensures in
    let n = 2 * c.loop-pair.pair + 1 in
    let found = found_more val row n c.loop-pair.found c.value_of-one.result inv one c.value_of-one.ensures.range low.0 low.1 in
    let two = found_more val row (n + 1) low.0 c.value_of-other.result found other c.value_of-other.ensures.range c.with_two-found.result low.2 in
    let on : n + 1 + 1 ≡ 2 * (c.loop-pair.pair + 1) + 1 = omega arith in
    simp to_z-of_z (subst (λ (n : ℕ). IsFound val row n c.with_two-found.result) on two)

pub returns-then-row-eq0 : goal.returns-then-row-eq0
returns-then-row-eq0 c =
    let f1 : FitsSigned w64 c.args.scale = c.ranges.scale in
    let f2 : FitsSigned w64 c.value_of-then-row-eq0.result = search rules in
    let val = short_value c.args.scale c.args.prices.now in
    let row = c.args.row.now in
    let last = length row - 1 in
    let at : 2 * c.loop-pair.pair + 1 ≡ last = search rules in
    let inv = subst (λ (n : ℕ). IsFound val row n c.loop-pair.found) at (simp to_z-of_z at c.loop-pair.invariant) in
    let is = simp to_z-of_z at c.value_of-then-row-eq0.ensures.is in
    let low = simp to_z-of_z at c.with-found.ensures in
    let on : last + 1 ≡ length row = search rules in
    subst (λ (n : ℕ). IsFound val row n c.with-found.result) on (found_more val row last c.loop-pair.found c.value_of-then-row-eq0.result inv is c.value_of-then-row-eq0.ensures.range c.with-found.result low)
