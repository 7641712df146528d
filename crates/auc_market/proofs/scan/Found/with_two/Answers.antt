use Rattle.std.proofs.Common.{◌≡◌, ◌∙◌, ◌+◌, w64, rules, arith}
use Rattle.std.specs.Int.{int_max, int_min}
use Rattle.std.specs.Prelude.{FitsSigned, ◌≤ℤ◌, ◌<ℤ◌}
use Rattle.std.proofs.lemmas.Int.{ints, to_z-of_z}
use Rattle.auc_market.proofs.ScanLaws.{lowered_twice}
use Rattle.auc_market.proofs.scan.Found.with_two.Goals as goal
use Rattle.auc_market.proofs.scan.Found.with_two.Goals.{then-other-one, else-other-one, then-lesser-self, else-lesser-self}

pub returns : goal.returns
returns c =
    let f1 : FitsSigned w64 c.args.one = c.ranges.one in
    let f2 : FitsSigned w64 c.args.other = c.ranges.other in
    let f3 : FitsSigned w64 c.args.self.value = search rules in
    let f4 : FitsSigned w64 c.args.self.second = search rules in
    let f5 : FitsSigned w64 c.min-lesser.result = search rules in
    let f6 : FitsSigned w64 c.max-greater.result = search rules in
    let f7 : FitsSigned w64 c.min.result = search rules in
    let f8 : FitsSigned w64 c.min-2.result = search rules in
    let f9 : FitsSigned w64 c.max.result = search rules in
    let fa : FitsSigned w64 c.min-3.result = search rules in
    let lesser : c.min-lesser.result ≡ int_min c.args.one c.args.other = simp to_z-of_z at c.min-lesser.ensures.value in
    let greater : c.max-greater.result ≡ int_max c.args.one c.args.other = simp to_z-of_z at c.max-greater.ensures.value in
    let value : c.min.result ≡ int_min c.args.self.value c.min-lesser.result = simp to_z-of_z at c.min.ensures.value in
    let rest : c.min-2.result ≡ int_min c.args.self.second c.max-greater.result = simp to_z-of_z at c.min-2.ensures.value in
    let gone : c.max.result ≡ int_max c.args.self.value c.min-lesser.result = simp to_z-of_z at c.max.ensures.value in
    let second : c.min-3.result ≡ int_min c.min-2.result c.max.result = simp to_z-of_z at c.min-3.ensures.value in
    let near_first : c.args.one ≤ℤ c.args.other → c.if-other-one.near ≡ c.args.place = λ ge. elim c.if-other-one.branch [ then-other-one w ↦ absurd (let l = simp to_z-of_z at w.if-other-one.true in omega (arith, ints, l, ge)) | else-other-one w ↦ w.near-is ] in
    let near_next : c.args.other <ℤ c.args.one → c.if-other-one.near ≡ c.args.place + 1 = λ lt. elim c.if-other-one.branch [ then-other-one w ↦ (let e = w.near-is in omega (arith, e)) | else-other-one w ↦ absurd (let l = simp to_z-of_z at w.if-other-one.false in omega (arith, ints, l, lt)) ] in
    simp to_z-of_z
    (lowered_twice c.args.self c.args.one c.args.other c.args.place (record { value = c.min.result; second = c.min-3.result; place = c.if-lesser-self.place }) c.min-lesser.result c.max-greater.result c.min-2.result c.max.result c.requires.ordered lesser greater rest gone value second
    (λ over. elim c.if-lesser-self.branch [ then-lesser-self w ↦ absurd (let l = simp to_z-of_z at w.if-lesser-self.true in omega (arith, ints, l, over)) | else-lesser-self w ↦ w.place-is ])
    (λ less ge. elim c.if-lesser-self.branch [ then-lesser-self w ↦ w.place-is ∙ near_first ge | else-lesser-self w ↦ absurd (let l = simp to_z-of_z at w.if-lesser-self.false in omega (arith, ints, l, less)) ])
    (λ less lt. elim c.if-lesser-self.branch [ then-lesser-self w ↦ w.place-is ∙ near_next lt | else-lesser-self w ↦ absurd (let l = simp to_z-of_z at w.if-lesser-self.false in omega (arith, ints, l, less)) ]))
