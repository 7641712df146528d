use Rattle.std.proofs.Common.{◌≡◌, rules, refl, sym, ◌∙◌, w64, true, false}
use Rattle.std.specs.Prelude.{FitsSigned, int_le}
use Rattle.std.proofs.lemmas.Int.{to_z-of_z}
use Rattle.std.proofs.lemmas.Bool.{and_from, and_left, and_right}
use Rattle.auc_cert.specs.Fields.{spelled}
use Rattle.auc_cert.proofs.WordLaws.{spelled_word, spelled_no_word}
use Rattle.auc_cert.proofs.fields.spelled_in.Goals as goal
use Rattle.auc_cert.proofs.fields.spelled_in.Goals.{else-least-number-via-then-least-number+else-number-most, else-least-number-via-else-least-number}

pub returns-in_err-number-clause-exact : goal.returns-in_err-number-clause-exact
returns-in_err-number-clause-exact c =
    c.from_residual.ensures ∙ sym (spelled_no_word c.args.least c.args.most c.args.word.now c.ranges.least c.ranges.most c.in_err-number.ensures.none (spelled c.args.least c.args.most c.args.word.now) refl)

pub returns-then-number-most-clause-exact : goal.returns-then-number-most-clause-exact
returns-then-number-most-clause-exact c =
    let f : FitsSigned w64 c.in_ok-number.number = search rules in
    let g : FitsSigned w64 c.args.least = c.ranges.least in
    let h : FitsSigned w64 c.args.most = c.ranges.most in
    let low : int_le c.args.least c.in_ok-number.number ≡ true = simp to_z-of_z at c.if-least-number.true in
    let high : int_le c.in_ok-number.number c.args.most ≡ true = simp to_z-of_z at c.if-number-most.true in
    simp to_z-of_z (sym (spelled_word c.args.least c.args.most c.args.word.now c.in_ok-number.number true f c.in_ok-number.ensures.found (and_from (int_le c.args.least c.in_ok-number.number) (int_le c.in_ok-number.number c.args.most) low high)))

pub returns-else-least-number-clause-exact : goal.returns-else-least-number-clause-exact
returns-else-least-number-clause-exact c =
    let f : FitsSigned w64 c.in_ok-number.number = search rules in
    let g : FitsSigned w64 c.args.least = c.ranges.least in
    let h : FitsSigned w64 c.args.most = c.ranges.most in
    elim c.else-least-number.branch [
      | else-least-number-via-then-least-number+else-number-most w ↦
          let high : int_le c.in_ok-number.number c.args.most ≡ false = simp to_z-of_z at w.if-number-most.false in
          sym (spelled_word c.args.least c.args.most c.args.word.now c.in_ok-number.number false f c.in_ok-number.ensures.found (and_right (int_le c.args.least c.in_ok-number.number) (int_le c.in_ok-number.number c.args.most) high))
      | else-least-number-via-else-least-number w ↦
          let low : int_le c.args.least c.in_ok-number.number ≡ false = simp to_z-of_z at w.if-least-number.false in
          sym (spelled_word c.args.least c.args.most c.args.word.now c.in_ok-number.number false f c.in_ok-number.ensures.found (and_left (int_le c.args.least c.in_ok-number.number) (int_le c.in_ok-number.number c.args.most) low))
    ]
