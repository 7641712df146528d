use Rattle.std.proofs.Common.{◌≡◌, length, refl, sym, ap, ◌∙◌, arith, if◌then◌else◌}
use Rattle.auc_graph.proofs.PieceLaws.{put_one, put_text, put_text_and}
use Rattle.std.specs.Fmt.{decimal}
use Rattle.std.proofs.lemmas.List.{append-nil}
use Rattle.auc_graph.proofs.unfinished.spell.Goals as goal
use Rattle.auc_graph.proofs.unfinished.spell.Goals.{then-negative, else-negative}

pub returns-in-NoNumber-clause-spelled : goal.returns-in-NoNumber-clause-spelled
returns-in-NoNumber-clause-spelled c = rw c.in-NoNumber.is (put_one c.args.piece.now 120 (omega (arith, c.requires)))

pub returns-then-point-clause-spelled : goal.returns-then-point-clause-spelled
returns-then-point-clause-spelled c =
    let sign : c.if-negative.piece ≡ (if c.in-Digits.negative then 45 else 43) = elim c.if-negative.branch [
      | then-negative w ↦ w.piece-is ∙ rw w.if-negative.true refl
      | else-negative w ↦ w.piece-is ∙ rw w.if-negative.false refl
    ] in
    let digits = c.copy_from_slice.ensures.after in
    let text : decimal c.in-Digits.value ≡ c.copy_from_slice.new.self = sym (digits ∙ c.as_bytes-digits.ensures.value ∙ c.format.ensures.text) in
    rw (c.in-Digits.is, c.if-point.true, text, ← sign)
    (put_text_and c.args.piece.now c.copy_from_slice.new.self c.if-negative.piece 46 (length c.as_bytes-digits.result.now) (omega (arith, c.requires, c.format.ensures.fits, ap length c.as_bytes-digits.ensures.value)) (ap length (sym digits)))

pub returns-else-point-clause-spelled : goal.returns-else-point-clause-spelled
returns-else-point-clause-spelled c =
    let sign : c.if-negative.piece ≡ (if c.in-Digits.negative then 45 else 43) = elim c.if-negative.branch [
      | then-negative w ↦ w.piece-is ∙ rw w.if-negative.true refl
      | else-negative w ↦ w.piece-is ∙ rw w.if-negative.false refl
    ] in
    let digits = c.copy_from_slice.ensures.after in
    let text : decimal c.in-Digits.value ≡ c.copy_from_slice.new.self = sym (digits ∙ c.as_bytes-digits.ensures.value ∙ c.format.ensures.text) in
    rw (c.in-Digits.is, c.if-point.false, text, ← sign, append-nil)
    (put_text c.args.piece.now c.copy_from_slice.new.self c.if-negative.piece (length c.as_bytes-digits.result.now) (omega (arith, c.requires)) (ap length (sym digits)))
