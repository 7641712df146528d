use Rattle.std.proofs.Common.{◌≡◌, sym, subst, ap, ◌∙◌, w64}
use Rattle.std.specs.Prelude.{FitsSigned}
use Rattle.std.specs.declared.num.ParseIntError.{ParseIntError}
use Rattle.std.specs.Str.{IsUtf8}
use Rattle.std.specs.Fmt.{signed_decimal}
use Rattle.std.proofs.lemmas.Fmt.{IsAscii-signed}
use Rattle.std.proofs.lemmas.Str.{IsUtf8-from_ascii}
use Rattle.std.proofs.lemmas.Int.{to_z-of_z}
use Rattle.auc_cert.proofs.NumberWords.{not_parsed, parsed, differ}
use Rattle.auc_cert.proofs.fields.number_of_word.Goals as goal

pub returns-in-Err-clause-none : goal.returns-in-Err-clause-none
returns-in-Err-clause-none c = λ z f e. c.in-Err.ensures.cases.0 (subst IsUtf8 (sym e) (IsUtf8-from_ascii (signed_decimal z) (IsAscii-signed z f.sfits)))

pub returns-in-Err-parse-clause-none : goal.returns-in-Err-parse-clause-none
returns-in-Err-parse-clause-none c = λ z f e. not_parsed c.in-Ok.text.now c.args.word.now c.in-Err-parse.field-0 z f c.in-Ok.ensures.cases.0 e c.in-Err-parse.ensures.value.0

pub returns-else-eq-clause-none : goal.returns-else-eq-clause-none
returns-else-eq-clause-none c = λ z f e.
    let same : c.in-Ok-parse.number ≡ z = parsed ParseIntError c.in-Ok.text.now c.args.word.now c.in-Ok-parse.number z f c.in-Ok.ensures.cases.0 e c.in-Ok-parse.ensures.value.0 in
    let fits : FitsSigned w64 c.in-Ok-parse.number = subst (FitsSigned w64) (sym same) f in
    let text : c.format.result.now ≡ signed_decimal c.in-Ok-parse.number = c.format.ensures.text ∙ ap signed_decimal (to_z-of_z w64 c.in-Ok-parse.number fits) in
    let whole : c.as_bytes.result.now ≡ c.args.word.now = c.as_bytes.ensures.value ∙ text ∙ ap signed_decimal same ∙ sym e in
    differ c.as_bytes.result.now c.args.word.now whole (sym c.eq.ensures ∙ c.if-eq.false)
