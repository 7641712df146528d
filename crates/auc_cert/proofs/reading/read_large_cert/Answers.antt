use Rattle.std.proofs.lemmas.Result.{err_from_is_err_and}
use Rattle.std.proofs.Common.{true, ◌∙◌}
use Rattle.std.proofs.lemmas.Bool.{false≢true}
use Rattle.auc_cert.proofs.CertLaws.{no_bad_line, same_answer, same_claim, text_in_range}
use Rattle.auc_cert.proofs.reading.read_large_cert.Goals as goal

pub returns-in_err-claim_of-clause-only : goal.returns-in_err-claim_of-clause-only
returns-in_err-claim_of-clause-only c =
    let p = err_from_is_err_and c.from_residual.result c.from_residual.ensures.1 in
    rw (p.1, p.2) (λ d of other. absurd (no_bad_line true c.args.bytes.now c.in_err-claim_of.field-0.0 d of c.in_err-claim_of.ensures.line other))

pub unreachable-requires : goal.unreachable-requires
unreachable-requires c = false≢true (c.in-Err.ensures.ok.1 (text_in_range true c.args.bytes.now c.in_ok-claim_of.field-0 c.in_ok-claim_of.ensures.found))

pub returns-clause-only : goal.returns-clause-only
returns-clause-only c = λ d of. same_answer c.in-Ok.cert d (c.in-Ok.ensures.same ∙ same_claim true c.args.bytes.now c.in_ok-claim_of.field-0 d c.in_ok-claim_of.ensures.found of)
