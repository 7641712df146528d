use Rattle.std.proofs.Common.{◌≡◌, ◌++◌, ◌∙◌, sym}
use Rattle.auc_cert.specs.Runs.{From}
use Rattle.auc_cert.specs.CertReading.{CertLines, IsFirstBadOf, IsTextOf}
use Rattle.auc_cert.specs.SecondLine.{LinesBehind, second_line}
use Rattle.auc_cert.specs.Form.{IsSpelledIn}
use Rattle.auc_cert.specs.Text.{head_line, text_in}
use Rattle.auc_cert.proofs.CertLaws.{head_takes, bad_head, bad_second, bad_behind, if_read, if_refused, is_front}
use Rattle.auc_cert.proofs.reading.claim_of.Goals as goal

pub returns-in-None-clause-line : goal.returns-in-None-clause-line
returns-in-None-clause-line c = λ _. bad_head c.args.large c.args.bytes.now c.in-None.ensures

pub returns-in-None-second_line_of-clause-line : goal.returns-in-None-second_line_of-clause-line
returns-in-None-second_line_of-clause-line c = λ _.
    bad_second c.args.large c.in-Some.found.0 c.args.bytes.now c.in-Some.found.1.now (head_takes c.args.large c.args.bytes.now c.in-Some.found.0 c.in-Some.found.1.now (sym c.in-Some.ensures)) c.in-None-second_line_of.ensures

pub parts_of-requires : goal.parts_of-requires
parts_of-requires c = (is_front c.args.large c.args.bytes.now c.in-Some.found.0 c.in-Some.found.1.now c.in-Some-second_line_of.found.0 c.in-Some-second_line_of.found.1.now c.in-Some.ensures c.in-Some-second_line_of.ensures).is

pub returns-clause-found : goal.returns-clause-found
returns-clause-found c =
    let v = c.in-Some.found.0 in
    let second = c.in-Some-second_line_of.found.0 in
    let rest = c.in-Some-second_line_of.found.1.now in
    let front = is_front c.args.large c.args.bytes.now v c.in-Some.found.1.now second rest c.in-Some.ensures c.in-Some-second_line_of.ensures in
    if_read c.parts_of.result (λ p. IsSpelledIn v p × (text_in v p ≡ head_line v ++ (second_line v second ++ rest))) (IsTextOf c.args.large c.args.bytes.now)
    (λ p is. record { form = v; taken = front.taken; spelled = is.0; text_is = front.text ∙ sym is.1 }) c.parts_of.ensures.found

pub returns-clause-line : goal.returns-clause-line
returns-clause-line c =
    let v = c.in-Some.found.0 in
    let second = c.in-Some-second_line_of.found.0 in
    let rest = c.in-Some-second_line_of.found.1.now in
    let front = is_front c.args.large c.args.bytes.now v c.in-Some.found.1.now second rest c.in-Some.ensures c.in-Some-second_line_of.ensures in
    if_refused c.parts_of.result (From 2 (IsFirstBadOf (LinesBehind v second) rest)) (IsFirstBadOf (CertLines c.args.large) c.args.bytes.now)
    (λ k h. bad_behind c.args.large v second c.args.bytes.now rest k front h) c.parts_of.ensures.line
