use Rattle.std.proofs.Common.{◌+◌}
use Rattle.std.specs.Prelude.{codes}
use Rattle.std.proofs.lemmas.Result.{err_from_is_err_and}
use Rattle.auc_cert.specs.Form.{least_last, objects_in, persons_in}
use Rattle.auc_cert.specs.Runs.{From, BreaksRising}
use Rattle.auc_cert.specs.CertReading.{IsFirstBadOf, NameLines}
use Rattle.auc_cert.proofs.CertLaws.{at_line, some_left, none_left}
use Rattle.auc_cert.proofs.NameLaws.{bad_person, bad_object, bad_name_end, are_names}
use Rattle.auc_cert.proofs.name_reading.names_of.Goals as goal

pub returns-in_err-named-clause-line : goal.returns-in_err-named-clause-line
returns-in_err-named-clause-line c =
    let p = err_from_is_err_and c.from_residual.result c.from_residual.ensures.1 in
    rw (p.1, p.2) (at_line c.in_err-named.field-0.0 (From 2 (BreaksRising (codes "person ") (persons_in c.args.form) 0 c.args.persons c.args.bytes.now)) (From 2 (IsFirstBadOf (NameLines c.args.form c.args.persons c.args.objects) c.args.bytes.now))
    (λ k h. bad_person c.args.form c.args.persons c.args.objects c.args.bytes.now k c.requires h) (rw c.most_persons-most.ensures.most at c.in_err-named.ensures.line))

pub returns-in_err-known-clause-line : goal.returns-in_err-known-clause-line
returns-in_err-known-clause-line c =
    let p = err_from_is_err_and c.from_residual-in_err-known.result c.from_residual-in_err-known.ensures.1 in
    rw (p.1, p.2) (at_line c.in_err-known.field-0.0 (From (2 + c.args.persons) (BreaksRising (codes "object ") (objects_in c.args.form) (least_last c.args.form) c.args.objects c.in_ok-named.rest.now)) (From 2 (IsFirstBadOf (NameLines c.args.form c.args.persons c.args.objects) c.args.bytes.now))
    (λ k h. bad_object c.args.form c.args.persons c.args.objects c.args.bytes.now c.in_ok-named.named.items c.in_ok-named.rest.now k c.requires (rw c.most_persons-most.ensures.most at c.in_ok-named.ensures.found) h) (rw (c.most_objects.ensures.most, c.least_last.ensures) at c.in_err-known.ensures.line))

pub returns-then-not-is_empty-clause-line : goal.returns-then-not-is_empty-clause-line
returns-then-not-is_empty-clause-line c = λ _.
    bad_name_end c.args.form c.args.persons c.args.objects c.args.bytes.now c.in_ok-named.named.items c.in_ok-named.rest.now c.in_ok-known.known.items c.in_ok-known.rest.now c.requires
    (rw c.most_persons-most.ensures.most at c.in_ok-named.ensures.found) (rw c.most_objects.ensures.most at c.in_ok-known.ensures.found) (rw c.least_last.ensures at c.in_ok-known.ensures.last) (some_left c.in_ok-known.rest.now c.if-not-is_empty.ensures)

pub returns-clause-found : goal.returns-clause-found
returns-clause-found c =
    rw (c.new.ensures, c.new-2.ensures)
    (are_names c.args.form c.args.persons c.args.objects c.args.bytes.now c.in_ok-named.named.items c.in_ok-named.rest.now c.in_ok-known.known.items c.in_ok-known.rest.now c.requires
    (rw c.most_persons-most.ensures.most at c.in_ok-named.ensures.found) (rw c.most_objects.ensures.most at c.in_ok-known.ensures.found) (rw c.least_last.ensures at c.in_ok-known.ensures.last) (none_left c.in_ok-known.rest.now c.if-not-is_empty.ensures))
