use Rattle.std.proofs.Common.{◌+◌}
use Rattle.std.proofs.lemmas.Result.{err_from_is_err_and}
use Rattle.auc_cert.specs.Text.{assign_line, price_line}
use Rattle.auc_graph.specs.Price.{IsPrice}
use Rattle.auc_claim.specs.Spelled.{IsPick}
use Rattle.auc_cert.specs.Form.{objects_in}
use Rattle.auc_cert.specs.Runs.{From, BreaksOff}
use Rattle.auc_cert.specs.CertReading.{IsFirstBadOf, ChoiceLines}
use Rattle.auc_cert.proofs.CertLaws.{at_line, some_left, none_left}
use Rattle.auc_cert.proofs.ChoiceLaws.{bad_pick, bad_price, bad_end, is_choice}
use Rattle.auc_cert.proofs.choice_reading.choice_of.Goals as goal

pub returns-in_err-choice-clause-line : goal.returns-in_err-choice-clause-line
returns-in_err-choice-clause-line c =
    let p = err_from_is_err_and c.from_residual.result c.from_residual.ensures.1 in
    rw (p.1, p.2) (at_line c.in_err-choice.field-0.0 (From 2 (BreaksOff assign_line (IsPick (objects_in c.args.form)) c.args.persons c.args.bytes.now)) (From 2 (IsFirstBadOf (ChoiceLines c.args.form c.args.persons c.args.objects) c.args.bytes.now))
    (λ k h. bad_pick c.args.form c.args.persons c.args.objects c.args.bytes.now k c.requires h) (rw c.most_objects.ensures.most at c.in_err-choice.ensures.line))

pub returns-in_err-prices-clause-line : goal.returns-in_err-prices-clause-line
returns-in_err-prices-clause-line c =
    let p = err_from_is_err_and c.from_residual-in_err-prices.result c.from_residual-in_err-prices.ensures.1 in
    rw (p.1, p.2) (at_line c.in_err-prices.field-0.0 (From (2 + c.args.persons) (BreaksOff price_line IsPrice c.args.objects c.in_ok-choice.rest.now)) (From 2 (IsFirstBadOf (ChoiceLines c.args.form c.args.persons c.args.objects) c.args.bytes.now))
    (λ k h. bad_price c.args.form c.args.persons c.args.objects c.args.bytes.now c.in_ok-choice.choice.items c.in_ok-choice.rest.now k c.requires (rw c.most_objects.ensures.most at c.in_ok-choice.ensures.found) h) c.in_err-prices.ensures.line)

pub returns-then-not-is_empty-clause-line : goal.returns-then-not-is_empty-clause-line
returns-then-not-is_empty-clause-line c = λ _.
    bad_end c.args.form c.args.persons c.args.objects c.args.bytes.now c.in_ok-choice.choice.items c.in_ok-choice.rest.now c.in_ok-prices.prices.items c.in_ok-prices.rest.now c.requires
    (rw c.most_objects.ensures.most at c.in_ok-choice.ensures.found) c.in_ok-prices.ensures.found (some_left c.in_ok-prices.rest.now c.if-not-is_empty.ensures)

pub returns-clause-found : goal.returns-clause-found
returns-clause-found c =
    rw (c.new.ensures, c.new-2.ensures)
    (is_choice c.args.form c.args.persons c.args.objects c.args.bytes.now c.in_ok-choice.choice.items c.in_ok-choice.rest.now c.in_ok-prices.prices.items c.in_ok-prices.rest.now c.requires
    (rw c.most_objects.ensures.most at c.in_ok-choice.ensures.found) c.in_ok-prices.ensures.found (none_left c.in_ok-prices.rest.now c.if-not-is_empty.ensures))
