use Rattle.std.proofs.Common.{rules, ◌≢◌, []}
use Rattle.auc_call.proofs.RunLaws.{some_start}
use Rattle.auc_call.proofs.driver.answer_by_messages.Goals as goal

pub returns-clause-run : goal.returns-clause-run
returns-clause-run c =
    let some : c.args.start.now ≢ [] = search rules in
    rw (some_start c.args.start.now some) (search rules)
