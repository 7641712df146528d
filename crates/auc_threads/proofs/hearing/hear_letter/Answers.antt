use Rattle.auc_threads.proofs.BuyingLaws.{fault_same, listens_fault, listens_ok}
use Rattle.auc_threads.proofs.HearingLaws.{hears_fault, hears_ok}
use Rattle.auc_threads.proofs.hearing.hear_letter.Goals as goal

pub returns-in-Err-clause-hears : goal.returns-in-Err-clause-hears
returns-in-Err-clause-hears c = hears_fault c.args.shard.now c.on_letter.new.self c.args.letter c.in-Err.fault c.reason_for.result _ c.in-Err.ensures.exact c.reason_for.ensures (λ e. cc)

pub returns-in-Ok-clause-hears : goal.returns-in-Ok-clause-hears
returns-in-Ok-clause-hears c = hears_ok c.args.shard.now c.on_letter.new.self c.args.letter tt _ c.in-Ok.ensures.exact c.in-Ok.ensures.rise (λ e. cc)

pub returns-in-Err-clause-listens : goal.returns-in-Err-clause-listens
returns-in-Err-clause-listens c = listens_fault _ _ c.args.shard.now c.on_letter.new.self c.args.letter c.in-Err.fault c.reason_for.result c.in-Err.ensures.exact (fault_same _ _ c.args.letter c.in-Err.fault c.in-Err.ensures.exact) c.reason_for.ensures

pub returns-in-Ok-clause-listens : goal.returns-in-Ok-clause-listens
returns-in-Ok-clause-listens c = listens_ok _ _ c.args.shard.now c.on_letter.new.self c.args.letter tt c.in-Ok.ensures.exact
