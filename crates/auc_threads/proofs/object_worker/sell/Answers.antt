use Rattle.std.proofs.Common.{◌≡◌, ◌≢◌, ◌∙◌, rules}
use Rattle.auc_threads.specs.declared.calls.Step.{Step}
use Rattle.auc_threads.proofs.DealingLaws.{serves_none, serves_then}
use Rattle.auc_threads.proofs.object_worker.sell.Goals as goal

pub loop-init : goal.loop-init
loop-init g c = record { shards = c.requires.shards; serves = serves_none _ _ _ _ }

pub loop-preserved : goal.loop-preserved
loop-preserved g c =
    let on : c.serve-step.result ≡ Step.On = search rules in
    record {
      shards = c.serve-step.ensures.shape.person_shards ∙ c.loop.invariant.shards;
      serves = serves_then _ _ _ _ _ _ _ c.loop.invariant.serves (rw on at c.serve-step.ensures.serves);
    }

pub returns-then-ne : goal.returns-then-ne
returns-then-ne g c =
    let ne : c.serve-step.result ≢ Step.On = search rules in
    record {
      step = c.serve-step.result;
      before = c.serve-step.new.worker.seats.hub;
      serves = rw (← c.requires.own) at (serves_then _ _ _ _ _ _ _ c.loop.invariant.serves c.serve-step.ensures.serves);
      ended = ne;
      ends = c.end-why.ensures.ends;
      why_is = c.end-why.ensures.why;
    }
