use Rattle.std.proofs.Common.{◌≡◌, refl, rules}
use Rattle.std.specs.Prelude.{Ok}
use Rattle.auc_mail.specs.declared.call.Taken.{Taken}
use Rattle.auc_threads.specs.declared.calls.Step.{Step}
use Rattle.auc_threads.proofs.BuyingLaws.{listens_more, listens_empty, listens_none}
use Rattle.auc_threads.proofs.HearingLaws.{hears_first, hears_nothing, hears_taken, hears_then}
use Rattle.auc_threads.proofs.TakingLaws.{took_empty, took_nil, took_take}
use Rattle.auc_threads.proofs.hearing.hear_each.Goals as goal

pub loop-init : goal.loop-init
loop-init g c = record { is = c.requires.shard; hears = hears_nothing _ _ _ _ _ _ _ (took_nil _ _ _) refl (λ f. f); listens = listens_none _ _ _ _ _ _ }

pub returns-then-matches-clause-hears : goal.returns-then-matches-clause-hears
returns-then-matches-clause-hears g c =
    let empty : c.take-taken.result ≡ Ok Taken.Empty = search rules in
    hears_then _ _ _ _ _ _ _ _ _ _ c.loop.invariant.hears (hears_nothing _ _ _ _ _ _ _ (took_empty _ _ _ _ _ c.take-taken.ensures.seat empty) refl (λ e. cc))

pub returns-then-matches-clause-listens : goal.returns-then-matches-clause-listens
returns-then-matches-clause-listens g c =
    let empty : c.take-taken.result ≡ Ok Taken.Empty = search rules in
    listens_empty _ _ _ _ _ _ _ _ _ _ c.loop.invariant.listens c.take-taken.ensures.seat empty

pub returns-then-ne-clause-hears : goal.returns-then-ne-clause-hears
returns-then-ne-clause-hears g c =
    hears_then _ _ _ _ _ _ _ _ _ _ c.loop.invariant.hears (hears_taken _ _ _ _ _ _ _ _ (took_take _ _ _ _ _ c.take-taken.ensures.seat) c.hear-step.ensures.hears)

pub returns-then-ne-clause-listens : goal.returns-then-ne-clause-listens
returns-then-ne-clause-listens g c =
    listens_more _ _ _ _ _ _ _ _ _ _ _ _ c.loop.invariant.listens c.take-taken.ensures.seat c.hear-step.ensures.listens c.hear-step.ensures.after

pub loop-preserved : goal.loop-preserved
loop-preserved g c =
    let on : c.hear-step.result ≡ Step.On = search rules in
    record {
      is = c.hear-step.ensures.is;
      hears = hears_then _ _ _ _ _ _ _ _ _ _ c.loop.invariant.hears (hears_first _ _ _ _ _ _ _ _ (λ f. absurd f) (hears_taken _ _ _ _ _ _ _ _ (took_take _ _ _ _ _ c.take-taken.ensures.seat) c.hear-step.ensures.hears));
      listens = listens_more _ _ _ _ _ _ _ _ _ _ _ _ c.loop.invariant.listens c.take-taken.ensures.seat (rw on at c.hear-step.ensures.listens) (rw on at c.hear-step.ensures.after);
    }
