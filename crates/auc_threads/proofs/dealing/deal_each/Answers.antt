use Rattle.std.proofs.Common.{◌≡◌, ◌∙◌, rules}
use Rattle.std.specs.Prelude.{Ok}
use Rattle.auc_mail.specs.declared.call.Taken.{Taken}
use Rattle.auc_threads.specs.declared.calls.Step.{Step}
use Rattle.auc_threads.proofs.DealingLaws.{takes_empty, takes_more, takes_none, with_shape}
use Rattle.auc_threads.proofs.dealing.deal_each.Goals as goal

pub loop-init : goal.loop-init
loop-init g c = record { shards = c.requires.shards; deals = takes_none _ _ _ _ _ _ c.requires.none }

pub returns-then-matches : goal.returns-then-matches
returns-then-matches g c =
    let empty : c.take-taken.result ≡ Ok Taken.Empty = search rules in
    takes_empty _ _ _ _ _ _ _ _ _ _ c.loop.invariant.deals c.take-taken.ensures.seat empty

pub returns-then-ne : goal.returns-then-ne
returns-then-ne g c =
    let deals = c.deal-step.ensures.deals in
    takes_more _ _ _ _ _ _ _ _ _ _ _ deals.more _ _ c.loop.invariant.deals c.take-taken.ensures.seat deals.behind deals.dealt c.deal-step.ensures.after

pub loop-preserved : goal.loop-preserved
loop-preserved g c =
    let on : c.deal-step.result ≡ Step.On = search rules in
    let inv = c.loop.invariant in
    let deals = rw on at c.deal-step.ensures.deals in
    record {
      shards = (with_shape _ _ _ _ _ _ deals.dealt).person_shards ∙ inv.shards;
      deals = takes_more _ _ _ _ _ _ _ _ _ _ _ deals.more _ _ inv.deals c.take-taken.ensures.seat deals.behind deals.dealt (rw on at c.deal-step.ensures.after);
    }
