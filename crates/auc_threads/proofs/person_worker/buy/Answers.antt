use Rattle.std.proofs.Common.{◌≡◌, ◌≢◌, ◌∙◌, refl, rules, subst}
use Rattle.auc_letters.specs.declared.letter.Letter.{Letter}
use Rattle.auc_letters.specs.declared.letter.Why.{Why}
use Rattle.auc_book.specs.Seat.{Account}
use Rattle.auc_threads.specs.declared.calls.Step.{Step}
use Rattle.auc_threads.specs.Posting.{Ends}
use Rattle.auc_threads.proofs.BuyingLaws.{buys_apart, buys_none, buys_then}
use Rattle.auc_threads.proofs.HearingLaws.{hears_first, hears_nothing, hears_then}
use Rattle.auc_threads.proofs.StepLaws.{why_stop}
use Rattle.auc_threads.proofs.TakingLaws.{took_nil}
use Rattle.auc_threads.proofs.person_worker.buy.Goals as goal

pub loop-init : goal.loop-init
loop-init g c = record {
  is = c.requires.shard;
  kept = c.requires.kept;
  hears = hears_nothing _ _ _ _ _ _ _ (took_nil _ _ _) refl (λ f. f);
  buys = buys_none _ _ _ _ _;
  hub = refl;
}

pub loop-preserved : goal.loop-preserved
loop-preserved g c =
    let on : c.serve-step.result ≡ Step.On = search rules in
    let inv = c.loop.invariant in
    record {
      is = c.serve-step.ensures.is;
      kept = c.serve-step.ensures.kept;
      hears = hears_then _ _ _ _ _ _ _ _ _ _ inv.hears (hears_first _ _ _ _ _ _ _ _ (λ f. absurd f) c.serve-step.ensures.hears);
      buys = buys_then _ _ _ _ _ _ _ _ inv.buys (rw on at c.serve-step.ensures.buys);
      hub = c.serve-step.ensures.hub ∙ inv.hub;
    }

pub returns-then-ne : goal.returns-then-ne
returns-then-ne g c =
    let ne : c.serve-step.result ≢ Step.On = search rules in
    let inv = c.loop.invariant in
    record {
      step = c.serve-step.result;
      buys = rw (← c.requires.shard.number) at (buys_apart _ _ _ _ _ _ c.end-why.new.seat _ (buys_then _ _ _ _ _ _ _ _ inv.buys c.serve-step.ensures.buys));
      ended = ne;
      ends = subst (λ (x : Account Letter). Ends g.H.MailBrand.room x c.serve-step.result c.end-why.new.seat) (c.serve-step.ensures.hub ∙ inv.hub) c.end-why.ensures.ends;
      why_is = c.end-why.ensures.why;
      hears = rw (← c.requires.shard.number) at (hears_then _ _ _ _ _ _ _ _ _ _ inv.hears (hears_first _ _ _ _ _ _ _ _ (λ e. why_stop c.serve-step.result c.end-why.result Why.Fell c.end-why.ensures.why e) c.serve-step.ensures.hears));
      stuck = λ e. c.serve-step.ensures.stuck (why_stop c.serve-step.result c.end-why.result Why.Stuck c.end-why.ensures.why e);
    }
