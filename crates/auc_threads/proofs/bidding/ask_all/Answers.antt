use Rattle.std.proofs.Common.{◌∙◌, sym, subst}
use Rattle.std.proofs.lemmas.List.Elements.{All-push}
use Rattle.auc_persons.specs.Persons.{Persons}
use Rattle.auc_threads.specs.Taking.{GoesWithin}
use Rattle.auc_threads.specs.Buying.{CantBid}
use Rattle.auc_threads.proofs.BuyingLaws.{asks_end, asks_more}
use Rattle.auc_threads.proofs.bidding.ask_all.Goals as goal

pub returns-in-Stop-clause-asks : goal.returns-in-Stop-clause-asks
returns-in-Stop-clause-asks c =
    let next = c.in-Stop.ensures.next in
    asks_end _ _ _ _ _ _ _ _ c.loop.invariant.asks next.2 (subst (λ (z : Persons). CantBid c.args.task.now.rows.now c.args.task.now.eps z c.in-Stop.why) (sym next.2) (next.0, next.1))

pub loop-preserved : goal.loop-preserved
loop-preserved c =
    let inv = c.loop.invariant in
    record {
      is = c.ask.ensures.is;
      kept = c.ask.ensures.kept;
      copies = c.ask.ensures.copies ∙ inv.copies;
      asks = asks_more _ _ _ _ _ _ _ _ c.in-Out.out inv.asks c.in-Out.ensures.next c.push.ensures.items;
      reach = rw c.push.ensures.items (All-push (GoesWithin c.args.task.now.limits.now.shards) c.loop.bids.items c.in-Out.out inv.reach (c.ask.ensures.reach c.in-Out.out c.in-Out.is));
    }
