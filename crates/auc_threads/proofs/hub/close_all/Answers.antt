use Rattle.std.proofs.Common.{arith, refl, subst}
use Rattle.auc_letters.specs.declared.letter.Letter.{Letter}
use Rattle.auc_book.specs.Seat.{Account}
use Rattle.auc_threads.specs.Counting.{Closes}
use Rattle.auc_threads.proofs.CountingLaws.{closes_more, closes_none}
use Rattle.auc_threads.proofs.hub.close_all.Goals as goal

pub loop-at-init : goal.loop-at-init
loop-at-init g c = record { objects = closes_none _ _; persons = closes_none _ _; hub = refl }

pub loop-at-preserved : goal.loop-at-preserved
loop-at-preserved g c =
    let inv = c.loop-at.invariant in
    record {
      objects = closes_more _ _ _ _ _ _ c.close.result inv.objects c.close.ensures (omega arith);
      persons = closes_more _ _ _ _ _ _ c.close-in-loop-at.result inv.persons c.close-in-loop-at.ensures (omega arith);
      hub = inv.hub;
    }

pub returns-clause-hub : goal.returns-clause-hub
returns-clause-hub g c =
    subst (λ (x : Account Letter). Closes g.H.MailBrand.room 1 x c.close-2.new.seat) c.loop-at.invariant.hub (closes_more _ 0 1 _ _ _ c.close-2.result (closes_none _ _) c.close-2.ensures (omega arith))
