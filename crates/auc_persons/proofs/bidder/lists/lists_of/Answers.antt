use Rattle.std.proofs.lemmas.List.Elements.{All-push}
use Rattle.auc_persons.specs.Candidates.{KeepsListed, no_list}
use Rattle.auc_persons.proofs.Shortlists.{keeps_new}
use Rattle.auc_persons.proofs.bidder.lists.lists_of.Goals as goal
use Rattle.auc_persons.proofs.bidder.lists.lists_of.Goals.{then-has_list+in_ok-push, else-has_list}

pub loop-person-preserved : goal.loop-person-preserved
loop-person-preserved c = λ copies.
    elim c.if-has_list.branch [
      | then-has_list+in_ok-push w ↦ (
          let new = w.new.ensures in
          rw (w.lists-is, w.in_ok-push.ensures.items, new) (All-push (KeepsListed c.args.rows.now copies) c.loop-person.lists.items (no_list c.loop-person.person) (c.loop-person.invariant copies) (keeps_new c.args.rows.now copies c.loop-person.person))
          )
      | else-has_list w ↦ rw w.lists-is (c.loop-person.invariant copies)
    ]
