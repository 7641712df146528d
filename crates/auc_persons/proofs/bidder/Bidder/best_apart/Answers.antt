use Rattle.std.proofs.lemmas.List.Elements.{All-same}
use Rattle.auc_persons.specs.Candidates.{KeepsListed}
use Rattle.auc_persons.proofs.bidder.Bidder.best_apart.Goals as goal
use Rattle.auc_persons.proofs.bidder.Bidder.best_apart.Goals.{in-Some+else-is_some, in_default}

pub returns-clause-kept : goal.returns-clause-kept
returns-clause-kept c =
    let P = KeepsListed c.args.own.rows.now c.args.own.copies.now in
    elim c.match-place.branch [
      | in-Some+else-is_some w ↦ All-same P c.match-place.self w.best_long-found.new.self w.self-is w.best_long-found.ensures.kept
      | in_default w ↦ All-same P c.match-place.self c.args.self.now w.self-is c.requires.kept
    ]
