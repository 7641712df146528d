use Rattle.std.proofs.Common.{◌++◌}
use Rattle.std.proofs.lemmas.List.Elements.{All-same}
use Rattle.auc_persons.specs.Candidates.{KeepsListed}
use Rattle.auc_persons.proofs.KeptBlocks.{behind}
use Rattle.auc_persons.proofs.bidder.Bidder.best.Goals as goal

pub best-found-requires : goal.best-found-requires
best-found-requires c =
    let P = KeepsListed c.args.own.rows.now c.args.own.copies.now in
    let kept = All-same P (c.self.inside.lists.items ++ (c.self.inside.blocks ++ c.self.inside.methods)) c.args.self.now c.self.view_is c.requires.kept in
    record { kept = behind P c.self.inside.blocks c.self.inside.methods (behind P c.self.inside.lists.items (c.self.inside.blocks ++ c.self.inside.methods) kept) }
