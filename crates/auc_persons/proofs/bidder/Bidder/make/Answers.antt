use Rattle.std.proofs.lemmas.List.Elements.{All-append}
use Rattle.auc_persons.specs.Candidates.{KeepsListed}
use Rattle.auc_persons.proofs.bidder.Bidder.make.Goals as goal

pub returns : goal.returns
returns c = record {
  kept = λ copies. (
      let P = KeepsListed c.args.rows.now copies in
      All-append P c.in_ok-lists.lists.items _ (c.in_ok-lists.ensures.kept copies) (All-append P c.in_ok-blocks.blocks c.in_ok-methods.methods (c.in_ok-blocks.ensures.kept copies) (c.in_ok-methods.ensures.kept copies)));
}
