use Rattle.auc_persons.proofs.BlockNumbers.{numbered_still}
use Rattle.auc_persons.proofs.Shortlists.{keeps_at}
use Rattle.auc_persons.proofs.bidder.lists_by_blocks.scan_and_list.Goals as goal

pub listed-known-requires : goal.listed-known-requires
listed-known-requires c = record {
  keeps = rw c.of.ensures.copies (keeps_at c.args.own.rows.now c.args.own.copies.now c.args.list.now c.args.own.person c.of.result.scale c.of.result.arcs.now c.requires.keeps c.requires.owner c.of.ensures.scale c.of.ensures.arcs);
}

pub scan_blocks-requires-clause-known : goal.scan_blocks-requires-clause-known
scan_blocks-requires-clause-known c = rw (c.of.ensures.scale, c.of.ensures.copies, c.of.ensures.arcs) at c.listed-known.ensures.some

pub list_anew-requires-clause-numbered : goal.list_anew-requires-clause-numbered
list_anew-requires-clause-numbered c = numbered_still c.args.bounds.now c.scan_blocks.new.bounds c.args.blocked c.scan_blocks.ensures.same c.requires.numbered
