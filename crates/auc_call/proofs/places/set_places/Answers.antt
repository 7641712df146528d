use Rattle.std.proofs.Common.{◌∙◌, sym}
use Rattle.auc_call.proofs.PlaceLaws.{as_many}
use Rattle.auc_call.proofs.places.set_places.Goals as goal

pub copy_from_slice-requires : goal.copy_from_slice-requires
copy_from_slice-requires c = c.requires.size ∙ sym (as_many c.args.arcs.now c.args.picks.now c.in-Some.places.now (c.are_places.ensures c.if-are_places.true))
