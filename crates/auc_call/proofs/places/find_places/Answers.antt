use Rattle.std.proofs.Common.{arith}
use Rattle.auc_call.proofs.PlaceLaws.{all_placed}
use Rattle.auc_call.proofs.places.find_places.Goals as goal

pub returns : goal.returns
returns c = all_placed c.args.arcs.now c.args.picks.now c.loop-place.choice c.loop-place.place (omega arith) (omega (arith, c.requires.size)) c.requires.there c.loop-place.invariant
