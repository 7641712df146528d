use Rattle.auc_call.proofs.HandLaws.{least_there}
use Rattle.auc_call.proofs.handing.hand_optimal.Goals as goal

pub set_places-requires-clause-there : goal.set_places-requires-clause-there
set_places-requires-clause-there c = least_there c.args.problem.now c.args.cert.now c.parts.result.now c.in-Optimal.cost c.in-Optimal.picks c.as_slice.result.now c.in-Optimal.shown c.arcs.result.now c.requires.cert.certified c.parts.ensures.is c.in-Optimal.is c.as_slice.ensures c.arcs.ensures.arcs
