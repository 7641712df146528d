use Rattle.auc_call.proofs.HandLaws.{bracket_there}
use Rattle.auc_call.proofs.handing.hand_bracket.Goals as goal

pub set_places-requires-clause-there : goal.set_places-requires-clause-there
set_places-requires-clause-there c = bracket_there c.args.problem.now c.args.cert.now c.parts.result.now c.in-Bracket.reason c.in-Bracket.lower c.in-Bracket.cost c.in-Bracket.picks c.as_slice.result.now c.in-Bracket.shown c.arcs.result.now c.requires.cert.certified c.parts.ensures.is c.in-Bracket.is c.as_slice.ensures c.arcs.ensures.arcs
