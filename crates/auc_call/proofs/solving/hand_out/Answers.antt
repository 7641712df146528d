use Rattle.auc_call.proofs.solving.hand_out.Goals as goal

pub returns-in-Optimal-clause-solved : goal.returns-in-Optimal-clause-solved
returns-in-Optimal-clause-solved c = c.hand_optimal.ensures.solved c.args.set.now

pub returns-in-Bracket-clause-solved : goal.returns-in-Bracket-clause-solved
returns-in-Bracket-clause-solved c = c.hand_bracket.ensures.solved c.args.set.now
