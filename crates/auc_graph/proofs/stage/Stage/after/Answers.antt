use Rattle.auc_graph.proofs.stage.Stage.after.Goals as goal

pub returns-in-AtCount-clause-exact : goal.returns-in-AtCount-clause-exact
returns-in-AtCount-clause-exact c = rw c.in-AtCount.is (c.after_count.ensures.exact c.args.limit c.args.arcs.now.items)
