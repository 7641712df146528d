use Rattle.auc_cert.specs.Runs.{IsRun}
use Rattle.auc_graph.specs.Price.{IsPrice}
use Rattle.auc_cert.specs.Text.{price_line}
use Rattle.auc_cert.proofs.choice_reading.prices_of.Given as goal

abbrev pub invariant-loop-object : goal.invariant-loop-object
invariant-loop-object l = IsRun price_line IsPrice l.object l.bytes l.prices.items l.rest
