use Rattle.auc_graph.proofs.LowerLaws.{lower_once, lower_passed, lower_passes}
use Rattle.auc_graph.proofs.LowerRange.{lower_low, lower_high, lower_fits}
use Rattle.auc_graph.proofs.laws.bounds_fit.Goals as goal

pub returns : goal.returns
returns c = record {
  one = lower_once;
  tested = lower_passed;
  passes = lower_passes;
  low = λ p prices choice top lower within len above few given is. lower_low p prices choice lower within len above given is top few;
  high = λ p prices choice lower within len above given is. lower_high p prices choice lower within len above given is;
  fits = lower_fits;
}
