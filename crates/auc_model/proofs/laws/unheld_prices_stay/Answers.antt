use Rattle.auc_model.proofs.Unheld.{unheld_schedule}
use Rattle.auc_model.proofs.laws.unheld_prices_stay.Goals as goal

pub returns : goal.returns
returns c g w v ts run j none = unheld_schedule g w ts v run j none
