use Rattle.auc_persons.proofs.Shortlists.{kept_rises}
use Rattle.auc_persons.proofs.bidder.lists_stay_right.Goals as goal

pub returns : goal.returns
returns c = λ t copies later lists rise kept. kept_rises t copies later lists rise kept
