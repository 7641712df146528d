use Rattle.auc_objects.proofs.Letters.{dealt, stray}
use Rattle.auc_objects.proofs.law.letters_sell_by_their_bids.Goals as goal

pub returns : goal.returns
returns c = record { dealt = dealt; stray = stray }
