use Rattle.auc_letters.proofs.Award.{all_rises, all_unheld}
use Rattle.auc_letters.proofs.law.awards_raise_prices.Goals as goal

pub returns-clause-rises : goal.returns-clause-rises
returns-clause-rises c = all_rises

pub returns-clause-unheld : goal.returns-clause-unheld
returns-clause-unheld c = all_unheld
