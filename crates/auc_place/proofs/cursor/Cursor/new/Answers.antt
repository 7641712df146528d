use Rattle.std.proofs.Common.{refl}
use Rattle.auc_place.proofs.TokenLaws.{none_yet, apart_first}
use Rattle.auc_place.proofs.cursor.Cursor.new.Goals as goal

pub returns : goal.returns
returns c = record { has = record { many = none_yet; ends = apart_first }; line = refl; column = refl }
