use Rattle.std.proofs.Common.{sym, ◌∙◌, arith, ◌≡◌, false}
use Rattle.std.proofs.lemmas.Bool.Decides.{nat_tests}
use Rattle.auc_place.specs.Places.{is_line_feed}
use Rattle.auc_place.proofs.PlaceLaws.{same_line, next_column, few_columns}
use Rattle.auc_place.proofs.cursor.place_behind.Goals as goal

pub returns-else-byte-eq10 : goal.returns-else-byte-eq10
returns-else-byte-eq10 c = λ seen few line column.
    let other : is_line_feed c.args.byte ≡ false = grind (arith, nat_tests) in
    (line ∙ sym (same_line seen c.args.byte other), omega (arith, column, few, few_columns seen, next_column seen c.args.byte other, c.saturating_add-else-byte-eq10.ensures))
