-- The bid of a person at copies (stale prices).
use Rattle.std.specs.Prelude.{◌≡◌, ◌+◌, ℕ, ℤ, pos, List, length}
use Rattle.auc_graph.specs.declared.rows.RowArc.{RowArc}
use Rattle.auc_graph.specs.Bid.{IsBid}
use Rattle.auc_graph.specs.Table.{Table, row_of}
use Rattle.auc_letters.specs.declared.letter.Bid.{Bid}
use Rattle.auc_letters.specs.Award.{bid_of}
use Rattle.auc_persons.specs.declared.bidder.person_row.PersonRow.{PersonRow}
use Rattle.auc_persons.specs.Scan.{copy_in}

-- the bid of the person on the best arc at these copies; its amount may be above the greatest price
abbrev pub IsBidOf : Table → ℤ → List ℤ → ℕ → Bid → Type 0
IsBidOf t eps copies person bid =
    (arc : RowArc) × IsBid (pos (length t.rows + 1)) t.spread eps (copy_in copies) (row_of t person) arc bid.amount
    × (bid ≡ bid_of person arc.arc arc.object bid.amount)

-- the same, where person, rows and copies are kept together
abbrev pub IsBidAt : PersonRow → ℤ → Bid → Type 0
IsBidAt own eps = IsBidOf own.rows.now eps own.copies.now own.person
