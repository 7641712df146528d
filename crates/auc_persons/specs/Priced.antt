-- The values of the arcs of a row at the prices of a pass over it.
use Rattle.std.specs.Prelude.{ℕ, ℤ, ◌+◌, pos, List, length, slice_index_or}
use Rattle.auc_graph.specs.declared.rows.RowArc.{RowArc}
use Rattle.auc_graph.specs.Bid.{value}
use Rattle.auc_graph.specs.Table.{row_of}
use Rattle.auc_persons.specs.declared.bidder.person_row.PersonRow.{PersonRow}
use Rattle.auc_persons.specs.declared.bidder.priced_row.PricedRow.{PricedRow}
use Rattle.auc_persons.specs.declared.bidder.scan.Scan.{Scan}
use Rattle.auc_persons.specs.Candidates.{Kept, Listed}
use Rattle.auc_persons.specs.Scan.{copy_in, IsScan}

abbrev pub value_in : PricedRow → RowArc → ℤ
value_in row = value row.scale (copy_in row.copies.now)

abbrev pub no_arc : RowArc
no_arc = record { cost = pos 0; object = 0; arc = 0 }

-- the arc at a place
abbrev pub arc_at : List RowArc → ℕ → RowArc
arc_at arcs place = slice_index_or arcs place no_arc

-- the row of the person
abbrev pub arcs_of : PersonRow → List RowArc
arcs_of own = row_of own.rows.now own.person

-- the value of an arc to the person, at the person's copies
abbrev pub value_to : PersonRow → RowArc → ℤ
value_to own = value (pos (length own.rows.now.rows + 1)) (copy_in own.copies.now)

-- the result of a pass over the person's row: its best arc
abbrev pub IsScanOf : PersonRow → Scan → Type 0
IsScanOf own = IsScan (value_to own) (arcs_of own)

-- all lists are correct at the person's copies
abbrev pub KeptAt : PersonRow → List Listed → Type 0
KeptAt own = Kept own.rows.now own.copies.now
