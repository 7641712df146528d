-- The part of a row that a pass looks at.
use Rattle.std.proofs.Common.{◌≡◌, ◌+◌, ◌*◌, ◌<◌, ◌≤◌, ◌⊎◌, inl, inr, ℕ, List, get_or, length, refl, arith, pos}
use Rattle.std.specs.Prelude.{ℤ, ◌≤ℤ◌, ◌<ℤ◌, All}
use Rattle.std.specs.List.{AllWithin}
use Rattle.std.proofs.lemmas.Int.{ints}
use Rattle.std.proofs.lemmas.Bool.{cases_lt}
use Rattle.std.proofs.lemmas.List.{get_or_default}
use Rattle.std.proofs.lemmas.List.Elements.{All-get_or}
use Rattle.auc_graph.specs.declared.limits.TheConstants.{MOST_SCALE}
use Rattle.auc_graph.specs.declared.rows.RowArc.{RowArc}
use Rattle.auc_graph.specs.Bid.{value}
use Rattle.auc_graph.specs.Table.{IsRow, IsRowArc}
use Rattle.auc_graph.specs.Price.{IsPrice}
use Rattle.auc_persons.specs.declared.bidder.scan.Scan.{Scan}
use Rattle.auc_persons.specs.Blocks.{Above}
use Rattle.auc_persons.specs.Scan.{IsValue, copy_in}
use Rattle.auc_persons.specs.Search.{Covers, IsFound, IsLimit}
use Rattle.auc_persons.specs.Priced.{no_arc}
use Rattle.auc_persons.proofs.Found.{above_limit}
use Rattle.auc_graph.proofs.ValueBounds.{product_below, value_high, value_low}

-- ---- arc by arc

pub covered_none : (val : RowArc → ℤ) (f : Scan) (row : List RowArc) (i : ℕ) → AllWithin (Covers val f) row i i
covered_none val f row i k d le lt = absurd (omega arith)

pub covered_weaker : (val : RowArc → ℤ) (f g : Scan) (row : List RowArc) (from to : ℕ) → ((b : RowArc) → Covers val f b → Covers val g b) → AllWithin (Covers val f) row from to → AllWithin (Covers val g) row from to
covered_weaker val f g row from to h all k d le lt = h (get_or row k d) (all k d le lt)

more_by : (P : RowArc → Type 0) (row : List RowArc) (from i k : ℕ) (d : RowArc) → i < length row → AllWithin P row from i → P (get_or row i no_arc) → from ≤ k → k < i + 1 → (k < i) ⊎ (i ≤ k) → P (get_or row k d)
more_by P row from i k d lt all here le below (inl before) = all k d le before
more_by P row from i k d lt all here le below (inr at) =
    let same : k ≡ i = omega arith in
    rw (same, get_or_default row i d no_arc lt) here

pub covered_more : (P : RowArc → Type 0) (row : List RowArc) (from i : ℕ) → i < length row → AllWithin P row from i → P (get_or row i no_arc) → AllWithin P row from (i + 1)
covered_more P row from i lt all here k d le below = more_by P row from i k d lt all here le below (cases_lt k i)

pub above_none : (val : RowArc → ℤ) (row : List RowArc) (i : ℕ) (least : ℤ) → Above val row i i least
above_none val row i least k d le lt _ = absurd (omega arith)

above_by : (val : RowArc → ℤ) (row : List RowArc) (from i k : ℕ) (d : RowArc) (least next : ℤ) → i < length row → Above val row from i least → next ≤ℤ least → next ≤ℤ val (get_or row i no_arc) → from ≤ k → k < i + 1 → (k < i) ⊎ (i ≤ k) → next ≤ℤ val (get_or row k d)
above_by val row from i k d least next lt all low here le below (inl before) = let a = all k d le before (omega arith) in omega (arith, ints, a, low)
above_by val row from i k d least next lt all low here le below (inr at) =
    let same : k ≡ i = omega arith in
    rw (same, get_or_default row i d no_arc lt) here

-- one place more, and a bound that is no higher than before and than the arc there
pub above_more : (val : RowArc → ℤ) (row : List RowArc) (from i : ℕ) (least next : ℤ) → i < length row → Above val row from i least → next ≤ℤ least → next ≤ℤ val (get_or row i no_arc) → Above val row from (i + 1) next
above_more val row from i least next lt all low here k d le below _ = above_by val row from i k d least next lt all low here le below (cases_lt k i)

-- ---- the values of a row

pub value_range : (scale : ℤ) (copies : List ℤ) (a : RowArc) → pos 1 ≤ℤ scale → scale ≤ℤ MOST_SCALE → IsRowArc (length copies) a → All IsPrice copies → IsValue (value scale (copy_in copies) a)
value_range scale copies a low high is prices =
    let below = product_below scale a.cost low high is.low is.high in
    let price = All-get_or IsPrice copies a.object (pos 0) is.object prices in
    record { low = value_low scale a.cost (copy_in copies a.object) below price; high = value_high scale a.cost (copy_in copies a.object) below price }

-- ---- a block

-- all arcs before a block, and those from it to another
pub covered_blocks : (val : RowArc → ℤ) (row : List RowArc) (f : Scan) (from to k : ℕ) (d : RowArc) → (k < 16 * from → Covers val f (get_or row k d)) → (16 * from ≤ k → k < 16 * to → Covers val f (get_or row k d)) → k < 16 * to → Covers val f (get_or row k d)
covered_blocks val row f from to k d before inside lt = by (cases_lt k (16 * from))
  where
    by : (k < 16 * from) ⊎ (16 * from ≤ k) → Covers val f (get_or row k d)
    by (inl below) = before below
    by (inr le) = inside le lt

-- arcs above a limit are covered
pub covered_above : (scale : ℤ) (copies : List ℤ) (row : List RowArc) (f : Scan) (limit : ℤ) (k : ℕ) (d : RowArc) → pos 1 ≤ℤ scale → scale ≤ℤ MOST_SCALE → IsRow (length copies) row → All IsPrice copies → IsFound (value scale (copy_in copies)) row f → IsLimit f limit → limit <ℤ value scale (copy_in copies) (get_or row k d) → k < length row → Covers (value scale (copy_in copies)) f (get_or row k d)
covered_above scale copies row f limit k d low high is prices found far lt within =
    let range = value_range scale copies (get_or row k d) low high (is.within k d within) prices in
    above_limit (value scale (copy_in copies)) row f (get_or row k d) (value scale (copy_in copies) (get_or row k d)) limit found refl range far lt
