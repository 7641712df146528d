-- A pass over a row whose objects rise.
use Rattle.std.proofs.Common.{◌≡◌, ◌≢◌, ℕ, ◌+◌, ◌<◌, ◌≤◌, inl, inr, List, [], ◌∷◌, ◌++◌, length, take, get_or, arith, refl}
use Rattle.std.specs.Prelude.{ℤ, ◌≤ℤ◌, All}
use Rattle.std.proofs.lemmas.Int.{ints, by_lt_z}
use Rattle.std.proofs.lemmas.List.{take_all, take_more}
use Rattle.std.proofs.lemmas.List.Elements.{All-contains, All-get_or, All-more, All-nil, All-weaker}
use Rattle.std.proofs.lemmas.List.Quantifiers.{all_pairs_push}
use Rattle.auc_graph.specs.declared.rows.RowArc.{RowArc}
use Rattle.auc_persons.specs.declared.bidder.rising.Nearest.{Nearest}
use Rattle.auc_persons.specs.declared.bidder.scan.Scan.{Scan}
use Rattle.auc_persons.specs.Rising.{Drawn, IsRisingRow}
use Rattle.auc_persons.specs.Scan.{endless, IsScan, IsValue, Loses}
use Rattle.auc_persons.specs.Priced.{no_arc}
use Rattle.auc_persons.proofs.Scans.{first, other_loses, other_next, other_wins, row_whole}

-- the result, with the arc itself
abbrev pub scan_at : Nearest → Scan
scan_at l = record { value = l.value; second = l.second; best = l.best.now }

loses : (f : Scan) (a : RowArc) (v : ℤ) → f.best.object < a.object → f.value ≤ℤ v → Loses a v f
loses f a v higher le = by_lt_z f.value v (λ lt. inl lt) (λ ge. inr (omega (arith, ints), omega arith))

-- one arc more, to a higher object
found_more : (val : RowArc → ℤ) (seen : List RowArc) (l r : Nearest) (a : RowArc) (v : ℤ) → IsScan val seen (scan_at l) → l.best.now.object < a.object → v ≡ val a → IsValue v → Drawn l v a r → IsScan val (seen ++ a ∷ []) (scan_at r)
found_more val seen l r a v s higher is ok drawn =
    let other : a.object ≢ l.best.now.object = λ e. omega (arith, e, higher) in
    by_lt_z v l.value
    (λ lt. let w = drawn.wins lt in rw (w.0, w.1.0, w.1.1) (other_wins val seen (scan_at l) a v s is ok other (inl lt)))
    (λ le. by_lt_z v l.second
    (λ lt. let w = drawn.next le lt in rw (w.0, w.1.0, w.1.1) (other_next val seen (scan_at l) a v s is ok other (loses (scan_at l) a v higher le) lt))
    (λ ge. let w = drawn.stays le ge in rw (w.0, w.1.0, w.1.1) (other_loses val seen (scan_at l) a v s is ok other (loses (scan_at l) a v higher le) ge)))

-- what holds after some arcs: they lead to objects up to this one, and all others to higher ones
pub record Nears (val : RowArc → ℤ) (row : List RowArc) (l : Nearest) (i : ℕ) : Type 0 where
  pub last : ℕ
  pub found : IsScan val (take i row) (scan_at l)
  pub rising : All (λ b. b.object ≤ last) (take i row)
  pub ahead : (k : ℕ) → i ≤ k → k < length row → last < (get_or row k no_arc).object

pub nears_first : (val : RowArc → ℤ) (row : List RowArc) (l : Nearest) → IsRisingRow row → 0 < length row → l.value ≡ val (get_or row 0 no_arc) → IsValue l.value → l.second ≡ endless → l.best.now ≡ get_or row 0 no_arc → Nears val row l 1
nears_first val row l pairs lt is ok none best = record {
  last = (get_or row 0 no_arc).object;
  found = rw (take_more row 0 no_arc lt, none, best) (first val (get_or row 0 no_arc) l.value is ok);
  rising = All-more (λ b. b.object ≤ (get_or row 0 no_arc).object) row 0 no_arc lt (All-nil (λ b. b.object ≤ (get_or row 0 no_arc).object)) (omega arith);
  ahead = λ k le within. pairs 0 k no_arc (omega (arith, le)) within;
}

pub nears_more : (val : RowArc → ℤ) (row : List RowArc) (l r : Nearest) (i : ℕ) (v : ℤ) → IsRisingRow row → Nears val row l i → i < length row → v ≡ val (get_or row i no_arc) → IsValue v → Drawn l v (get_or row i no_arc) r → Nears val row r (i + 1)
nears_more val row l r i v pairs h lt is ok drawn =
    let above = h.ahead i (omega arith) lt in
    let at : l.best.now.object ≤ h.last = All-contains (λ b. b.object ≤ h.last) (take i row) l.best.now h.rising h.found.listed in
    let lower = All-weaker (λ b. b.object ≤ h.last) (λ b. b.object ≤ (get_or row i no_arc).object) (λ b le. omega (arith, le, above)) (take i row) h.rising in
    record {
      last = (get_or row i no_arc).object;
      found = rw (take_more row i no_arc lt) (found_more val (take i row) l r (get_or row i no_arc) v h.found (omega (arith, at, above)) is ok drawn);
      rising = All-more (λ b. b.object ≤ (get_or row i no_arc).object) row i no_arc lt lower (omega arith);
      ahead = λ k le within. pairs i k no_arc (omega (arith, le)) within;
    }

pub nears_whole : (val : RowArc → ℤ) (row : List RowArc) (l : Nearest) (i : ℕ) → length row ≤ i → Nears val row l i → IsScan val row (scan_at l)
nears_whole val row l i le h = row_whole val row i (scan_at l) le h.found

-- ---- whether a row rises

-- what holds after some arcs, as long as it does; the last of them leads to this object
pub record Climbs (row : List RowArc) (last i : ℕ) : Type 0 where
  pub pairs : IsRisingRow (take i row)
  pub below : All (λ b. b.object ≤ last) (take i row)
  pub place : ℕ
  pub within : place < i
  pub top : last ≡ (get_or row place no_arc).object

pub climbs_first : (row : List RowArc) → 0 < length row → Climbs row (get_or row 0 no_arc).object 1
climbs_first row lt = record {
  pairs = rw (take_more row 0 no_arc lt) (λ i j d less within. absurd (omega (arith, less, within)));
  below = All-more (λ b. b.object ≤ (get_or row 0 no_arc).object) row 0 no_arc lt (All-nil (λ b. b.object ≤ (get_or row 0 no_arc).object)) (omega arith);
  place = 0;
  within = omega arith;
  top = refl;
}

pub climbs_more : (row : List RowArc) (last i : ℕ) → Climbs row last i → i < length row → last < (get_or row i no_arc).object → Climbs row (get_or row i no_arc).object (i + 1)
climbs_more row last i h lt above =
    let lower = All-weaker (λ b. b.object ≤ last) (λ b. b.object ≤ (get_or row i no_arc).object) (λ b le. omega (arith, le, above)) (take i row) h.below in
    let pairs = all_pairs_push (λ (a b : RowArc). a.object < b.object) (take i row) (get_or row i no_arc) h.pairs
    (λ k d within. let le = All-get_or (λ (b : RowArc). b.object ≤ last) (take i row) k d within h.below in omega (arith, le, above)) in
    record {
      pairs = rw (take_more row i no_arc lt) pairs;
      below = All-more (λ b. b.object ≤ (get_or row i no_arc).object) row i no_arc lt lower (omega arith);
      place = i;
      within = omega arith;
      top = refl;
    }

pub climbs_whole : (row : List RowArc) (last i : ℕ) → length row ≤ i → Climbs row last i → IsRisingRow row
climbs_whole row last i le h = rw (take_all i row le) at h.pairs

-- an arc to an object that is no higher ends it
pub falls : (row : List RowArc) (last i : ℕ) → Climbs row last i → i < length row → (get_or row i no_arc).object ≤ last → IsRisingRow row → ⊥
falls row last i h within le rising =
    let before = rising h.place i no_arc h.within within in
    let same = h.top in
    omega (arith, before, same, le)
