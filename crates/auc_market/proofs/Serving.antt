-- The persons that have begun, the next bidder, and the one that waits.
use Rattle.std.proofs.Common.{ℕ, ◌+◌, ◌<◌, ◌≤◌, ◌≡◌, ◌≢◌, refl, arith, List, length, inl, inr, ap, sym, subst}
use Rattle.std.proofs.lemmas.Bool.{cases_eq, cases_lt}
use Rattle.std.proofs.lemmas.List.{get_or_past}
use Rattle.auc_graph.specs.declared.limits.TheConstants.{MOST_PERSONS}
use Rattle.auc_rows.specs.declared.arc.ShortArc.{ShortArc}
use Rattle.auc_market.specs.declared.ending.Chain.{Chain}
use Rattle.auc_letters.specs.declared.limits.TheConstants.{NOBODY}
use Rattle.auc_market.specs.Market.{HaveAllBut, HaveObjects, no_own, own_at}
use Rattle.auc_market.specs.Position.{AreSold, IsChain, Position}

-- NOBODY has no object
pub nobody_has : (owns : List ShortArc) → length owns ≤ MOST_PERSONS → (own_at owns NOBODY).object ≡ NOBODY
nobody_has owns few = ap (λ (s : ShortArc). s.object) (get_or_past owns NOBODY no_own (omega (arith, few)))

-- two free persons
pub two_free : (owns : List ShortArc) (person other : ℕ) → (own_at owns person).object ≡ NOBODY → (own_at owns other).object ≡ NOBODY → person ≢ other → HaveAllBut 0 owns person other
two_free owns person other none waits apart = record { none = none; waits = waits; apart = λ _. apart; others = λ i l. absurd (omega (arith, l)) }

-- no person is free
pub all_have : (n : ℕ) (owns : List ShortArc) (person other : ℕ) → person ≡ NOBODY → other ≡ NOBODY → n ≤ MOST_PERSONS → HaveAllBut n owns person other → HaveObjects n owns
all_have n owns person other e f few h i l = h.others i l (λ z. omega (arith, l, e, z, few)) (λ z. omega (arith, l, f, z, few))

-- the waiting person, as the bidder
pub alone : (n : ℕ) (owns : List ShortArc) (waits : ℕ) → n ≤ MOST_PERSONS → length owns ≤ MOST_PERSONS → HaveAllBut n owns NOBODY waits → HaveAllBut n owns waits NOBODY
alone n owns waits few many h = record { none = h.waits; waits = nobody_has owns many; apart = λ some. some; others = λ i l nw _. h.others i l (λ z. omega (arith, l, z, few)) nw }

-- the persons passed over have objects, or are one of the two
pub passed_have : (from to : ℕ) (owns : List ShortArc) (person other : ℕ) → ((i : ℕ) → from ≤ i → i < to → i ≢ person → i ≢ other → (own_at owns i).object ≢ NOBODY) → HaveAllBut from owns person other → HaveAllBut to owns person other
passed_have from to owns person other passed h = record {
  none = h.none;
  waits = h.waits;
  apart = h.apart;
  others = λ i l np nw. elim (cases_lt i from) [ inl lt ↦ h.others i lt np nw | inr ge ↦ passed i ge l np nw ];
}

-- the first free person waits
pub first_waits : (first : ℕ) (owns : List ShortArc) → length owns ≤ MOST_PERSONS → (own_at owns first).object ≡ NOBODY → ((i : ℕ) → 0 ≤ i → i < first → i ≢ NOBODY → i ≢ NOBODY → (own_at owns i).object ≢ NOBODY) → first < MOST_PERSONS → HaveAllBut (first + 1) owns NOBODY first
first_waits first owns many none passed few = record {
  none = nobody_has owns many;
  waits = none;
  apart = λ some. absurd (some refl);
  others = λ i l nn nf. passed i (omega arith) (omega (arith, l, nf)) nn nn;
}

-- the next person begins, and bids in turn with the waiting one
pub begins : (n : ℕ) (owns : List ShortArc) (waits : ℕ) → n < MOST_PERSONS → n ≢ waits → (own_at owns n).object ≡ NOBODY → HaveAllBut n owns NOBODY waits → HaveAllBut (n + 1) owns waits n
begins n owns waits few ne none h = record {
  none = h.waits;
  waits = none;
  apart = λ _ e. ne (sym e);
  others = λ i l nw nn. h.others i (omega (arith, l, nn)) (λ e. omega (arith, l, e, few)) nw;
}

-- the last person bids alone
pub sold_of : (waits left : ℕ) (ended : Chain) (old new : Position) → new.table ≡ old.table → length old.table.rows ≤ MOST_PERSONS → length old.owns ≤ MOST_PERSONS → HaveAllBut (length old.table.rows) old.owns NOBODY waits → IsChain waits left ended old new → AreSold left ended new
sold_of waits left Chain.Placed old new same few many h chain = rw same (chain (length old.table.rows) (rw same (omega arith)) (alone (length old.table.rows) old.owns waits few many h))
sold_of waits left Chain.Bids old new same few many h chain = chain
sold_of waits left Chain.Ceiling old new same few many h chain = chain

-- ---- turns

-- the next bidder after a bid: the displaced person, or the one that begins where no person is free
pub record IsTurn (freed fresh next from : ℕ) : Type 0 where
  pub freed_is : freed ≢ NOBODY → (next ≡ freed) × (from ≡ fresh)
  pub fresh_is : freed ≡ NOBODY → (next ≡ fresh) × (from ≡ fresh + 1)

pub turn_most : (freed fresh next from until : ℕ) → IsTurn freed fresh next from → fresh ≤ until → (freed ≡ NOBODY → fresh ≢ until) → from ≤ until
turn_most freed fresh next from until t le more =
    elim (cases_eq freed NOBODY) [
      | inl e ↦ (let x = (t.fresh_is e).1 in let ne = more e in omega (arith, x, le, ne))
      | inr ne ↦ (let x = (t.freed_is ne).1 in omega (arith, x, le))
    ]

pub turn_below : (freed fresh next from until n : ℕ) → IsTurn freed fresh next from → fresh ≤ until → until ≤ n → (freed ≡ NOBODY → fresh ≢ until) → (freed ≢ NOBODY → freed < n) → next < n
turn_below freed fresh next from until n t le few more below =
    elim (cases_eq freed NOBODY) [
      | inl e ↦ (let x = (t.fresh_is e).0 in let ne = more e in omega (arith, x, le, few, ne))
      | inr ne ↦ (let x = (t.freed_is ne).0 in let l = below ne in omega (arith, x, l))
    ]

pub turn_have : (owns : List ShortArc) (freed other fresh next from until : ℕ) → IsTurn freed fresh next from → until ≤ MOST_PERSONS → fresh ≤ until → (freed ≡ NOBODY → fresh ≢ until) → (fresh < until → (own_at owns fresh).object ≡ NOBODY) → (fresh < until → fresh ≢ other) → HaveAllBut fresh owns freed other → HaveAllBut from owns other next
turn_have owns freed other fresh next from until t few le more none ne h =
    elim (cases_eq freed NOBODY) [
      | inl e ↦ (
          let x = t.fresh_is e in
          let m = more e in
          let lt : fresh < until = omega (arith, le, m) in
          subst (λ (k : ℕ). HaveAllBut k owns other next) (sym x.1) (subst (HaveAllBut (fresh + 1) owns other) (sym x.0) (begins fresh owns other (omega (arith, lt, few)) (ne lt) (none lt) (subst (λ (k : ℕ). HaveAllBut fresh owns k other) e h))))
      | inr some ↦ (
          let x = t.freed_is some in
          subst (λ (k : ℕ). HaveAllBut k owns other next) (sym x.1) (subst (HaveAllBut fresh owns other) (sym x.0) (swapped some)))
    ]
  where
    swapped : freed ≢ NOBODY → HaveAllBut fresh owns other freed
    swapped some = record { none = h.waits; waits = h.none; apart = λ _ e. h.apart some (sym e); others = λ i l no nf. h.others i l nf no }
