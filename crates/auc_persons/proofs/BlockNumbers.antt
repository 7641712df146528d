-- The blocks to which bounds belong don't change.
use Rattle.std.proofs.Common.{◌≡◌, ℕ, ◌+◌, ◌-◌, ◌*◌, ◌<◌, ◌≤◌, ◌⊎◌, inl, inr, List, [], ◌∷◌, ◌++◌, length, get_or, refl, ◌∙◌, w64, arith, subst}
use Rattle.std.specs.Prelude.{FitsSigned, ℤ, ◌<ℤ◌, All, set}
use Rattle.std.proofs.lemmas.Bool.{cases_eq, cases_lt}
use Rattle.std.proofs.lemmas.Int.{ints}
use Rattle.std.proofs.lemmas.List.{get_or_append_left, get_or_default, get_or_push, get_or-set_other, get_or-set_same, length-append, length-set}
use Rattle.std.proofs.lemmas.List.Elements.{All-weaker}
use Rattle.auc_persons.specs.declared.bidder.bound.TheConstants.{NO_BOUND}
use Rattle.auc_persons.specs.declared.bidder.bound.Bound.{Bound}
use Rattle.auc_persons.specs.declared.bidder.bound.Blocked.{Blocked}
use Rattle.auc_persons.specs.Blocks.{AreAppended, AreNumbered, AreOfSame, IsOf, IsUnknown}

-- only the value of the bound has changed
pub same_set : (before bounds : List Bound) (at : ℕ) (d : Bound) (least : ℤ) → at < length bounds → AreOfSame before bounds → AreOfSame before (set bounds at (record (get_or bounds at d) { least = least }))
same_set before bounds at d least lt same = record {
  many = length-set bounds at new ∙ same.many;
  each = λ j person block e is. by j person block e (same.each j person block e is) (cases_eq j at);
}
  where
    new : Bound
    new = record (get_or bounds at d) { least = least }

    by : (j person block : ℕ) (e : Bound) → IsOf person block (get_or bounds j e) → (j ≡ at) ⊎ (j ≡ at → ⊥) → IsOf person block (get_or (set bounds at new) j e)
    by j person block e is (inr other) = rw (get_or-set_other bounds at j new e other) is
    by j person block e is (inl here) =
        let old : IsOf person block (get_or bounds at d) = subst (IsOf person block) (get_or_default bounds at e d lt) (subst (λ n. IsOf person block (get_or bounds n e)) here is) in
        rw (here, get_or-set_same bounds at new e lt) old

pub numbered_still : (before after : List Bound) (b : Blocked) → AreOfSame before after → AreNumbered before b → AreNumbered after b
numbered_still before after b same numbered k d long lt =
    let n = numbered k d long lt in
    (omega (arith, same.many, n.0), same.each (b.start + k) b.person k d n.1)

pub all_numbered_still : (before after : List Bound) (persons : List Blocked) → AreOfSame before after → All (AreNumbered before) persons → All (AreNumbered after) persons
all_numbered_still before after persons same numbered = All-weaker (AreNumbered before) (AreNumbered after) (λ b n. numbered_still before after b same n) persons numbered

-- bounds of other blocks are appended
numbered_before : (before after : List Bound) (person blocks : ℕ) (b : Blocked) → AreAppended person blocks before after → AreNumbered before b → AreNumbered after b
numbered_before before after person blocks b more numbered k d long lt =
    let n = numbered k d long lt in
    (omega (arith, more.many, n.0), rw (more.kept (b.start + k) d n.0) n.1)

pub all_numbered_before : (before after : List Bound) (person blocks : ℕ) (persons : List Blocked) → AreAppended person blocks before after → All (AreNumbered before) persons → All (AreNumbered after) persons
all_numbered_before before after person blocks persons more numbered = All-weaker (AreNumbered before) (AreNumbered after) (λ b n. numbered_before before after person blocks b more n) persons numbered

-- bounds of the person's own
pub numbered_new : (before after : List Bound) (person blocks : ℕ) (b : Blocked) → AreAppended person blocks before after → b.person ≡ person → b.start ≡ length before → ((k : ℕ) → 256 < b.arcs → 16 * k < b.arcs → k < blocks) → AreNumbered after b
numbered_new before after person blocks b more own start enough k d long lt =
    let n = more.new k d (enough k long lt) in
    (omega (arith, more.many, start, enough k long lt), rw (own, start) n.0)

-- a number above one that a machine has is above the one that no bound is
pub above_none : (limit least : ℤ) → FitsSigned w64 limit → limit <ℤ least → NO_BOUND <ℤ least
above_none limit least fits above = omega (arith, ints, fits, above)

pub same_then : (before between after : List Bound) → AreOfSame before between → AreOfSame between after → AreOfSame before after
same_then before between after one other = record {
  many = other.many ∙ one.many;
  each = λ j person block d is. other.each j person block d (one.each j person block d is);
}

-- ---- one bound after the other

pub appended_none : (person : ℕ) (before : List Bound) → AreAppended person 0 before before
appended_none person before = record {
  many = omega arith;
  kept = λ j d lt. refl;
  new = λ k d lt. absurd (omega (arith, lt));
}

pub appended_push : (person blocks : ℕ) (before bounds : List Bound) (b : Bound) → AreAppended person blocks before bounds → IsOf person blocks b → IsUnknown b → AreAppended person (blocks + 1) before (bounds ++ b ∷ [])
appended_push person blocks before bounds b more own unknown = record {
  many = length-append bounds (b ∷ []) ∙ omega (arith, more.many);
  kept = λ j d lt. get_or_append_left bounds (b ∷ []) d j (omega (arith, more.many, lt)) ∙ more.kept j d lt;
  new = λ k d lt. by k d (cases_lt k blocks) lt;
}
  where
    by : (k : ℕ) (d : Bound) → (k < blocks) ⊎ (blocks ≤ k) → k < blocks + 1 → IsOf person k (get_or (bounds ++ b ∷ []) (length before + k) d) × IsUnknown (get_or (bounds ++ b ∷ []) (length before + k) d)
    by k d (inl below) lt = rw (get_or_append_left bounds (b ∷ []) d (length before + k) (omega (arith, more.many, below))) (more.new k d below)
    by k d (inr le) lt =
        let last : k ≡ blocks = omega (arith, le, lt) in
        rw (get_or_push bounds b d (length before + k) (omega (arith, more.many, last)), last) (own, unknown)

-- bounds that are all unknown
pub unknown_before : (before after : List Bound) (person blocks : ℕ) → AreAppended person blocks before after → All IsUnknown before → All IsUnknown after
unknown_before before after person blocks more unknown k d lt = by (cases_lt k (length before))
  where
    by : (k < length before) ⊎ (length before ≤ k) → IsUnknown (get_or after k d)
    by (inl below) = rw (more.kept k d below) (unknown k d below)
    by (inr le) =
        let here : length before + (k - length before) ≡ k = omega (arith, le) in
        let is = more.new (k - length before) d (omega (arith, more.many, lt, le)) in
        rw here at is.1
