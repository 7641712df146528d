-- The incumbent may be held again at any prices in range, if there are as many objects as persons.
use Rattle.std.proofs.Common.{ℕ, ℤ, ◌≡◌, ◌≢◌, ◌<◌, ◌+◌, ◌∙◌, arith, List, length, set, ap, inl, inr, refl, subst, sym}
use Rattle.std.specs.Prelude.{All, ◌⊎◌}
use Rattle.std.proofs.lemmas.Bool.{cases_eq, cases_lt}
use Rattle.std.proofs.lemmas.List.{get_or-set_same, get_or-set_other, get_or_past}
use Rattle.std.proofs.lemmas.List.Elements.{All-contains}
use Rattle.auc_graph.specs.Price.{IsPrice}
use Rattle.auc_letters.specs.declared.limits.TheConstants.{NOBODY}
use Rattle.auc_rows.specs.declared.arc.ShortArc.{ShortArc}
use Rattle.auc_rows.specs.Rows.{FlatTable, IsFlatTable, IsShort, flat_row_of}
use Rattle.auc_market.specs.declared.holdings.Holdings.{Holdings}
use Rattle.auc_market.specs.declared.incumbent.Incumbent.{Incumbent}
use Rattle.auc_claim.specs.declared.reason.Reason.{Reason}
use Rattle.auc_market.specs.declared.ending.Ending.{Ending}
use Rattle.auc_market.specs.Position.{AreHandedOn, Law, Position}
use Rattle.auc_market.specs.Incumbent.{AreApart, AreSeats, AreSetAside, AreTaken, IsIncumbent}
use Rattle.auc_market.specs.Market.{Stands, holder_at, no_own, own_at}
use Rattle.auc_market.specs.Starts.{any_eps}
use Rattle.auc_market.proofs.StartLaws.{any_slack}

-- ---- persons take up their objects

-- before anybody has
pub taken_none : (holders : List ℕ) (owns : List ShortArc) → ((j : ℕ) → holder_at holders j ≡ NOBODY) → AreTaken 0 holders owns
taken_none holders owns blank = record { held = λ j some. absurd (some (blank j)); holds = λ i lt some. absurd (omega (arith, lt)) }

module _ (holders : List ℕ) (owns : List ShortArc) (k : ℕ) (apart : AreApart (length holders) owns) (taken : AreTaken k holders owns) where
  -- the next person has no object
  pub taken_same : (own_at owns k).object ≡ NOBODY → AreTaken (k + 1) holders owns
  taken_same none = record { held = taken.held; holds = holds }
    where
      holds : (i : ℕ) → i < k + 1 → (own_at owns i).object ≢ NOBODY → holder_at holders (own_at owns i).object ≡ i
      holds i lt some =
          elim (cases_eq i k) [
            | inl same ↦ absurd (some (ap (λ (m : ℕ). (own_at owns m).object) same ∙ none))
            | inr ne ↦ taken.holds i (omega (arith, lt, ne)) some
          ]

  -- the next person becomes the holder
  pub taken_next : (own_at owns k).object ≢ NOBODY → AreTaken (k + 1) (set holders (own_at owns k).object k) owns
  taken_next own = record { held = held; holds = holds }
    where
      object : ℕ
      object = (own_at owns k).object

      new : List ℕ
      new = set holders object k

      here : holder_at new object ≡ k
      here = get_or-set_same holders object k NOBODY (apart.below k own)

      held : (j : ℕ) → holder_at new j ≢ NOBODY → (own_at owns (holder_at new j)).object ≡ j
      held j some =
          elim (cases_eq j object) [
            | inl same ↦ ap (λ (m : ℕ). (own_at owns m).object) (ap (holder_at new) same ∙ here) ∙ sym same
            | inr ne ↦ (
                let other : holder_at new j ≡ holder_at holders j = get_or-set_other holders object j k NOBODY ne in
                ap (λ (m : ℕ). (own_at owns m).object) other ∙ taken.held j (λ none. some (other ∙ none))
                )
          ]

      holds : (i : ℕ) → i < k + 1 → (own_at owns i).object ≢ NOBODY → holder_at new (own_at owns i).object ≡ i
      holds i lt some =
          elim (cases_eq (own_at owns i).object object) [
            | inl same ↦ ap (holder_at new) same ∙ here ∙ sym (apart.apart k i own same)
            | inr ne ↦ (
                let before : i ≢ k = λ is. ne (ap (λ (m : ℕ). (own_at owns m).object) is) in
                get_or-set_other holders object (own_at owns i).object k NOBODY ne ∙ taken.holds i (omega (arith, lt, before)) some
                )
          ]

-- ---- what is held becomes the incumbent, and is held again

pub seats_of : (r : FlatTable) (eps : ℤ) (prices : List ℤ) (holders : List ℕ) (owns : List ShortArc) → IsFlatTable r → Stands r eps prices holders owns → AreSeats r owns
seats_of r eps prices holders owns sound stands = record {
  apart = record {
    below = λ i some. (All-contains (IsShort r.objects) (flat_row_of r i) (own_at owns i) (sound.each i) ((stands.slack i some).listed)).object;
    apart = λ i k some same. sym (stands.holds k (λ none. some (sym same ∙ none))) ∙ ap (holder_at holders) same ∙ stands.holds i some;
  };
  listed = λ i some. (stands.slack i some).listed;
}

pub seats_stand : (r : FlatTable) (prices : List ℤ) (holders : List ℕ) (owns : List ShortArc) → IsFlatTable r → r.objects ≡ length r.rows → length prices ≡ r.objects → All IsPrice prices → length holders ≡ r.objects → length owns ≡ length r.rows → AreSeats r owns → AreTaken (length owns) holders owns → Stands r any_eps prices holders owns
seats_stand r prices holders owns sound square many within holders_are owns_are seats taken = record {
  prices_are = many;
  holders_are = holders_are;
  owns_are = owns_are;
  within = within;
  spare = inl square;
  held = taken.held;
  holds = λ i some. taken.holds i (person i some) some;
  slack = λ i some. any_slack r prices i (own_at owns i) sound within many (seats.listed i some);
}
  where
    person : (i : ℕ) → (own_at owns i).object ≢ NOBODY → i < length owns
    person i some =
        elim (cases_lt i (length owns)) [
          | inl l ↦ l
          | inr past ↦ absurd (some (ap (λ (s : ShortArc). s.object) (get_or_past owns i no_own past)))
        ]

pub handed_on : (p : Position) (reason : Reason) → Law p → p.table.objects ≡ length p.table.rows → length p.incumbent ≡ length p.table.rows → AreSeats p.table p.incumbent → (prices : List ℤ) (holders : List ℕ) (owns : List ShortArc) → prices ≡ p.prices → owns ≡ p.incumbent → length holders ≡ p.table.objects → AreTaken (length p.incumbent) holders p.incumbent → AreHandedOn (Ending.Stopped reason) p prices holders owns
handed_on p reason law square many seats prices holders owns prices_are owns_are holders_are taken =
    rw (prices_are, owns_are) (refl, (any_eps, seats_stand p.table p.prices holders p.incumbent law.sound square law.stands.prices_are law.stands.within holders_are many seats taken), λ whole. refl)

module _ (r : FlatTable) (eps : ℤ) (prices : List ℤ) (old : Holdings) (before : Incumbent) (new : Holdings) (after : Incumbent) (square : r.objects ≡ length r.rows) (sound : IsFlatTable r) (stands : Stands r eps prices old.holders.items old.owns.items) (is : IsIncumbent r before) where
  -- there are as many places as before
  pub aside_owns : AreSetAside old before new after → length new.owns.items ≡ length r.rows
  aside_owns aside = by aside.either
    where
      by : ((new.owns ≡ old.owns) × (after ≡ before)) ⊎ ((after.owns ≡ old.owns) × (new.owns ≡ before.owns)) → length new.owns.items ≡ length r.rows
      by (inl same) = rw same.0 stands.owns_are
      by (inr set) = rw set.1 is.owns_are

  pub aside_is : AreSetAside old before new after → IsIncumbent r after
  aside_is aside = by aside.either
    where
      by : ((new.owns ≡ old.owns) × (after ≡ before)) ⊎ ((after.owns ≡ old.owns) × (new.owns ≡ before.owns)) → IsIncumbent r after
      by (inl same) = subst (IsIncumbent r) (sym same.1) is
      by (inr set) = record {
        owns_are = rw set.0 stands.owns_are;
        seats = λ _. (square, rw set.0 (seats_of r eps prices old.holders.items old.owns.items sound stands));
      }
