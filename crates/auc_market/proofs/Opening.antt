-- The start of a phase.
use Rattle.std.proofs.Common.{ℕ, ℤ, pos, ◌<◌, ◌≤◌, ◌≡◌, arith, List, length, get_or, replicate, inl, inr, ap, sym, subst, ◌∙◌}
use Rattle.std.specs.Prelude.{All, ◌⊎◌}
use Rattle.std.proofs.lemmas.Int.{ints}
use Rattle.std.proofs.lemmas.List.{get_or-replicate, get_or_default, length-replicate, same_lists}
use Rattle.std.proofs.lemmas.List.Elements.{All-replicate}
use Rattle.auc_graph.specs.Dual.{price_at}
use Rattle.auc_graph.specs.Price.{IsPrice}
use Rattle.auc_rows.specs.declared.arc.ShortArc.{ShortArc}
use Rattle.auc_rows.specs.Rows.{FlatTable}
use Rattle.auc_letters.specs.declared.limits.TheConstants.{NOBODY}
use Rattle.auc_market.proofs.MarketLaws.{replicate_default}
use Rattle.auc_market.specs.Endings.{IsStart}
use Rattle.auc_market.specs.Market.{AreSpare, Stands, holder_at, no_own, own_at}
use Rattle.auc_market.specs.Starts.{ArePricesOf}

-- a list of equal elements
pub all_same : {X : Type 0} (a : X) (xs ys : List X) (n : ℕ) → length xs ≡ length ys → length xs ≤ n → ((k : ℕ) → k < n → get_or xs k a ≡ a) → xs ≡ replicate (length ys) a
all_same a xs ys n len enough same =
    same_lists xs (replicate (length ys) a) (len ∙ sym (length-replicate (length ys) a))
    (λ k d lt. get_or_default xs k d a lt ∙ same k (omega (arith, lt, enough)) ∙ sym (get_or-replicate (length ys) k a d (omega (arith, lt, len))))

-- as many objects as before, and nobody holds any
pub opened_many : (before holders : List ℕ) → holders ≡ replicate (length before) NOBODY → length holders ≡ length before
opened_many before holders nobody = ap length nobody ∙ length-replicate (length before) NOBODY

pub opened_none : (before holders : List ℕ) → holders ≡ replicate (length before) NOBODY → (j : ℕ) → holder_at holders j ≡ NOBODY
opened_none before holders nobody j = ap (λ (hs : List ℕ). holder_at hs j) nobody ∙ replicate_default (length before) j NOBODY

pub stands_opened : (r : FlatTable) (first eps : ℤ) (prices : List ℤ) (holders : List ℕ) (owns : List ShortArc) (n m : ℕ) → IsStart r first prices → n ≡ r.objects → m ≡ length r.rows → holders ≡ replicate n NOBODY → owns ≡ replicate m no_own → Stands r eps prices holders owns
stands_opened r first eps prices holders owns n m start objects persons nobody none = record {
  prices_are = start.each;
  holders_are = ap length nobody ∙ length-replicate n NOBODY ∙ objects;
  owns_are = ap length none ∙ length-replicate m no_own ∙ persons;
  within = start.within;
  spare = spare start.spare;
  held = λ j some. absurd (some (unheld j));
  holds = λ i some. absurd (some (unowned i));
  slack = λ i some. absurd (some (unowned i));
}
  where
    unheld : (j : ℕ) → holder_at holders j ≡ NOBODY
    unheld j = ap (λ (hs : List ℕ). holder_at hs j) nobody ∙ replicate_default n j NOBODY

    unowned : (i : ℕ) → (own_at owns i).object ≡ NOBODY
    unowned i = ap (λ (os : List ShortArc). (own_at os i).object) none ∙ ap (λ (s : ShortArc). s.object) (replicate_default m i no_own)

    spare : (r.objects ≡ length r.rows) ⊎ ((first ≡ pos 1) × ((j : ℕ) → price_at prices j ≡ pos 0)) → AreSpare r prices holders
    spare (inl square) = inl square
    spare (inr zeros) = inr (λ j free. zeros.1 j)

-- ---- the start of a run

-- all prices 0
pub start_none : (r : FlatTable) (eps : ℤ) (n : ℕ) (prices : List ℤ) → n ≡ r.objects → prices ≡ replicate n (pos 0) → (r.objects ≡ length r.rows) ⊎ (eps ≡ pos 1) → IsStart r eps prices
start_none r eps n prices many zeros start = record {
  each = ap length zeros ∙ length-replicate n (pos 0) ∙ many;
  within = subst (All IsPrice) (sym zeros) (All-replicate IsPrice n (pos 0) (record { low = omega (arith, ints); high = omega (arith, ints) }));
  spare = by start;
}
  where
    by : (r.objects ≡ length r.rows) ⊎ (eps ≡ pos 1) → (r.objects ≡ length r.rows) ⊎ ((eps ≡ pos 1) × ((j : ℕ) → price_at prices j ≡ pos 0))
    by (inl square) = inl square
    by (inr one) = inr (one, λ j. ap (λ (ps : List ℤ). price_at ps j) zeros ∙ replicate_default n j (pos 0))

-- prices to start from, if there are as many objects as persons
pub start_at : (r : FlatTable) (start prices : List ℤ) → ArePricesOf r start → r.objects ≡ length r.rows → prices ≡ start → IsStart r (pos 1) prices
start_at r start prices is square e = record { each = ap length e ∙ is.each; within = subst (All IsPrice) (sym e) is.within; spare = inl square }
