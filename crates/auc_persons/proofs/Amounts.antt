-- A whole pass over a row gives the bid.
use Rattle.std.proofs.Common.{◌≡◌, ◌≢◌, ℕ, ◌≤◌, inl, inr, List, refl, ◌∙◌, arith}
use Rattle.std.specs.Prelude.{ℤ, ◌+ℤ◌, ◌-ℤ◌, ◌*ℤ◌, ◌≤ℤ◌, ◌<ℤ◌}
use Rattle.std.proofs.lemmas.Int.{ints}
use Rattle.std.proofs.lemmas.List.Elements.{All-weaker}
use Rattle.auc_graph.specs.declared.rows.RowArc.{RowArc}
use Rattle.auc_graph.specs.Bid.{value, IsBestArc, IsAmount, IsBid}
use Rattle.auc_persons.specs.declared.bidder.scan.Scan.{Scan}
use Rattle.auc_persons.specs.Scan.{endless, Reached, IsScan}

best_arc : (val : RowArc → ℤ) (row : List RowArc) (f : Scan) → IsScan val row f → IsBestArc val row f.best
best_arc val row f h = record {
  listed = h.listed;
  least = All-weaker (λ b. f.value ≤ℤ val b) (λ b. val f.best ≤ℤ val b) (λ b le. rw (← h.is_value) le) row h.least;
  lowest = All-weaker (λ b. f.value ≡ val b → f.best.object ≤ b.object) (λ b. val f.best ≡ val b → f.best.object ≤ b.object) (λ b g e. g (h.is_value ∙ e)) row h.lowest;
  earliest = All-weaker (λ b. f.value ≡ val b → f.best.object ≡ b.object → f.best.arc ≤ b.arc) (λ b. val f.best ≡ val b → f.best.object ≡ b.object → f.best.arc ≤ b.arc) (λ b g e. g (h.is_value ∙ e)) row h.earliest;
}

-- with an arc to another object
next_amount_is : (s spread eps : ℤ) (q : ℕ → ℤ) (row : List RowArc) (f : Scan) (amount : ℤ) → IsScan (value s q) row f → f.second <ℤ endless → amount ≡ (q f.best.object +ℤ (f.second -ℤ f.value)) +ℤ eps
    → Reached (value s q) row f.best f.second → IsAmount s spread eps q row f.best amount
next_amount_is s spread eps q row f amount h lt is (inl r) = absurd (omega (arith, ints, r.1))
next_amount_is s spread eps q row f amount h lt is (inr r) = inl (
  r.arc,
  record {
    listed = r.listed;
    other = r.other;
    least = All-weaker (λ b. b.object ≢ f.best.object → f.second ≤ℤ value s q b) (λ b. b.object ≢ f.best.object → value s q r.arc ≤ℤ value s q b) (λ b g ne. rw r.value_is (g ne)) row h.others;
  },
  is ∙ rw (← r.value_is, ← h.is_value) refl,
)

-- without one
only_amount_is : (s spread eps : ℤ) (q : ℕ → ℤ) (row : List RowArc) (f : Scan) (amount : ℤ) → endless ≤ℤ f.second → amount ≡ (q f.best.object +ℤ (s *ℤ spread)) +ℤ eps
    → Reached (value s q) row f.best f.second → IsAmount s spread eps q row f.best amount
only_amount_is s spread eps q row f amount le is (inl r) = inr (r.0, is)
only_amount_is s spread eps q row f amount le is (inr r) = absurd (omega (arith, ints, r.in_range.high))

pub next_bid : (s spread eps : ℤ) (q : ℕ → ℤ) (row : List RowArc) (f : Scan) (amount : ℤ) → IsScan (value s q) row f → f.second <ℤ endless → amount ≡ (q f.best.object +ℤ (f.second -ℤ f.value)) +ℤ eps → IsBid s spread eps q row f.best amount
next_bid s spread eps q row f amount h lt is = record { best = best_arc (value s q) row f h; amount_is = next_amount_is s spread eps q row f amount h lt is h.reached }

pub only_bid : (s spread eps : ℤ) (q : ℕ → ℤ) (row : List RowArc) (f : Scan) (amount : ℤ) → IsScan (value s q) row f → endless ≤ℤ f.second → amount ≡ (q f.best.object +ℤ (s *ℤ spread)) +ℤ eps → IsBid s spread eps q row f.best amount
only_bid s spread eps q row f amount h le is = record { best = best_arc (value s q) row f h; amount_is = only_amount_is s spread eps q row f amount le is h.reached }
