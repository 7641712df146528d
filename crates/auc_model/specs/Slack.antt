-- Epsilon-complementary slackness of an arc of a person at prices.
use Rattle.std.specs.Prelude.{ℕ, ℤ, ◌+ℤ◌, ◌≤ℤ◌, All}
use Rattle.auc_graph.specs.declared.rows.RowArc.{RowArc}
use Rattle.auc_graph.specs.Bid.{value}
use Rattle.auc_model.specs.World.{Phase, scale}

-- epsilon-complementary slackness (Bertsekas): no arc of the person is better than this one by more than eps at these
-- prices
abbrev pub SlackRight : Phase → (ℕ → ℤ) → ℕ → RowArc → Type 0
SlackRight g p i a = All (λ b. value (scale g) p a ≤ℤ (value (scale g) p b +ℤ g.eps)) (g.row i)
