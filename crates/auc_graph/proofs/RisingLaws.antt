-- Rising lists have no number twice.
use Rattle.std.proofs.Common.{ℕ, List, arith}
use Rattle.std.specs.Prelude.{nat_eq}
use Rattle.std.specs.List.{IsDistinct}
use Rattle.std.proofs.lemmas.Bool.Decides.{Decides-eqb}
use Rattle.std.proofs.lemmas.Map.Made.{IsDistinct-from_AllPairs}
use Rattle.auc_graph.specs.Rising.{IsRising}

pub rising_differ : (numbers : List ℕ) → IsRising numbers → IsDistinct nat_eq numbers
rising_differ numbers h = IsDistinct-from_AllPairs Decides-eqb numbers (λ i j d lt in_list. let below = h i j d lt in_list in λ e. absurd (omega (arith, below, e)))
