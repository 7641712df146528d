-- Objects in place of arcs.
use Rattle.std.proofs.Common.{Bool, ◌<◌, ℕ, List, length, get_or, inl, refl, subst, All}
use Rattle.std.specs.Prelude.{ℤ}
use Rattle.std.proofs.lemmas.List.{get_or_default}
use Rattle.std.proofs.lemmas.Option.{slice_get_within}
use Rattle.auc_graph.specs.declared.arc.Arc.{Arc}
use Rattle.auc_graph.specs.Problem.{Problem}
use Rattle.auc_claim.specs.declared.lists.Pick.{Pick}
use Rattle.auc_claim.specs.Claim.{arc_of, chosen}
use Rattle.auc_call.specs.declared.solved.Solved.{Solved}
use Rattle.auc_call.specs.declared.solved.Solved.TheVariants.{Optimal, Infeasible, Bracket}
use Rattle.auc_call.specs.Drivers.{IsLimitedSolve}
use Rattle.auc_call.specs.Memory.{AreAt, Memory, memory}
use Rattle.auc_call.specs.Solving.{IsSolved}
use Rattle.auc_dense.specs.TableSolving.{AreNamed, IsTableSolved, named}
use Rattle.auc_call.proofs.PickLaws.{at_person}
use Rattle.auc_call.proofs.PlaceLaws.{no_pick}

-- where arcs stand at places, each is a place of the list
within : (arcs : List Arc) (places : List ℕ) (picks : List Pick) → AreAt arcs places (chosen 0 picks) → All (λ place. place < length arcs) places
within arcs places picks at k d lt = subst (λ (place : ℕ). place < length arcs) (get_or_default places k 0 d lt) (slice_get_within arcs (get_or places k 0) (arc_of k (get_or picks k no_pick)) (at_person arcs places picks k lt at))

pub named_places : (p : Problem) (before after : Memory) (solved : Solved) → IsSolved p before after solved → AreNamed p.arcs solved after.choice
named_places p before after (Optimal cost) h = within p.arcs after.choice h.0.picks h.0.at
named_places p before after (Infeasible persons objects) h = tt
named_places p before after (Bracket reason lower cost) h = within p.arcs after.choice h.0.picks h.0.at

-- the places of what was found are those of its objects
pub table_solved : (p : Problem) (start : List ℤ) (bids : ℕ) (stopped : Bool) (before after : Memory) (solved : Solved) → IsSolved p before after solved → IsLimitedSolve p start bids stopped after solved
    → IsTableSolved p start bids stopped before (memory (named p.arcs solved after.choice) after.prices after.set) solved
table_solved p start bids stopped before after (Optimal cost) h limited = (record { places = after.choice; objects_are = refl; holds = h.0 }, h.1)
table_solved p start bids stopped before after (Infeasible persons objects) h limited = h
table_solved p start bids stopped before after (Bracket reason lower cost) h limited = (record { places = after.choice; objects_are = refl; holds = (h.0, limited) }, h.1)
