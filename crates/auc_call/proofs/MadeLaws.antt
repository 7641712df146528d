-- The problem that a list makes.
use Rattle.std.proofs.Common.{◌≡◌, ℕ, List, Option, Some, None, ap, ◌∙◌}
use Rattle.std.specs.Prelude.{Result, Ok}
use Rattle.auc_graph.specs.declared.arc.Arc.{Arc}
use Rattle.auc_graph.specs.declared.list_faults.ListFault.{ListFault}
use Rattle.auc_graph.specs.Problem.{Problem}
use Rattle.auc_graph.specs.InMemory.{problem_from, list_fault, listed, unless}

abbrev pub ok : Problem → Result Problem ListFault
ok p = Ok p

unless_ok : (p q : Problem) (fault : Option ListFault) → ok q ≡ unless p fault → q ≡ p
unless_ok p q None e = cc
unless_ok p q (Some fault) e = absurd cc

pub made_of : (n m : ℕ) (q : Problem) (items arcs : List Arc) → ok q ≡ listed n m items → items ≡ arcs → q ≡ problem_from n m arcs
made_of n m q items arcs is same = unless_ok (problem_from n m items) q (list_fault n m items) is ∙ ap (problem_from n m) same
