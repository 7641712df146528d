-- The arcs of a problem, one by one.
use Rattle.std.proofs.Common.{ℕ, pos, ◌<◌, ◌≡◌, List, length, get_or, sym, subst}
use Rattle.std.specs.Prelude.{All}
use Rattle.std.proofs.lemmas.List.Elements.{All-get_or}
use Rattle.auc_graph.specs.declared.arc.Arc.{Arc}
use Rattle.auc_graph.specs.Problem.{IsProblem, IsWithin, Problem}

abbrev pub none : Arc
none = record { cost = pos 0; person = 0; object = 0 }

pub within_at : (p : Problem) (arcs : List Arc) (i : ℕ) (d : Arc) → IsProblem p → arcs ≡ p.arcs → i < length arcs → IsWithin p.persons p.objects (get_or arcs i d)
within_at p arcs i d is e lt = All-get_or (IsWithin p.persons p.objects) arcs i d lt (subst (λ (xs : List Arc). All (IsWithin p.persons p.objects) xs) (sym e) is.within)
