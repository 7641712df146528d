-- The problem that a caller gives.
use Rattle.auc_graph.specs.Problem.{Problem}
use Rattle.auc_graph.specs.InMemory.{problem_from}
use Rattle.auc_call.specs.declared.given.GivenArcs.{GivenArcs}

-- the problem of a list of arcs
abbrev pub listed_problem : GivenArcs → Problem
listed_problem given = problem_from given.persons given.objects given.arcs.now
