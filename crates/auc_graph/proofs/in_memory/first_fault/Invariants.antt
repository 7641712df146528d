use Rattle.std.proofs.Common.{◌≡◌, drop}
use Rattle.auc_graph.specs.InMemory.{first_fault}
use Rattle.auc_graph.proofs.in_memory.first_fault.Given as goal

abbrev pub invariant-loop-i : goal.invariant-loop-i
invariant-loop-i l = first_fault l.persons l.objects l.i (drop l.i l.arcs) ≡ first_fault l.persons l.objects 0 l.arcs
