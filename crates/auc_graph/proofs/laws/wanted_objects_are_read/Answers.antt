use Rattle.std.proofs.Common.{sym}
use Rattle.auc_graph.proofs.EndLaws.{objects_read, persons_read, same_objects}
use Rattle.auc_graph.proofs.laws.wanted_objects_are_read.Goals as goal

pub returns : goal.returns
returns c = record {
  objects = objects_read;
  square = λ most limit text p is. sym (same_objects p.persons p.objects (objects_read most limit 0 text p is));
  persons = persons_read;
}
