use Rattle.std.proofs.Common.{◌≡◌, ◌++◌, map}
use Rattle.std.specs.Vec.Iter.{into_iter_items}
use Rattle.auc_threads.proofs.settling.seats_of.Given as goal

abbrev pub invariant-loop-bought : goal.invariant-loop-bought
invariant-loop-bought g l = record {
  objects : l.all.objects.items ++ map (λ w. w.seats.objects) (into_iter_items l.bought-iterator) ≡ map (λ w. w.seats.objects) l.fn.works.persons.items;
  persons : l.all.persons.items ++ map (λ w. w.seats.persons) (into_iter_items l.bought-iterator) ≡ map (λ w. w.seats.persons) l.fn.works.persons.items;
  hub : l.all.hub.items ++ map (λ w. w.seats.hub) (into_iter_items l.bought-iterator) ≡ map (λ w. w.seats.hub) l.fn.works.persons.items;
}

abbrev pub invariant-loop-sold : goal.invariant-loop-sold
invariant-loop-sold g l = record {
  objects : l.all.objects.items ++ map (λ w. w.seats.objects) (into_iter_items l.sold-iterator) ≡ map (λ w. w.seats.objects) l.fn.works.persons.items ++ map (λ w. w.seats.objects) l.fn.works.objects.items;
  persons : l.all.persons.items ++ map (λ w. w.seats.persons) (into_iter_items l.sold-iterator) ≡ map (λ w. w.seats.persons) l.fn.works.persons.items ++ map (λ w. w.seats.persons) l.fn.works.objects.items;
  hub : l.all.hub.items ++ map (λ w. w.seats.hub) (into_iter_items l.sold-iterator) ≡ map (λ w. w.seats.hub) l.fn.works.persons.items ++ map (λ w. w.seats.hub) l.fn.works.objects.items;
}
