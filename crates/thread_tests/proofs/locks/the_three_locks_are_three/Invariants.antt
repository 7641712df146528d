use Rattle.auc_threads.specs.Naming.{hub_nodes, objects_nodes, persons_nodes, workers_of}
use Rattle.thread_tests.proofs.locks.the_three_locks_are_three.Given as goal

abbrev pub ghosts-take_while_another_looks-O-Ledger : goal.ghosts-take_while_another_looks-O-Ledger
ghosts-take_while_another_looks-O-Ledger g a = record { name = a.ledgers.objects.name; parts = a.ledgers.objects.parts }

abbrev pub ghosts-take_while_another_looks-P-Ledger : goal.ghosts-take_while_another_looks-P-Ledger
ghosts-take_while_another_looks-P-Ledger g a = record { name = a.ledgers.persons.name; parts = a.ledgers.persons.parts }

abbrev pub ghosts-take_while_another_looks-H-Ledger : goal.ghosts-take_while_another_looks-H-Ledger
ghosts-take_while_another_looks-H-Ledger g a = record { name = a.ledgers.hub.name; parts = a.ledgers.hub.parts }

abbrev pub ghosts-take_while_another_looks-O-MailBrand : goal.ghosts-take_while_another_looks-O-MailBrand
ghosts-take_while_another_looks-O-MailBrand g a = record { boxes = a.limits.now.shards; workers = workers_of a.limits.now.shards; nodes = objects_nodes a.limits.now 2; most = a.limits.now.posts; room = a.limits.now.audit }

abbrev pub ghosts-take_while_another_looks-P-MailBrand : goal.ghosts-take_while_another_looks-P-MailBrand
ghosts-take_while_another_looks-P-MailBrand g a = record { boxes = a.limits.now.shards; workers = workers_of a.limits.now.shards; nodes = persons_nodes a.limits.now 2; most = a.limits.now.posts; room = a.limits.now.audit }

abbrev pub ghosts-take_while_another_looks-H-MailBrand : goal.ghosts-take_while_another_looks-H-MailBrand
ghosts-take_while_another_looks-H-MailBrand g a = record { boxes = 1; workers = workers_of a.limits.now.shards; nodes = hub_nodes a.limits.now 2; most = a.limits.now.posts; room = a.limits.now.audit }
