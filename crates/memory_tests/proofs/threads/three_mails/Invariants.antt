use Rattle.auc_threads.specs.Naming.{hub_nodes, objects_nodes, persons_nodes, workers_of}
use Rattle.memory_tests.proofs.threads.three_mails.Given as goal

abbrev pub ghosts-seated-O-Ledger : goal.ghosts-seated-O-Ledger
ghosts-seated-O-Ledger g a = record { name = a.ledgers.objects.name; parts = a.ledgers.objects.parts }

abbrev pub ghosts-seated-P-Ledger : goal.ghosts-seated-P-Ledger
ghosts-seated-P-Ledger g a = record { name = a.ledgers.persons.name; parts = a.ledgers.persons.parts }

abbrev pub ghosts-seated-H-Ledger : goal.ghosts-seated-H-Ledger
ghosts-seated-H-Ledger g a = record { name = a.ledgers.hub.name; parts = a.ledgers.hub.parts }

abbrev pub ghosts-seated-O-MailBrand : goal.ghosts-seated-O-MailBrand
ghosts-seated-O-MailBrand g a = record { boxes = a.limits.now.shards; workers = workers_of a.limits.now.shards; nodes = objects_nodes a.limits.now 2; most = a.limits.now.posts; room = a.limits.now.audit }

abbrev pub ghosts-seated-P-MailBrand : goal.ghosts-seated-P-MailBrand
ghosts-seated-P-MailBrand g a = record { boxes = a.limits.now.shards; workers = workers_of a.limits.now.shards; nodes = persons_nodes a.limits.now 2; most = a.limits.now.posts; room = a.limits.now.audit }

abbrev pub ghosts-seated-H-MailBrand : goal.ghosts-seated-H-MailBrand
ghosts-seated-H-MailBrand g a = record { boxes = 1; workers = workers_of a.limits.now.shards; nodes = hub_nodes a.limits.now 2; most = a.limits.now.posts; room = a.limits.now.audit }
