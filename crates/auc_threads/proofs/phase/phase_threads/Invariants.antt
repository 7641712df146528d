use Rattle.std.proofs.Common.{length}
use Rattle.auc_threads.specs.Naming.{hub_nodes, objects_nodes, persons_nodes, workers_of}
use Rattle.auc_threads.proofs.phase.phase_threads.Given as goal

abbrev pub ghosts-named_phase-O-Ledger : goal.ghosts-named_phase-O-Ledger
ghosts-named_phase-O-Ledger g a = record { name = a.ledgers.objects.name; parts = a.ledgers.objects.parts }

abbrev pub ghosts-named_phase-P-Ledger : goal.ghosts-named_phase-P-Ledger
ghosts-named_phase-P-Ledger g a = record { name = a.ledgers.persons.name; parts = a.ledgers.persons.parts }

abbrev pub ghosts-named_phase-H-Ledger : goal.ghosts-named_phase-H-Ledger
ghosts-named_phase-H-Ledger g a = record { name = a.ledgers.hub.name; parts = a.ledgers.hub.parts }

abbrev pub ghosts-named_phase-O-MailBrand : goal.ghosts-named_phase-O-MailBrand
ghosts-named_phase-O-MailBrand g a = record { boxes = a.task.now.limits.now.shards; workers = workers_of a.task.now.limits.now.shards; nodes = objects_nodes a.task.now.limits.now (length a.task.now.rows.now.rows); most = a.task.now.limits.now.posts; room = a.task.now.limits.now.audit }

abbrev pub ghosts-named_phase-P-MailBrand : goal.ghosts-named_phase-P-MailBrand
ghosts-named_phase-P-MailBrand g a = record { boxes = a.task.now.limits.now.shards; workers = workers_of a.task.now.limits.now.shards; nodes = persons_nodes a.task.now.limits.now (length a.task.now.rows.now.rows); most = a.task.now.limits.now.posts; room = a.task.now.limits.now.audit }

abbrev pub ghosts-named_phase-H-MailBrand : goal.ghosts-named_phase-H-MailBrand
ghosts-named_phase-H-MailBrand g a = record { boxes = 1; workers = workers_of a.task.now.limits.now.shards; nodes = hub_nodes a.task.now.limits.now (length a.task.now.rows.now.rows); most = a.task.now.limits.now.posts; room = a.task.now.limits.now.audit }
