use Rattle.book_tests.proofs.limits.shared_mails_above_the_limits.Given as goal

abbrev pub ghosts-refusal-N-Ledger : goal.ghosts-refusal-N-Ledger
ghosts-refusal-N-Ledger g a = record { name = a.ledger.name; parts = a.ledger.parts }

abbrev pub ghosts-refusal-N-MailBrand : goal.ghosts-refusal-N-MailBrand
ghosts-refusal-N-MailBrand g a = record { boxes = a.boxes; workers = a.workers; nodes = a.nodes; most = 9; room = a.room }
