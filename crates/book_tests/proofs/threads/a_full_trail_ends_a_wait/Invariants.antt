use Rattle.book_tests.proofs.threads.a_full_trail_ends_a_wait.Given as goal

abbrev pub ghosts-fill-N-Ledger : goal.ghosts-fill-N-Ledger
ghosts-fill-N-Ledger g a = record { name = a.ledger.name; parts = a.ledger.parts }

abbrev pub ghosts-fill-N-MailBrand : goal.ghosts-fill-N-MailBrand
ghosts-fill-N-MailBrand g a = record { boxes = 2; workers = 2; nodes = 4; most = 9; room = 2 }
