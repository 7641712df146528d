use Rattle.book_tests.proofs.worked.no_trail_was_kept.Given as goal

abbrev pub ghosts-untold-N-Ledger : goal.ghosts-untold-N-Ledger
ghosts-untold-N-Ledger g a = record { name = a.ledger.name; parts = a.ledger.parts }

abbrev pub ghosts-untold-N-MailBrand : goal.ghosts-untold-N-MailBrand
ghosts-untold-N-MailBrand g a = record { boxes = 1; workers = 2; nodes = 4; most = 9; room = 0 }
