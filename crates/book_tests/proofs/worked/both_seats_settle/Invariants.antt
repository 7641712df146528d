use Rattle.book_tests.proofs.worked.both_seats_settle.Given as goal

abbrev pub ghosts-settled-N-Ledger : goal.ghosts-settled-N-Ledger
ghosts-settled-N-Ledger g a = record { name = a.ledger.name; parts = a.ledger.parts }

abbrev pub ghosts-settled-N-MailBrand : goal.ghosts-settled-N-MailBrand
ghosts-settled-N-MailBrand g a = record { boxes = 1; workers = 2; nodes = 4; most = 9; room = 3 }
