use Rattle.book_tests.proofs.letters.letters_of_the_solver_settle.Given as goal

abbrev pub ghosts-letters_settle-N-Ledger : goal.ghosts-letters_settle-N-Ledger
ghosts-letters_settle-N-Ledger g a = record { name = a.ledger.name; parts = a.ledger.parts }

abbrev pub ghosts-letters_settle-N-MailBrand : goal.ghosts-letters_settle-N-MailBrand
ghosts-letters_settle-N-MailBrand g a = record { boxes = 1; workers = 1; nodes = 4; most = 9; room = 3 }
