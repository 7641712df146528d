use Rattle.book_tests.proofs.worked.calls_without_a_trail.Given as goal

abbrev pub ghosts-calls_untold-N-Ledger : goal.ghosts-calls_untold-N-Ledger
ghosts-calls_untold-N-Ledger g a = record { name = a.ledger.name; parts = a.ledger.parts }

abbrev pub ghosts-calls_untold-N-MailBrand : goal.ghosts-calls_untold-N-MailBrand
ghosts-calls_untold-N-MailBrand g a = record { boxes = 1; workers = 1; nodes = 4; most = 9; room = 0 }
