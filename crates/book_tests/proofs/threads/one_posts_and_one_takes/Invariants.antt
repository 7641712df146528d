use Rattle.book_tests.proofs.threads.one_posts_and_one_takes.Given as goal

abbrev pub ghosts-trade-N-Ledger : goal.ghosts-trade-N-Ledger
ghosts-trade-N-Ledger g a = record { name = a.ledger.name; parts = a.ledger.parts }

abbrev pub ghosts-trade-N-MailBrand : goal.ghosts-trade-N-MailBrand
ghosts-trade-N-MailBrand g a = record { boxes = 1; workers = 2; nodes = 4; most = 9; room = 100 }
