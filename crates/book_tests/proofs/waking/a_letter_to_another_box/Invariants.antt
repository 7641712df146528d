use Rattle.book_tests.proofs.waking.a_letter_to_another_box.Given as goal

abbrev pub ghosts-wakes_all-N-Ledger : goal.ghosts-wakes_all-N-Ledger
ghosts-wakes_all-N-Ledger g a = record { name = a.ledger.name; parts = a.ledger.parts }

abbrev pub ghosts-wakes_all-N-MailBrand : goal.ghosts-wakes_all-N-MailBrand
ghosts-wakes_all-N-MailBrand g a = record { boxes = 3; workers = 3; nodes = a.nodes; most = 9; room = 1 }
