use Rattle.memory_tests.proofs.mails.shared_mails.Given as goal

abbrev pub ghosts-refusal-N-Ledger : goal.ghosts-refusal-N-Ledger
ghosts-refusal-N-Ledger g a = record { name = a.ledger.name; parts = a.ledger.parts }

abbrev pub ghosts-refusal-N-MailBrand : goal.ghosts-refusal-N-MailBrand
ghosts-refusal-N-MailBrand g a = record { boxes = 2; workers = 3; nodes = 5; most = 9; room = 7 }
