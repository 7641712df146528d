use Rattle.std.proofs.Common.{arith, length, ap}
use Rattle.std.proofs.lemmas.List.FromFn.{length-map-range_with_len}
use Rattle.auc_letters.specs.declared.letter.Letter.{Letter}
use Rattle.auc_book.specs.Seat.{new_account}
use Rattle.auc_threads.proofs.PlacedLaws.{placed_map}
use Rattle.auc_threads.proofs.mails.new_mail.Goals as goal

pub returns-in-Ok-clause-seats : goal.returns-in-Ok-clause-seats
returns-in-Ok-clause-seats g c = rw c.in-Ok.ensures.seats (placed_map new_account 0 c.args.workers)

pub returns-in-Ok-clause-many : goal.returns-in-Ok-clause-many
returns-in-Ok-clause-many g c = omega (arith, c.in-Ok.made.1.ok.0, ap length c.in-Ok.ensures.seats, length-map-range_with_len (new_account {T = Letter}) 0 c.args.workers)
