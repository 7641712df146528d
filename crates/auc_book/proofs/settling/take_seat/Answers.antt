use Rattle.auc_book.specs.Seats.{IsPlaceOf}
use Rattle.auc_book.proofs.Seats.{takes_seat}
use Rattle.auc_book.proofs.settling.take_seat.Goals as goal

pub returns-in-Some : goal.returns-in-Some
returns-in-Some g c =
    let at : IsPlaceOf c.args.worker c.as_slice.result.now c.in-Some.place = c.in-Some.ensures in
    let here : IsPlaceOf c.args.worker c.args.seats.now.items c.in-Some.place = rw c.as_slice.ensures.value at at in
    rw c.remove.ensures.items (takes_seat c.args.worker c.args.seats.now.items c.in-Some.place c.remove.result here c.remove.ensures.value)
