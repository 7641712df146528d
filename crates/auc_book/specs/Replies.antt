-- The mail's reply that the result of a worker's call stands for; there is none where no more calls can be noted.
use Rattle.std.specs.Prelude.{ℕ, Bool, Option, Some, None, Result, Ok, Err}
use Rattle.auc_mail.specs.declared.call.PostRefused.TheVariants.{Closed, Spent, Full}
use Rattle.auc_mail.specs.declared.call.Taken.{Taken}
use Rattle.auc_mail.specs.declared.call.Reply.{Reply}
use Rattle.auc_mail.specs.declared.call.Reply.TheVariants.{Posted, Refused, Took, WasOpen}
use Rattle.auc_book.specs.declared.error.TrailFull.{TrailFull}
use Rattle.auc_book.specs.declared.error.CallRefused.{CallRefused}
use Rattle.auc_book.specs.declared.error.CallRefused.TheVariants as refused

abbrev pub post_reply : {T : Type 0} → Result ℕ CallRefused → Option (Reply T)
post_reply (Ok n) = Some (Posted n)
post_reply (Err refused.TrailFull) = None
post_reply (Err refused.Closed) = Some (Refused Closed)
post_reply (Err refused.Spent) = Some (Refused Spent)
post_reply (Err refused.Full) = Some (Refused Full)

abbrev pub take_reply : {T : Type 0} → Result (Taken T) TrailFull → Option (Reply T)
take_reply (Ok t) = Some (Took t)
take_reply (Err e) = None

abbrev pub close_reply : {T : Type 0} → Result Bool TrailFull → Option (Reply T)
close_reply (Ok w) = Some (WasOpen w)
close_reply (Err e) = None
