-- The replies to the calls of a script: which are right, and the lines that report them.
use Rattle.std.specs.Prelude.{◌≡◌, ℕ, ◌+◌, true, false, List, ◌++◌, length, codes, ℤ}
use Rattle.std.specs.List.{flat_map, zip}
use Rattle.std.specs.Fmt.{decimal, signed_decimal}
use Rattle.auc_cert.specs.Writing.{counted}
use Rattle.auc_mail.specs.Mail.{Mail, empty_mail}
use Rattle.auc_mail.specs.Run.{Run}
use Rattle.auc_mail.specs.Letters.{HandsOutInOrder, NothingBehindClose}
use Rattle.auc_mail.specs.declared.call.PostRefused.TheVariants.{Closed, Spent, Full}
use Rattle.auc_mail.specs.declared.call.Taken.TheVariants.{Letter, Empty, Over}
use Rattle.auc_mail.specs.declared.call.Reply.{Reply}
use Rattle.auc_mail.specs.declared.call.Reply.TheVariants.{Posted, Refused, Took, WasOpen}
use Rattle.auc_script.specs.declared.script.Script.{Script}

-- the line of a reply; senders are written counted from 1
abbrev pub reply_line : Reply ℤ → List ℕ
reply_line (Posted n) = counted (codes "ok ") n
reply_line (Refused Closed) = codes "closed\n"
reply_line (Refused Spent) = codes "spent\n"
reply_line (Refused Full) = codes "full\n"
reply_line (Took (Letter s n x)) = codes "letter " ++ decimal (s + 1) ++ codes " " ++ decimal n ++ codes " " ++ signed_decimal x ++ codes "\n"
reply_line (Took Empty) = codes "empty\n"
reply_line (Took Over) = codes "over\n"
reply_line (WasOpen true) = codes "was open\n"
reply_line (WasOpen false) = codes "was closed\n"

abbrev pub reply_lines : List (Reply ℤ) → List ℕ
reply_lines replies = flat_map reply_line replies

-- The mail of a script may give these replies to its calls: there is one for each, and together they are a run from the
-- empty mail. So each box hands out of a sender's items a prefix of what the sender sent to it, and accepts nothing
-- after a close.
pub record AreRepliesTo (s : Script) (replies : List (Reply ℤ)) : Type 0 where
  pub one_each : length replies ≡ length s.calls
  pub last : Mail ℤ
  pub run : Run (empty_mail s.boxes s.senders s.nodes s.most) (zip s.calls replies) last
  pub in_order : HandsOutInOrder (zip s.calls replies)
  pub closed : NothingBehindClose (zip s.calls replies)
