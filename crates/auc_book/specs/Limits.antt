-- The greatest length of a trail, the greatest count of calls, and the causes for which a new mail with a trail is
-- refused.
use Rattle.std.specs.Prelude.{ℕ, ◌<◌, ◌≤◌}
use Rattle.auc_mail.specs.declared.error.MailError.{MailError}
use Rattle.auc_mail.specs.declared.error.MailError.TheVariants.{TooManyLanes, TooManyNodes, TooMuchRoom, NoMemory}
use Rattle.auc_mail.specs.Limits.{LanesFit, NodesFit, IsRefusedFor}

-- the number of lines for which a trail has room is within its limit
abbrev pub RoomFits : ℕ → Type 0
RoomFits room = room ≤ 1000000

-- the count of calls is at its last value, 2^64 - 1
abbrev pub IsLastCount : ℕ → Type 0
IsLastCount count = 18446744073709551615 ≤ count

-- The causes for which a mail with room for a trail is refused. Those of the mail itself come first, then its room,
-- then want of memory. The cases exclude each other, and a mail that is made excludes them all: so each refusal has
-- exactly its cause.
abbrev pub IsRefusedWithRoom : ℕ → ℕ → ℕ → ℕ → MailError → Type 0
IsRefusedWithRoom boxes workers nodes room TooManyLanes = IsRefusedFor boxes workers nodes TooManyLanes
IsRefusedWithRoom boxes workers nodes room TooManyNodes = IsRefusedFor boxes workers nodes TooManyNodes
IsRefusedWithRoom boxes workers nodes room TooMuchRoom = LanesFit boxes workers × NodesFit nodes × (1000000 < room)
IsRefusedWithRoom boxes workers nodes room NoMemory = IsRefusedFor boxes workers nodes NoMemory × RoomFits room
