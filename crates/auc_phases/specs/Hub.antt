-- The hub (coordinator): the number of First letters counted, and the end of the phase, once it is set.
use Rattle.std.specs.Prelude.{ℕ, ◌+◌, ◌==◌, nat_lt, if◌then◌else◌, Option}
use Rattle.auc_letters.specs.declared.letter.Letter.{Letter}
use Rattle.auc_letters.specs.declared.letter.Why.{Why}
use Rattle.auc_model.specs.declared.turn.End.{End}
use Rattle.auc_model.specs.World.{first_end}

pub record Counting : Type 0 where
  pub count : ℕ
  pub end : Option End

-- the first cause sets the end
abbrev pub ending : Counting → End → Counting
ending h e = record h { end = first_end h.end e }

-- one more First letter is counted, up to the number of persons; the last one ends the phase
abbrev pub counting : ℕ → Counting → Counting
counting persons h =
    if nat_lt h.count persons then
    (record { count = h.count + 1; end = if (h.count + 1) == persons then first_end h.end End.All else h.end }) else h

-- the hub after a letter of any kind
abbrev pub hearing : ℕ → Letter → Counting → Counting
hearing persons (Letter.First j) h = counting persons h
hearing persons (Letter.Stop y) h = ending h (End.Stopped y)
hearing persons (Letter.Bid i a j p) h = ending h (End.Stopped Why.Stray)
hearing persons (Letter.Award i j p) h = ending h (End.Stopped Why.Stray)
hearing persons (Letter.Refused i j p) h = ending h (End.Stopped Why.Stray)
hearing persons (Letter.Outbid i j p) h = ending h (End.Stopped Why.Stray)
hearing persons (Letter.Price j p) h = ending h (End.Stopped Why.Stray)
