-- The world of one phase: prices, holders, persons, shards, outboxes, mails, the hub.
use Rattle.std.specs.Prelude.{ℕ, ◌+◌, ◌*◌, ℤ, pos, Bool, List, length, Option, Some, None}
use Rattle.auc_graph.specs.declared.rows.RowArc.{RowArc}
use Rattle.auc_graph.specs.Table.{Table, row_of}
use Rattle.auc_mail.specs.Mail.{Mail}
use Rattle.auc_letters.specs.declared.letter.Letter.{Letter}
use Rattle.auc_letters.specs.declared.letter.Why.{Why}
use Rattle.auc_letters.specs.declared.out.Out.{Out}
use Rattle.auc_letters.specs.declared.state.PersonState.{PersonState}
use Rattle.auc_letters.specs.declared.state.Held.{Held}
use Rattle.auc_model.specs.declared.turn.End.{End}

-- The parameters of a phase: the numbers of persons, of objects and of shards of each kind, the spread of the costs,
-- eps, and the row of each person.
pub record Phase : Type 0 where
  pub persons : ℕ
  pub objects : ℕ
  pub shards : ℕ
  pub spread : ℤ
  pub eps : ℤ
  pub row : ℕ → List RowArc

-- the phase of a problem
abbrev pub phase_of : Table → ℕ → ℤ → Phase
phase_of t shards eps = record
    { persons = length t.rows; objects = t.objects; shards = shards; spread = t.spread; eps = eps; row = row_of t }

-- the factor that scales costs: one more than the number of persons
abbrev pub scale : Phase → ℤ
scale g = pos (g.persons + 1)

-- The senders of each mail: the shards of the persons, then those of the objects, then the hub.
abbrev pub senders : Phase → ℕ
senders g = 2 * g.shards + 1

-- The state of one phase. By object: the true price and the holder. By person: its state. By person shard: the copies
-- of prices, the free persons (longest free first), the bids left, and whether it has made a Stop. Also the outboxes of
-- the shards, next letter first; the three mails; the First letters counted; and the end, once it is set.
pub record World : Type 0 where
  pub price : ℕ → ℤ
  pub holder : ℕ → Option Held
  pub state : ℕ → PersonState
  pub copy : ℕ → ℕ → ℤ
  pub idle : ℕ → List ℕ
  pub bids_left : ℕ → ℕ
  pub has_stopped : ℕ → Bool
  pub person_out : ℕ → List Out
  pub object_out : ℕ → List Out
  pub objects_mail : Mail Letter
  pub persons_mail : Mail Letter
  pub hub_mail : Mail Letter
  pub count : ℕ
  pub end : Option End

-- the first cause sets the end
abbrev pub first_end : Option End → End → Option End
first_end None e = Some e
first_end (Some d) e = Some d

-- the world after a stop for this cause
abbrev pub ended : World → Why → World
ended w y = record w { end = first_end w.end (End.Stopped y) }
