-- The number of letters that wait, which leaves room for every letter but a Price.
use Rattle.std.specs.Prelude.{ℕ, ◌+◌, ◌*◌, ◌≤◌, ◌≡◌, ◌≢◌, Bool, true, false, sum_by, Some, if◌then◌else◌}
use Rattle.auc_mail.specs.Mail.{Mail}
use Rattle.auc_letters.specs.declared.letter.Why.{Why}
use Rattle.auc_letters.specs.declared.out.Out.{Out}
use Rattle.auc_model.specs.declared.turn.End.{End}
use Rattle.auc_model.specs.World.{Phase, World}
use Rattle.auc_model.specs.Posting.{is_price}
use Rattle.auc_model.specs.Letters.{price_one, stop_one}
use Rattle.auc_model.specs.Channels.{Each}
use Rattle.auc_model.specs.Counts.{total}

-- the total weight of the waiting letters
abbrev pub weight : {T : Type 0} → (T → ℕ) → Mail T → ℕ
weight f m = sum_by (λ l. sum_by f l.waiting) m.lanes

abbrev pub one_if : Bool → ℕ
one_if true = 1
one_if false = 0

abbrev pub stopped_shards : Phase → World → ℕ
stopped_shards g w = total (λ s. one_if (w.has_stopped s)) g.shards

-- the number of Stop letters that are still in outboxes
abbrev pub stops_out : Phase → World → ℕ
stops_out g w = total (λ s. sum_by (λ o. stop_one o.letter) (w.person_out s)) g.shards

-- a Price is posted with a reserve, and every other letter with none
abbrev pub Reserved : Phase → Out → Type 0
Reserved g o = o.reserve ≡ (if is_price o.letter then 2 * g.persons else 0)

-- The mails have the usual numbers of nodes, few of which hold a Price or a Stop. No letter but a Price has met Full.
pub record Room (g : Phase) (w : World) : Type 0 where
  pub objects_nodes : w.objects_mail.nodes ≡ g.persons
  pub persons_nodes : w.persons_mail.nodes ≡ 4 * g.persons
  pub hub_nodes : w.hub_mail.nodes ≡ g.persons + 2 * g.shards
  pub few_prices : weight price_one w.persons_mail ≤ 2 * g.persons
  pub few_stops : weight stop_one w.hub_mail + stops_out g w ≤ stopped_shards g w
  pub person_reserves : (s : ℕ) → Each (Reserved g) (w.person_out s)
  pub object_reserves : (q : ℕ) → Each (Reserved g) (w.object_out q)
  pub no_mail : w.end ≢ Some (End.Stopped Why.Mail)
