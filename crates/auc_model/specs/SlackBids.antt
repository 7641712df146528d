-- Epsilon-complementary slackness of bids under way, at their amounts, and of holders, at the true prices.
use Rattle.std.specs.Prelude.{ℕ, ◌≡◌, ℤ, Some, Contains}
use Rattle.auc_graph.specs.declared.rows.RowArc.{RowArc}
use Rattle.auc_letters.specs.declared.letter.Letter.{Letter}
use Rattle.auc_letters.specs.declared.out.To.{To}
use Rattle.auc_letters.specs.declared.state.Held.{Held}
use Rattle.auc_model.specs.Put.{put}
use Rattle.auc_model.specs.World.{Phase, World}
use Rattle.auc_model.specs.Slack.{SlackRight}
use Rattle.auc_model.specs.Channels.{Channels, Each}

-- person i's arc at that place leads to j, and satisfies epsilon-complementary slackness if this amount is the price of
-- j
pub record SlackAt (g : Phase) (p : ℕ → ℤ) (i place j : ℕ) (amount : ℤ) : Type 0 where
  pub arc : RowArc
  pub listed : Contains (g.row i) arc
  pub leads : arc.object ≡ j
  pub stands : arc.arc ≡ place
  pub slack : SlackRight g (put p j amount) i arc

-- if the letter is a bid, its arc satisfies epsilon-complementary slackness at its amount
abbrev pub SlackLetter : Phase → (ℕ → ℤ) → Letter → Type 0
SlackLetter g p (Letter.Bid i a j amount) = SlackAt g p i a j amount
SlackLetter g p (Letter.Award i j q) = Unit {0}
SlackLetter g p (Letter.Refused i j q) = Unit {0}
SlackLetter g p (Letter.Outbid i j q) = Unit {0}
SlackLetter g p (Letter.Price j q) = Unit {0}
SlackLetter g p (Letter.First j) = Unit {0}
SlackLetter g p (Letter.Stop y) = Unit {0}

-- each letter under way has this property
abbrev pub AllLetters : (Letter → Type 0) → Channels → Type 0
AllLetters P c = (t : To) (x : ℕ) → Each P (c t x)

-- each holder's arc satisfies epsilon-complementary slackness at the true prices
abbrev pub SlackHolders : Phase → World → Type 0
SlackHolders g w = (j : ℕ) (h : Held) → w.holder j ≡ Some h → SlackAt g w.price h.person h.arc j (w.price j)

-- h has an arc to j, which is in its person's row and satisfies epsilon-complementary slackness at the prices p
pub record HasSlackArc (g : Phase) (p : ℕ → ℤ) (h : Held) (j : ℕ) : Type 0 where
  pub arc : RowArc
  pub listed : Contains (g.row h.person) arc
  pub leads : arc.object ≡ j
  pub place : arc.arc ≡ h.arc
  pub slack : SlackRight g p h.person arc
