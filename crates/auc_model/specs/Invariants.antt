-- The invariants of the world, which every turn keeps.
use Rattle.std.specs.Prelude.{ℕ, ◌<◌, ◌≡◌, pos, ◌≤ℤ◌, [], Option, Some, None, length}
use Rattle.auc_mail.specs.Mail.{Mail, IsOpen, IsWhole}
use Rattle.auc_letters.specs.declared.letter.Letter.{Letter}
use Rattle.auc_letters.specs.declared.letter.Why.{Why}
use Rattle.auc_letters.specs.declared.out.To.{To}
use Rattle.auc_letters.specs.declared.state.Held.{Held}
use Rattle.auc_graph.specs.Price.{IsPrice}
use Rattle.auc_model.specs.declared.turn.End.{End}
use Rattle.auc_model.specs.World.{Phase, World, senders}
use Rattle.auc_model.specs.Mails.{mail_of, box_of}
use Rattle.auc_model.specs.Bidding.{SomeoneStuck}
use Rattle.auc_model.specs.Start.{occurs, free_in}
use Rattle.auc_model.specs.Places.{InPlace}
use Rattle.auc_model.specs.Prices.{NeverFalls}
use Rattle.auc_model.specs.Channels.{Lost, Channels, channels, places, prices, AllRouted}
use Rattle.auc_model.specs.Counts.{Counts}
use Rattle.auc_model.specs.SlackBids.{SlackLetter, AllLetters, SlackHolders}

-- no guard was hit, and the phase ended for want of an arc only if some person has none
abbrev pub Sound : Phase → Option End → Type 0
Sound g None = Unit {0}
Sound g (Some End.All) = Unit {0}
Sound g (Some (End.Stopped Why.Bids)) = Unit {0}
Sound g (Some (End.Stopped Why.Ceiling)) = Unit {0}
Sound g (Some (End.Stopped Why.Stuck)) = SomeoneStuck g
Sound g (Some (End.Stopped Why.Posts)) = Unit {0}
Sound g (Some (End.Stopped Why.Mail)) = Unit {0}
Sound g (Some (End.Stopped Why.Trail)) = ⊥
Sound g (Some (End.Stopped Why.Fell)) = ⊥
Sound g (Some (End.Stopped Why.Stray)) = ⊥

-- the invariant of a world and the letters under way in it
pub record Inv (g : Phase) (w : World) (c : Channels) : Type 0 where
  pub routed : AllRouted g c
  pub never_falls : NeverFalls (prices g w c)
  pub in_place : InPlace (places g w c)
  pub price_range : (j : ℕ) → IsPrice (w.price j)
  pub copy_range : (s j : ℕ) → pos 0 ≤ℤ w.copy s j
  pub idle_is : (s i : ℕ) → occurs i (w.idle s) ≡ free_in g (w.state i) s i
  pub holder_range : (j : ℕ) (h : Held) → w.holder j ≡ Some h → h.person < g.persons
  pub counts : Counts g w c
  pub slack_letters : AllLetters (SlackLetter g w.price) c
  pub slack_holders : SlackHolders g w
  pub sound : Sound g w.end

-- letters are lost only at closed boxes
abbrev pub Open : World → Lost → Type 0
Open w lost = (t : To) (x : ℕ) → IsOpen (mail_of w t) (box_of t) → lost t x ≡ []

-- the mail has this number of boxes, and a lane for each box and sender
pub record Shaped (g : Phase) (m : Mail Letter) (boxes : ℕ) : Type 0 where
  pub boxes_are : length m.accepting ≡ boxes
  pub senders_are : m.senders ≡ senders g
  pub whole : IsWhole m

pub record Shapes (g : Phase) (w : World) : Type 0 where
  pub objects : Shaped g w.objects_mail g.shards
  pub persons : Shaped g w.persons_mail g.shards
  pub hub : Shaped g w.hub_mail 1

-- the invariant of a world, for some letters lost at closed boxes
pub record Kept (g : Phase) (w : World) : Type 0 where
  pub shapes : Shapes g w
  pub lost : Lost
  pub only_closed : Open w lost
  pub inv : Inv g w (channels g w lost)
