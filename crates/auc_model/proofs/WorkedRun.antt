-- A worked run: one person bids on the only object and gets the award, and the hub ends the phase.
use Rattle.std.proofs.Common.{ℕ, pos, zero, suc, ◌≤◌, ◌≤ℤ◌, ◌≡◌, refl, arith, List, [], ◌∷◌, Some, inr}
use Rattle.std.specs.Prelude.{All}
use Rattle.std.proofs.lemmas.Int.{ints}
use Rattle.auc_graph.specs.Bid.{IsBid, value}
use Rattle.auc_graph.specs.declared.rows.RowArc.{RowArc}
use Rattle.auc_letters.specs.Award.{bid_of, bid_out}
use Rattle.auc_graph.specs.Price.{IsPrice}
use Rattle.auc_letters.specs.Routing.{to_hub, to_person}
use Rattle.auc_letters.specs.declared.letter.Letter.{Letter}
use Rattle.auc_letters.specs.declared.out.To.{To}
use Rattle.auc_letters.specs.declared.state.Held.{Held}
use Rattle.auc_letters.specs.declared.state.PersonState.{PersonState}
use Rattle.auc_mail.specs.Mail.{Mail, empty_mail, lane_behind, lane_of, with_lane}
use Rattle.auc_model.specs.Bidding.{BidTurn, after_bid}
use Rattle.auc_model.specs.Hearing.{PersonTakeTurn, held_after}
use Rattle.auc_model.specs.Hub.{HubTakeTurn, hub_after}
use Rattle.auc_model.specs.Mails.{ObjectShard, PersonShard, with_mail, with_outbox}
use Rattle.auc_model.specs.Posting.{PostTurn}
use Rattle.auc_model.specs.Schedule.{Schedule, Turned}
use Rattle.auc_model.specs.Selling.{ObjectTakeTurn, after_answer}
use Rattle.auc_model.specs.World.{World}
use Rattle.auc_model.specs.declared.turn.End.{End}
use Rattle.auc_model.specs.declared.turn.Turn.{Turn}
use Rattle.auc_model.specs.declared.turn.TurnReply.{TurnReply}
use Rattle.auc_model.proofs.Example.{beginning, one_arc, small}

abbrev pub turns : List Turn
turns = Turn.Bid 0 ∷ Turn.PersonPost 0 ∷ Turn.ObjectTake 0 ∷ Turn.ObjectPost 0 ∷ Turn.ObjectPost 0 ∷ Turn.PersonTake 0 ∷ Turn.HubTake ∷ []

-- what holds of the one arc holds of each
of_one : (P : RowArc → Type 0) → P one_arc → All P (one_arc ∷ [])
of_one P p zero d l = p
of_one P p (suc k) d l = absurd (omega arith)

-- The person has no arc to another object and the spread is 0, so the bid is eps.
bid_is : IsBid (pos 2) (pos 0) (pos 1) (λ j. pos 0) (one_arc ∷ []) one_arc (pos 1)
bid_is = record {
  best = record {
    listed = (0, omega arith, refl);
    least = of_one (λ b. value (pos 2) (λ j. pos 0) one_arc ≤ℤ value (pos 2) (λ j. pos 0) b) (omega (arith, ints));
    lowest = of_one (λ b. value (pos 2) (λ j. pos 0) one_arc ≡ value (pos 2) (λ j. pos 0) b → 0 ≤ b.object) (λ e. omega arith);
    earliest = of_one (λ b. value (pos 2) (λ j. pos 0) one_arc ≡ value (pos 2) (λ j. pos 0) b → 0 ≡ b.object → 0 ≤ b.arc) (λ e f. omega arith);
  };
  amount_is = inr (of_one (λ b. b.object ≡ 0) refl, refl);
}

is_price : IsPrice (pos 1)
is_price = record { low = omega (arith, ints); high = omega (arith, ints) }

abbrev bid : Letter
bid = Letter.Bid 0 0 0 (pos 1)

abbrev award : Letter
award = Letter.Award 0 0 (pos 1)

abbrev holder : Held
holder = record { person = 0; arc = 0 }

-- the mails, when a letter was posted and when it was taken
abbrev posted : Mail Letter → ℕ → Letter → Mail Letter
posted m s l = with_lane m 0 s (lane_behind (lane_of m 0 s) l)

abbrev taken : Mail Letter → ℕ → Mail Letter
taken m s = with_lane m 0 s (record { taken = 1; waiting = [] })

abbrev objects : Mail Letter
objects = posted (empty_mail 1 3 1 9) 0 bid

abbrev persons : Mail Letter
persons = posted (empty_mail 1 3 4 9) 1 award

abbrev hub : Mail Letter
hub = posted (empty_mail 1 3 3 9) 1 (Letter.First 0)

abbrev has_bid : World
has_bid = after_bid small beginning 0 0 [] one_arc (pos 1)

abbrev has_posted : World
has_posted = with_outbox (with_mail has_bid (To.Object 0) objects) (PersonShard 0) []

abbrev has_sold : World
has_sold = after_answer small has_posted 0 (taken objects 0) (bid_of 0 0 0 (pos 1))

abbrev has_awarded : World
has_awarded = with_outbox (with_mail has_sold (To.Person 0) persons) (ObjectShard 0) (to_hub (Letter.First 0) ∷ [])

abbrev has_counted : World
has_counted = with_outbox (with_mail has_awarded To.Hub hub) (ObjectShard 0) []

abbrev has_heard : World
has_heard = held_after (record has_counted { persons_mail = taken persons 1 }) 0 0 0 (pos 1)

abbrev pub finished : World
finished = hub_after small (Letter.First 0) (record has_heard { hub_mail = taken hub 1 })

bids : Turned small beginning (Turn.Bid 0) TurnReply.Moved has_bid
bids = BidTurn.bids 0 [] one_arc (pos 1) (record { known = omega arith; empty = refl; going = refl; first = refl }) (λ e. omega (arith, e)) bid_is (omega (arith, ints)) refl refl

posts : Turned small has_bid (Turn.PersonPost 0) TurnReply.Moved has_posted
posts = PostTurn.posts (bid_out small.shards (bid_of 0 one_arc.arc one_arc.object (pos 1))) [] 1 objects (record { known = omega arith; first = refl }) (record { lane = (omega arith, omega arith); accepts = refl; left = omega arith; free = omega arith; number = refl; next = refl }) refl refl

sells : Turned small has_posted (Turn.ObjectTake 0) TurnReply.Moved has_sold
sells = ObjectTakeTurn.answers_bid 0 1 (bid_of 0 0 0 (pos 1)) (taken objects 0) (omega arith) refl (record { box = omega arith; sender = omega arith; number = refl; rest = []; first = refl; next = refl }) (record { object = omega arith; shard = refl; price = is_price }) refl refl

awards_him : Turned small has_sold (Turn.ObjectPost 0) TurnReply.Moved has_awarded
awards_him = PostTurn.posts (to_person 1 0 award) (to_hub (Letter.First 0) ∷ []) 1 persons (record { known = omega arith; first = refl }) (record { lane = (omega arith, omega arith); accepts = refl; left = omega arith; free = omega arith; number = refl; next = refl }) refl refl

tells_hub : Turned small has_awarded (Turn.ObjectPost 0) TurnReply.Moved has_counted
tells_hub = PostTurn.posts (to_hub (Letter.First 0)) [] 1 hub (record { known = omega arith; first = refl }) (record { lane = (omega arith, omega arith); accepts = refl; left = omega arith; free = omega arith; number = refl; next = refl }) refl refl

hears : Turned small has_counted (Turn.PersonTake 0) TurnReply.Moved has_heard
hears = PersonTakeTurn.hears 1 1 award (taken persons 1) (omega arith) (record { box = omega arith; sender = omega arith; number = refl; rest = []; first = refl; next = refl }) (record { person = omega arith; shard = refl; object = omega arith; price = is_price; state = refl }) (omega (arith, ints)) refl refl

ends : Turned small has_heard Turn.HubTake TurnReply.Moved finished
ends = HubTakeTurn.takes 1 1 (Letter.First 0) (taken hub 1) (record { box = omega arith; sender = omega arith; number = refl; rest = []; first = refl; next = refl }) refl refl

pub run : Schedule small beginning turns finished
run =
    record {
      mid = has_bid;
      reply = TurnReply.Moved;
      turned = bids;
      rest = record {
        mid = has_posted;
        reply = TurnReply.Moved;
        turned = posts;
        rest = record {
          mid = has_sold;
          reply = TurnReply.Moved;
          turned = sells;
          rest = record {
            mid = has_awarded;
            reply = TurnReply.Moved;
            turned = awards_him;
            rest = record {
              mid = has_counted;
              reply = TurnReply.Moved;
              turned = tells_hub;
              rest = record {
                mid = has_heard;
                reply = TurnReply.Moved;
                turned = hears;
                rest = record { mid = finished; reply = TurnReply.Moved; turned = ends; rest = refl };
              };
            };
          };
        };
      };
    }

pub ended_all : finished.end ≡ Some End.All
ended_all = refl

pub he_holds : (finished.holder 0 ≡ Some holder) × (finished.price 0 ≡ pos 1) × (finished.state 0 ≡ PersonState.Holds 0) × (finished.copy 0 0 ≡ pos 1) × (finished.count ≡ 1)
he_holds = (refl, refl, refl, refl, refl)
