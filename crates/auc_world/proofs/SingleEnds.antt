-- A phase that is played by itself begins as a new world does, and what it comes to is what that world does.
use Rattle.std.proofs.Common.{ℕ, ◌+◌, ◌*◌, ◌<◌, ◌≤◌, ◌≡◌, ◌≢◌, zero, suc, false, List, [], ◌∷◌, Option, Some, None, get_or, set, length, refl, sym, subst, ap, ◌∙◌, arith}
use Rattle.std.specs.Prelude.{ℤ, pos, ◌≤ℤ◌, All, replicate}
use Rattle.std.proofs.lemmas.Bool.{eq-eqb, ne_eqb}
use Rattle.std.proofs.lemmas.List.{get_or-set_same, length-replicate, length-set}
use Rattle.std.proofs.lemmas.List.Elements.{All-from_get_or}
use Rattle.auc_claim.specs.declared.reason.Reason.{Reason}
use Rattle.auc_letters.specs.declared.letter.Letter.{Letter}
use Rattle.auc_letters.specs.declared.state.Held.{Held}
use Rattle.auc_letters.specs.Persons.{persons_of}
use Rattle.auc_graph.specs.Price.{IsPrice}
use Rattle.auc_mail.specs.Mail.{blank_lane, empty_mail}
use Rattle.auc_model.specs.Start.{Starts}
use Rattle.auc_model.specs.Schedule.{Reached}
use Rattle.auc_model.specs.World.{Phase, phase_of}
use Rattle.auc_model.specs.declared.turn.End.{End}
use Rattle.auc_model.proofs.Reached.{kept_reached, reached_start}
use Rattle.auc_model.proofs.Theorems.{of_every_schedule}
use Rattle.auc_persons.specs.Candidates.{Kept, Listed}
use Rattle.auc_persons.proofs.Shortlists.{kept_rises}
use Rattle.auc_answers.specs.declared.gathered.Gathered.{Gathered}
use Rattle.auc_answers.specs.Answers.{why_of}
use Rattle.auc_phases.specs.Limits.{nodes_or}
use Rattle.auc_phases.specs.Shards.{new_objects, new_persons, no_objects, no_persons}
use Rattle.auc_answers.proofs.Replicated.{replicate_default}
use Rattle.auc_world.specs.declared.solving.Outcome.{Outcome}
use Rattle.auc_world.specs.SingleState.{SingleState, MailsTell, lane, one_box}
use Rattle.auc_world.specs.SinglePhase.{Given, IsGiven, IsGoing, IsStopped, begun}
use Rattle.auc_machine.specs.Lists.{MayKeep}
use Rattle.auc_machine.specs.Making.{IsMade}
use Rattle.auc_machine.specs.Parts.{Parts, world_of}
use Rattle.auc_world.specs.Phases.{ComesOf}
use Rattle.auc_machine.specs.Rounds.{Rounds}
use Rattle.auc_world.proofs.SinglePhase.{law, price_fit}
use Rattle.auc_machine.proofs.Made.{copy_is, made_starts, price_is}

-- ---- a new world

new_box : (shards nodes most : ℕ) → shards ≡ 1 → empty_mail {T = Letter} shards (2 * shards + 1) nodes most ≡ one_box nodes most (lane 0 []) blank_lane
new_box shards nodes most one = rw one refl

new_hub : (shards nodes most : ℕ) → shards ≡ 1 → empty_mail {T = Letter} 1 (2 * shards + 1) nodes most ≡ one_box nodes most blank_lane (lane 0 [])
new_hub shards nodes most one = rw one refl

module _ (x : Given) (is : IsGiven x) where
  abbrev shards : ℕ
  shards = x.limits.shards

  abbrev n : ℕ
  n = length x.table.rows

  -- what the world would be made of
  abbrev parts : Parts
  parts = record {
    table = x.table;
    shards = shards;
    eps = x.eps;
    persons = new_persons shards n x.limits.bids x.prices 0 ∷ [];
    objects = new_objects shards n x.prices 0 ∷ [];
    outboxes = [] ∷ [] ∷ [];
    stopped = replicate shards false;
    mails = record {
      objects = empty_mail shards (2 * shards + 1) (nodes_or x.limits.nodes n) x.limits.posts;
      persons = empty_mail shards (2 * shards + 1) (nodes_or x.limits.nodes (4 * n)) x.limits.posts;
      hub = empty_mail 1 (2 * shards + 1) (nodes_or x.limits.nodes (n + 2 * shards)) x.limits.posts;
    };
    hub = record { count = 0; end = None };
  }

  first_only : (s : ℕ) → s < shards → s ≡ 0
  first_only s l = let one = is.single_shard.one in omega (arith, one, l)

  is_made : IsMade x.table x.limits x.prices x.eps parts
  is_made = record {
    table = refl;
    shards = refl;
    eps_is = refl;
    persons_are = sym is.single_shard.one;
    each_persons = λ s l. subst (λ (k : ℕ). get_or parts.persons k no_persons ≡ new_persons shards n x.limits.bids x.prices k) (sym (first_only s l)) refl;
    objects_are = sym is.single_shard.one;
    each_objects = λ q l. subst (λ (k : ℕ). get_or parts.objects k no_objects ≡ new_objects shards n x.prices k) (sym (first_only q l)) refl;
    outboxes_are = rw is.single_shard.one refl;
    each_outbox = All-from_get_or (λ o. o ≡ []) parts.outboxes [] empty;
    stopped_are = refl;
    objects_mail = refl;
    persons_mail = refl;
    hub_mail = refl;
    count = refl;
    end = refl;
  }
    where
      empty : (k : ℕ) → k < 2 → get_or parts.outboxes k [] ≡ []
      empty zero l = refl
      empty (suc zero) l = refl
      empty (suc (suc k)) l = absurd (omega (arith, l))

  starts : Starts (phase_of x.table shards x.eps) (world_of parts)
  starts = made_starts x.table x.limits x.prices x.eps parts is_made is.table is.limits is.prices is.eps

  starts_one : Starts (phase_of x.table 1 x.eps) (world_of parts)
  starts_one = subst (λ (k : ℕ). Starts (phase_of x.table k x.eps) (world_of parts)) is.single_shard.one starts

  mails_tell : MailsTell (phase_of x.table 1 x.eps) x.limits.bids x.limits.posts (begun x) 0 (world_of parts)
  mails_tell = record {
    taken = 0;
    objects = new_box shards (nodes_or x.limits.nodes n) x.limits.posts is.single_shard.one ∙ ap (λ k. one_box (nodes_or k n) x.limits.posts (lane 0 []) blank_lane) is.single_shard.usual;
    few = omega arith;
    heard = 0;
    letters = [];
    persons = new_box shards (nodes_or x.limits.nodes (4 * n)) x.limits.posts is.single_shard.one ∙ ap (λ k. one_box (nodes_or k (4 * n)) x.limits.posts (lane 0 []) blank_lane) is.single_shard.usual;
    tells = tt;
    room = omega arith;
    few_notices = omega arith;
    counted = 0;
    waiting = [];
    hub = new_hub shards (nodes_or x.limits.nodes (n + 2 * shards)) x.limits.posts is.single_shard.one ∙ ap (λ k. one_box (nodes_or k (n + 2 * shards)) x.limits.posts blank_lane (lane 0 [])) is.single_shard.usual
        ∙ ap (λ k. one_box (n + 2 * k) x.limits.posts blank_lane (lane 0 [])) is.single_shard.one;
    are_firsts = tt;
    many = refl;
    few_firsts = omega arith;
  }

  some_persons : 0 ≢ n
  some_persons e = let some = is.table.some in omega (arith, e, some)

  pub begins : IsGoing x (begun x)
  begins = record {
    given = is;
    parts = parts;
    made = is_made;
    going = record {
      rounds = 0;
      world = world_of parts;
      led = refl;
      reached = reached_start (phase_of x.table 1 x.eps) (world_of parts) (law x is) starts_one;
      shows = record {
        price = price_is x.table x.limits x.prices x.eps parts is_made is.table is.limits is.prices is.eps;
        holder = λ j. starts.nobody_holds j ∙ sym (replicate_default (length x.prices) j None);
        copy = λ j. copy_is x.table x.limits x.prices x.eps parts is_made is.table is.limits is.prices is.eps 0 j is.limits.some;
        idle = ap (λ k. persons_of 0 k n) is.single_shard.one;
        bids = refl;
        going = starts.none_stopped 0;
        person_out = starts.no_person_out 0;
        object_out = starts.no_object_out 0;
        mails = mails_tell;
        count = refl;
        prices_are = is.prices.each;
        holders_are = length-replicate (length x.prices) None ∙ is.prices.each;
        copies_are = is.prices.each;
        within = omega arith;
      };
      end = rw (ne_eqb 0 n some_persons) refl;
    };
    persons = refl;
  }

-- ---- what a phase comes to that is done

module _ (x : Given) (s : SingleState) (h : IsGoing x s) (done : s.persons ≤ s.count) where
  abbrev g : Phase
  g = phase_of x.table 1 x.eps

  everyone : s.count ≡ length x.table.rows
  everyone = let all = h.persons in let within = h.going.shows.within in omega (arith, all, within, done)

  ended : h.going.world.end ≡ Some End.All
  ended = h.going.end ∙ rw (eq-eqb s.count (length x.table.rows) everyone) refl

  pub comes : (gathered : Gathered) → gathered.holders.items ≡ s.holders → gathered.prices.items ≡ s.prices → ComesOf x.table x.limits x.prices x.eps (Outcome.Sold gathered)
  comes gathered holders prices = record {
    world = h.going.world;
    left = record {
      played = record {
        parts = h.parts;
        made = h.made;
        rounds = h.going.rounds;
        played = subst (λ (k : ℕ). Rounds (phase_of x.table k x.eps) (world_of h.parts) h.going.rounds h.going.world) (sym h.given.single_shard.one) h.going.led;
        ended = λ none. (let both : ◌≡◌ {A = Option End} None (Some End.All) = sym none ∙ ended in cc);
      };
      reached = subst (λ (k : ℕ). Reached (phase_of x.table k x.eps) h.going.world) (sym h.given.single_shard.one) h.going.reached;
      sales = record {
        holders_are = ap (λ (hs : List (Option Held)). length hs) holders ∙ h.going.shows.holders_are;
        prices_are = ap (λ (ps : List ℤ). length ps) prices ∙ h.going.shows.prices_are;
        holder_is = λ j. ap (λ (hs : List (Option Held)). get_or hs j None) holders ∙ sym (h.going.shows.holder j);
        price_is = λ j. ap (λ (ps : List ℤ). get_or ps j (pos 0)) prices ∙ sym (h.going.shows.price j);
      };
      within = subst (All IsPrice) (sym prices) (All-from_get_or IsPrice s.prices (pos 0) (λ j l. price_fit x h.given s h j));
    };
    ended = ended;
  }

  -- no copy is above its price
  pub left : (lists : List (List Listed)) (list : List Listed) (prices : List ℤ) → length lists ≡ x.limits.shards → Kept x.table s.copies list → prices ≡ s.prices → MayKeep x.table x.limits.shards prices (set lists 0 list)
  left lists list prices many kept are = record {
    many = length-set lists 0 list ∙ many;
    each = All-from_get_or (Kept x.table prices) (set lists 0 list) [] (λ i l. (
        let one = h.given.single_shard.one in
        let only : i ≡ 0 = omega (arith, one, many, length-set lists 0 list, l) in
        let there : 0 < length lists = omega (arith, one, many) in
        let low : (j : ℕ) → get_or s.copies j (pos 0) ≤ℤ get_or s.prices j (pos 0) = λ j. subst (λ (p : ℤ). get_or s.copies j (pos 0) ≤ℤ p) (h.going.shows.price j) (subst (λ (c : ℤ). c ≤ℤ h.going.world.price j) (h.going.shows.copy j) ((of_every_schedule g h.going.world h.going.reached).copies_low 0 j)) in
        let now : Kept x.table prices list = subst (λ (ps : List ℤ). Kept x.table ps list) (sym are) (kept_rises x.table s.copies s.prices list low kept) in
        subst (λ (k : ℕ). Kept x.table prices (get_or (set lists 0 list) k [])) (sym only) (subst (Kept x.table prices) (sym (get_or-set_same lists 0 list [] there)) now)));
  }

-- ---- what a phase comes to that a limit has stopped

pub comes_to_stop : (x : Given) (s : SingleState) (reason : Reason) → IsStopped x s (why_of reason) → (gathered : Gathered) → gathered.holders.items ≡ s.holders → gathered.prices.items ≡ s.prices → ComesOf x.table x.limits x.prices x.eps (Outcome.Stopped reason gathered)
comes_to_stop x s reason h gathered holders prices =
    let one = h.given.single_shard.one in
    let g : Phase = phase_of x.table 1 x.eps in
    let range : (j : ℕ) → IsPrice (get_or s.prices j (pos 0)) = λ j. subst IsPrice (h.ends.price j) ((kept_reached g h.ends.world h.ends.reached).inv.price_range j) in
    record {
      world = h.ends.world;
      left = record {
        played = record {
          parts = h.parts;
          made = h.made;
          rounds = h.ends.rounds;
          played = subst (λ (k : ℕ). Rounds (phase_of x.table k x.eps) (world_of h.parts) h.ends.rounds h.ends.world) (sym one) h.ends.led;
          ended = λ none. (let both : ◌≡◌ {A = Option End} None (Some (End.Stopped (why_of reason))) = sym none ∙ h.ends.end in cc);
        };
        reached = subst (λ (k : ℕ). Reached (phase_of x.table k x.eps) h.ends.world) (sym one) h.ends.reached;
        sales = record {
          holders_are = ap (λ (hs : List (Option Held)). length hs) holders ∙ h.holders_are;
          prices_are = ap (λ (ps : List ℤ). length ps) prices ∙ h.prices_are;
          holder_is = λ j. ap (λ (hs : List (Option Held)). get_or hs j None) holders ∙ sym (h.ends.holder j);
          price_is = λ j. ap (λ (ps : List ℤ). get_or ps j (pos 0)) prices ∙ sym (h.ends.price j);
        };
        within = subst (All IsPrice) (sym prices) (All-from_get_or IsPrice s.prices (pos 0) (λ j l. range j));
      };
      ended = h.ends.end;
    }
