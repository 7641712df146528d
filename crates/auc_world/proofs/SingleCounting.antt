-- The end of a round with one shard of each kind: the hub counts.
use Rattle.std.proofs.Common.{ℕ, zero, suc, ◌+◌, ◌<◌, ◌≤◌, ◌≡◌, refl, arith, true, List, [], ◌∷◌, Option, Some, None, length, cond, sym, ap, subst, ◌∙◌}
use Rattle.std.specs.Prelude.{nat_lt, ◌==◌}
use Rattle.std.proofs.lemmas.Bool.{lt-ltb, ne_eqb}
use Rattle.auc_letters.specs.declared.letter.Letter.{Letter}
use Rattle.auc_mail.specs.Mail.{Mail, blank_lane}
use Rattle.auc_mail.specs.declared.call.Call.{Call}
use Rattle.auc_mail.specs.declared.call.Reply.{Reply}
use Rattle.auc_mail.specs.declared.call.Taken.{Taken}
use Rattle.auc_model.specs.Hub.{HubTakeTurn, hub_after}
use Rattle.auc_model.specs.Mails.{Takes, TakesNone}
use Rattle.auc_model.specs.Schedule.{Reached, Turned}
use Rattle.auc_model.specs.World.{Phase, World, first_end}
use Rattle.auc_model.specs.declared.turn.End.{End}
use Rattle.auc_model.specs.declared.turn.Turn.{Turn}
use Rattle.auc_model.specs.declared.turn.TurnReply.{TurnReply}
use Rattle.auc_model.proofs.Reached.{reached_turn}
use Rattle.auc_world.specs.SingleState.{SingleState, AreFirsts, Shows, end_at, lane, one_box}
use Rattle.auc_world.proofs.SingleMails.{gives_nothing, step_at, take_second}

-- the result of counting
pub record CountEnds (g : Phase) (allowed most : ℕ) (w : World) (t : SingleState) : Type 0 where
  pub world : World
  pub reply : TurnReply
  pub turned : Turned g w Turn.HubTake reply world
  pub reached : Reached g world
  pub shows : Shows g allowed most t 0 world
  pub end : world.end ≡ end_at t.count g.persons

end_open : (count persons : ℕ) → count < persons → None ≡ end_at count persons
end_open count persons l = sym (ap (λ b. cond b (Some End.All) None) (ne_eqb count persons (λ same. omega (arith, l, same))))

module _ (g : Phase) (one : g.shards ≡ 1) (allowed most : ℕ) (s : SingleState) (w : World) (reached : Reached g w) (still : w.end ≡ None) where
  -- no First letter waits
  module _ (shows : Shows g allowed most s 0 w) (unsold : s.count < g.persons) where
    no_letters : (ls : List Letter) → length ls ≡ 0 → ls ≡ []
    no_letters [] e = refl
    no_letters (l ∷ ls) e = absurd (omega (arith, e))

    nothing_waits : TakesNone w.hub_mail 0
    nothing_waits =
        let empty = no_letters shows.mails.waiting shows.mails.many in
        let mail : w.hub_mail ≡ one_box (g.persons + 2) most (lane 0 []) (lane shows.mails.counted []) = shows.mails.hub ∙ ap (λ (ls : List Letter). one_box (g.persons + 2) most blank_lane (lane shows.mails.counted ls)) empty in
        subst (λ (m : Mail Letter). TakesNone m 0) (sym mail) (gives_nothing (g.persons + 2) most 0 shows.mails.counted)

    pub counts_nothing : CountEnds g allowed most w s
    counts_nothing = record { world = w; reply = TurnReply.Nothing; turned = HubTakeTurn.no_letter nothing_waits refl refl; reached = reached; shows = shows; end = still ∙ end_open s.count g.persons unsold }

  -- one waits
  module _ (shows : Shows g allowed most s 1 w) where
    abbrev c : ℕ
    c = shows.mails.counted

    module _ (j : ℕ) (is : shows.mails.waiting ≡ Letter.First j ∷ []) where
      abbrev h1 : Mail Letter
      h1 = one_box (g.persons + 2) most blank_lane (lane (c + 1) [])

      takes : Takes w.hub_mail 0 1 (c + 1) (Letter.First j) h1
      takes =
          let mail : w.hub_mail ≡ one_box (g.persons + 2) most blank_lane (lane c (Letter.First j ∷ [])) = shows.mails.hub ∙ ap (λ (xs : List Letter). one_box (g.persons + 2) most blank_lane (lane c xs)) is in
          step_at w.hub_mail (one_box (g.persons + 2) most blank_lane (lane c (Letter.First j ∷ []))) (Call.Take 0) (Reply.Took (Taken.Letter 1 (c + 1) (Letter.First j))) h1 mail (take_second (g.persons + 2) most c [] blank_lane (Letter.First j))

      below : w.count < g.persons
      below = let a = shows.count in let b = shows.within in omega (arith, a, b)

      -- the world with one more counted
      abbrev w1 : World
      w1 = record w { hub_mail = h1; count = w.count + 1; end = cond ((w.count + 1) == g.persons) (first_end w.end End.All) w.end }

      is_counted : w1 ≡ hub_after g (Letter.First j) (record w { hub_mail = h1 })
      is_counted = let yes : nat_lt w.count g.persons ≡ true = lt-ltb w.count g.persons below in ap (λ b. cond b w1 (record w { hub_mail = h1 })) (sym yes)

      turn1 : Turned g w Turn.HubTake TurnReply.Moved w1
      turn1 = HubTakeTurn.takes 1 (c + 1) (Letter.First j) h1 takes refl is_counted

      ends_so : w1.end ≡ end_at s.count g.persons
      ends_so =
          let now : w.count + 1 ≡ s.count = shows.count in
          ap (λ (e : Option End). cond ((w.count + 1) == g.persons) (first_end e End.All) e) still ∙ ap (λ (n : ℕ). cond (n == g.persons) (Some End.All) None) now

      pub counts_first : CountEnds g allowed most w s
      counts_first = record {
        world = w1;
        reply = TurnReply.Moved;
        turned = turn1;
        reached = reached_turn g w w1 Turn.HubTake TurnReply.Moved reached turn1;
        shows = record {
          price = shows.price;
          holder = shows.holder;
          copy = shows.copy;
          idle = shows.idle;
          bids = shows.bids;
          going = shows.going;
          person_out = shows.person_out;
          object_out = shows.object_out;
          mails = record {
            taken = shows.mails.taken;
            objects = shows.mails.objects;
            few = shows.mails.few;
            heard = shows.mails.heard;
            letters = shows.mails.letters;
            persons = shows.mails.persons;
            tells = shows.mails.tells;
            room = shows.mails.room;
            few_notices = shows.mails.few_notices;
            counted = c + 1;
            waiting = [];
            hub = refl;
            are_firsts = tt;
            many = refl;
            few_firsts = (let a = shows.mails.few_firsts in let b = shows.mails.many in omega (arith, a, b));
          };
          count = (let a = shows.count in omega (arith, a));
          prices_are = shows.prices_are;
          holders_are = shows.holders_are;
          copies_are = shows.copies_are;
          within = shows.within;
        };
        end = ends_so;
      }

    by_first : (ls : List Letter) → shows.mails.waiting ≡ ls → AreFirsts ls → length ls ≡ 1 → CountEnds g allowed most w s
    by_first [] e all many = absurd (omega (arith, many))
    by_first (Letter.First j ∷ []) e all many = counts_first j e
    by_first (Letter.First j ∷ l ∷ ls) e all many = absurd (omega (arith, many))
    by_first (Letter.Award i j p ∷ ls) e all many = absurd all
    by_first (Letter.Refused i j p ∷ ls) e all many = absurd all
    by_first (Letter.Outbid i j p ∷ ls) e all many = absurd all
    by_first (Letter.Price j p ∷ ls) e all many = absurd all
    by_first (Letter.Bid i a j p ∷ ls) e all many = absurd all
    by_first (Letter.Stop y ∷ ls) e all many = absurd all

    pub counts_one : CountEnds g allowed most w s
    counts_one = by_first shows.mails.waiting refl shows.mails.are_firsts shows.mails.many

  pub counting : (firsts : ℕ) → firsts ≤ 1 → (firsts ≡ 0 → s.count < g.persons) → Shows g allowed most s firsts w → CountEnds g allowed most w s
  counting zero few unsold shows = counts_nothing shows (unsold refl)
  counting (suc zero) few unsold shows = counts_one shows
  counting (suc (suc n)) few unsold shows = absurd (omega (arith, few))
