-- The end of a round with one shard of each kind: the only person shard takes a letter, and the hub counts.
use Rattle.std.proofs.Common.{ℕ, ◌+◌, ◌*◌, ◌<◌, ◌≡◌, refl, arith, List, [], ◌∷◌, ◌++◌, None, length, get_or, set, cond, sym, ap, subst, ◌∙◌, length-set, append-nil}
use Rattle.std.specs.Prelude.{ℤ, pos}
use Rattle.std.proofs.lemmas.Bool.{eq-eqb, ne_eqb}
use Rattle.auc_letters.specs.declared.letter.Letter.{Letter}
use Rattle.auc_letters.specs.declared.state.PersonState.{PersonState}
use Rattle.auc_mail.specs.Mail.{Mail, blank_lane}
use Rattle.auc_mail.specs.declared.call.Call.{Call}
use Rattle.auc_mail.specs.declared.call.Reply.{Reply}
use Rattle.auc_mail.specs.declared.call.Taken.{Taken}
use Rattle.auc_model.specs.Hearing.{FitsLetter, PersonTakeTurn, Rises, after_letter}
use Rattle.auc_model.specs.Mails.{Takes}
use Rattle.auc_model.specs.Put.{put}
use Rattle.auc_model.specs.Schedule.{Reached, Turned}
use Rattle.auc_model.specs.World.{Phase, World}
use Rattle.auc_model.specs.declared.turn.Turn.{Turn}
use Rattle.auc_model.specs.declared.turn.TurnReply.{TurnReply}
use Rattle.auc_model.proofs.Reached.{hears_well, kept_reached, reached_turn}
use Rattle.auc_world.specs.declared.single_shard.notice.Notice.{Notice}
use Rattle.auc_world.specs.SingleState.{SingleState, AreNoticesOf, IsNoticeOf, Shows, freed_by, lane, nobody, one_box}
use Rattle.auc_world.proofs.SingleMails.{step_at, take_second}
use Rattle.auc_world.proofs.SingleSales.{set_shows}

-- the result of taking a letter
pub record HearEnds (g : Phase) (allowed most : ℕ) (w : World) (firsts : ℕ) (t : SingleState) : Type 0 where
  pub world : World
  pub reply : TurnReply
  pub turned : Turned g w (Turn.PersonTake 0) reply world
  pub reached : Reached g world
  pub shows : Shows g allowed most t firsts world
  pub still : world.end ≡ None

freed_nobody : (t : Notice) → t.freed ≡ nobody → freed_by t ≡ []
freed_nobody t e = ap (λ b. cond b [] (t.freed ∷ [])) (eq-eqb t.freed nobody e)

freed_one : (t : Notice) (i : ℕ) → t.freed ≡ i → i < nobody → freed_by t ≡ i ∷ []
freed_one t i e l = ap (λ b. cond b [] (t.freed ∷ [])) (ne_eqb t.freed nobody (λ same. omega (arith, e, l, same))) ∙ ap (λ k. k ∷ []) e

module _ (g : Phase) (one : g.shards ≡ 1) (small : g.persons < nobody) (allowed most : ℕ) (s : SingleState) (w : World) (reached : Reached g w) (firsts : ℕ) (shows : Shows g allowed most s firsts w) (still : w.end ≡ None) where
  known : 0 < g.shards
  known = omega (arith, one)

  abbrev k : ℕ
  k = shows.mails.heard

  -- a letter waits
  module _ (t : Notice) (ts : List Notice) (first : s.notices ≡ t ∷ ts) where
    -- the state after it
    abbrev after : SingleState
    after = record s { copies = set s.copies t.object t.price; notices = ts; idle = s.idle ++ freed_by t }

    module _ (l : Letter) (ls : List Letter) (letters : shows.mails.letters ≡ l ∷ ls) (is : IsNoticeOf t l) (are : AreNoticesOf ts ls) where
      abbrev p1 : Mail Letter
      p1 = one_box (4 * g.persons) most blank_lane (lane (k + 1) ls)

      takes : Takes w.persons_mail 0 1 (k + 1) l p1
      takes =
          let mail : w.persons_mail ≡ one_box (4 * g.persons) most blank_lane (lane k (l ∷ ls)) = shows.mails.persons ∙ ap (λ (xs : List Letter). one_box (4 * g.persons) most blank_lane (lane k xs)) letters in
          step_at w.persons_mail (one_box (4 * g.persons) most blank_lane (lane k (l ∷ ls))) (Call.Take 0) (Reply.Took (Taken.Letter 1 (k + 1) l)) p1 mail (take_second (4 * g.persons) most k ls blank_lane l)

      pub fits : FitsLetter g w 0 l × Rises w 0 l
      fits = hears_well g w reached.lawful (kept_reached g w reached) 0 1 (k + 1) l p1 takes

      abbrev w1 : World
      w1 = after_letter (record w { persons_mail = p1 }) 0 l

      turn1 : Turned g w (Turn.PersonTake 0) TurnReply.Moved w1
      turn1 = PersonTakeTurn.hears 1 (k + 1) l p1 known takes fits.0 fits.1 refl refl

      -- the world with these states of persons, these copies and these free persons
      abbrev behind : (ℕ → PersonState) → (ℕ → ℕ → ℤ) → (ℕ → List ℕ) → World
      behind state copy idle = record w { persons_mail = p1; state = state; copy = copy; idle = idle }

      shown : (state : ℕ → PersonState) (copy : ℕ → ℕ → ℤ) (idle : ℕ → List ℕ) → ((n : ℕ) → copy 0 n ≡ get_or (set s.copies t.object t.price) n (pos 0)) → idle 0 ≡ s.idle ++ freed_by t → Shows g allowed most after firsts (behind state copy idle)
      shown state copy idle copies idles = record {
        price = shows.price;
        holder = shows.holder;
        copy = copies;
        idle = idles;
        bids = shows.bids;
        going = shows.going;
        person_out = shows.person_out;
        object_out = shows.object_out;
        mails = (
            let many = ap length letters in
            record {
              taken = shows.mails.taken;
              objects = shows.mails.objects;
              few = shows.mails.few;
              heard = k + 1;
              letters = ls;
              persons = refl;
              tells = are;
              room = (let a = shows.mails.room in omega (arith, a, many));
              few_notices = (let a = shows.mails.few_notices in omega (arith, a, many));
              counted = shows.mails.counted;
              waiting = shows.mails.waiting;
              hub = shows.mails.hub;
              are_firsts = shows.mails.are_firsts;
              many = shows.mails.many;
              few_firsts = shows.mails.few_firsts;
            }
            );
        count = shows.count;
        prices_are = shows.prices_are;
        holders_are = shows.holders_are;
        copies_are = length-set s.copies t.object t.price ∙ shows.copies_are;
        within = shows.within;
      }

      copies_set : (j : ℕ) (p : ℤ) → j < g.objects → t.object ≡ j → t.price ≡ p → (n : ℕ) → put (w.copy 0) j p n ≡ get_or (set s.copies t.object t.price) n (pos 0)
      copies_set j p l object price n =
          let there : j < length s.copies = (let a = shows.copies_are in omega (arith, l, a)) in
          set_shows (w.copy 0) s.copies (pos 0) j p shows.copy there n ∙ (ap (λ (m : ℕ). get_or (set s.copies m p) n (pos 0)) (sym object) ∙ ap (λ (v : ℤ). get_or (set s.copies t.object v) n (pos 0)) (sym price))

    heard_by : (l : Letter) (ls : List Letter) → shows.mails.letters ≡ l ∷ ls → IsNoticeOf t l → AreNoticesOf ts ls → HearEnds g allowed most w firsts after
    heard_by (Letter.Award i j p) ls e is are =
        let l = Letter.Award i j p in
        let right = fits l ls e is are in
        record {
          world = w1 l ls e is are;
          reply = TurnReply.Moved;
          turned = turn1 l ls e is are;
          reached = reached_turn g w (w1 l ls e is are) (Turn.PersonTake 0) TurnReply.Moved reached (turn1 l ls e is are);
          shows = shown l ls e is are _ _ _ (copies_set l ls e is are j p right.0.object is.object is.price) (shows.idle ∙ (sym (append-nil s.idle) ∙ ap (λ (xs : List ℕ). s.idle ++ xs) (sym (freed_nobody t is.freed_is))));
          still = still;
        }
    heard_by (Letter.Refused i j p) ls e is are =
        let l = Letter.Refused i j p in
        let right = fits l ls e is are in
        record {
          world = w1 l ls e is are;
          reply = TurnReply.Moved;
          turned = turn1 l ls e is are;
          reached = reached_turn g w (w1 l ls e is are) (Turn.PersonTake 0) TurnReply.Moved reached (turn1 l ls e is are);
          shows = shown l ls e is are _ _ _ (copies_set l ls e is are j p right.0.object is.object is.price) (ap (λ (xs : List ℕ). xs ++ i ∷ []) shows.idle ∙ ap (λ (xs : List ℕ). s.idle ++ xs) (sym (freed_one t i is.freed_is (let a = right.0.person in omega (arith, a, small)))));
          still = still;
        }
    heard_by (Letter.Outbid i j p) ls e is are =
        let l = Letter.Outbid i j p in
        let right = fits l ls e is are in
        record {
          world = w1 l ls e is are;
          reply = TurnReply.Moved;
          turned = turn1 l ls e is are;
          reached = reached_turn g w (w1 l ls e is are) (Turn.PersonTake 0) TurnReply.Moved reached (turn1 l ls e is are);
          shows = shown l ls e is are _ _ _ (copies_set l ls e is are j p right.0.object is.object is.price) (ap (λ (xs : List ℕ). xs ++ i ∷ []) shows.idle ∙ ap (λ (xs : List ℕ). s.idle ++ xs) (sym (freed_one t i is.freed_is (let a = right.0.person in omega (arith, a, small)))));
          still = still;
        }
    heard_by (Letter.Price j p) ls e is are = absurd is
    heard_by (Letter.Bid i a j p) ls e is are = absurd is
    heard_by (Letter.First j) ls e is are = absurd is
    heard_by (Letter.Stop y) ls e is are = absurd is

    by_letters : (ls : List Letter) → shows.mails.letters ≡ ls → AreNoticesOf (t ∷ ts) ls → HearEnds g allowed most w firsts after
    by_letters [] e all = absurd all
    by_letters (l ∷ ls) e all = heard_by l ls e all.0 all.1

    pub hearing : HearEnds g allowed most w firsts after
    hearing = by_letters shows.mails.letters refl (subst (λ (us : List Notice). AreNoticesOf us shows.mails.letters) first shows.mails.tells)
