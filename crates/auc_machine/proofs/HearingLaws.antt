-- Turns by which a shard of the persons takes a letter.
use Rattle.std.proofs.Common.{ℕ, ◌%◌, ◌<◌, ◌≡◌, List, length, get_or, set, refl, ap, sym, ◌∙◌, subst, arith}
use Rattle.std.specs.Prelude.{ℤ, Ok, Err}
use Rattle.auc_letters.specs.declared.letter.Letter.{Letter}
use Rattle.auc_letters.specs.declared.letter.Why.{Why}
use Rattle.auc_letters.specs.declared.state.PersonState.{PersonState}
use Rattle.auc_mail.specs.Mail.{Mail}
use Rattle.auc_persons.specs.declared.bidding.PersonFault.{PersonFault}
use Rattle.auc_persons.specs.Persons.{OnLetter, Owns, Persons, FitsAnswer as Fitting, state_of}
use Rattle.auc_model.specs.Hearing.{Falls, FitsAnswer, FitsLetter, PersonTakeTurn, Rises, after_letter, falls, hears, strays}
use Rattle.auc_model.specs.World.{ended}
use Rattle.auc_model.specs.declared.turn.End.{End}
use Rattle.auc_model.specs.declared.turn.TurnReply.{TurnReply}
use Rattle.auc_phases.specs.Reasons.{reason_for}
use Rattle.auc_phases.specs.Hub.{ending}
use Rattle.auc_phases.specs.Shards.{IsPersonShard, no_persons}
use Rattle.auc_machine.specs.Mails.{Letters, TakesOne}
use Rattle.auc_machine.specs.Parts.{AreParts, Parts, persons_at, phase, world_of}
use Rattle.auc_machine.proofs.BiddingLaws.{same_persons}
use Rattle.auc_machine.proofs.WorldOf.{letters_of, own_number, seen_freed, seen_held, seen_price, with_letters, with_mails}

module _ (p : Parts) (s : ℕ) (there : s < length p.persons) (is : IsPersonShard p.table p.shards s (persons_at p s)) where
  -- an answer fits the shard where it fits the world
  fits_to : (i j : ℕ) (q : ℤ) (wanted : PersonState) → Fitting (persons_at p s) i j q wanted → FitsAnswer (phase p) (world_of p) s i j q wanted
  fits_to i j q wanted h =
      let own = own_number p s there is i (record { known = h.0; own = h.1 }) in
      record {
        person = subst (λ n. i < n) (sym is.fits.persons) h.0;
        shard = own;
        object = subst (λ n. j < n) (sym is.fits.objects) h.2;
        price = h.3;
        state = ap (λ (n : ℕ). state_of (get_or p.persons n no_persons) i) own ∙ h.4;
      }

  fits_from : (i j : ℕ) (q : ℤ) (wanted : PersonState) → FitsAnswer (phase p) (world_of p) s i j q wanted → Fitting (persons_at p s) i j q wanted
  fits_from i j q wanted h = (
    subst (λ n. i < n) is.fits.persons h.person,
    subst (λ n. i % n ≡ (persons_at p s).shard) (sym is.of) (h.shard ∙ sym is.number),
    subst (λ n. j < n) is.fits.objects h.object,
    h.price,
    ap (λ (n : ℕ). state_of (get_or p.persons n no_persons) i) (sym h.shard) ∙ h.state,
  )

  owner : (i j : ℕ) (q : ℤ) (wanted : PersonState) → Fitting (persons_at p s) i j q wanted → Owns (persons_at p s) i
  owner i j q wanted h = record { known = h.0; own = h.1 }

  -- a letter that is taken from the mail, which becomes m, and leaves the shard as n
  record IsHeard (l : Letter) (m : Mail Letter) (n : Persons) : Type 0 where
    fits : FitsLetter (phase p) (world_of p) s l
    rises : Rises (world_of p) s l
    world : world_of (record p { mails = record p.mails { persons = m }; persons = set p.persons s n }) ≡ after_letter (record (world_of p) { persons_mail = m }) s l

  heard : (l : Letter) (m : Mail Letter) (n : Persons) (u : Unit {0}) → OnLetter (persons_at p s) l (Ok u) n → IsHeard l m n
  heard (Letter.Award i j q) m n u h = record {
    fits = fits_to i j q (PersonState.Waits j) h.0;
    rises = h.1;
    world = ap (λ (y : Persons). world_of (record p { mails = record p.mails { persons = m }; persons = set p.persons s y })) h.2 ∙ seen_held (record p { mails = record p.mails { persons = m } }) s there is i j q (owner i j q (PersonState.Waits j) h.0) h.0.2;
  }
  heard (Letter.Refused i j q) m n u h = record {
    fits = fits_to i j q (PersonState.Waits j) h.0;
    rises = h.1;
    world = ap (λ (y : Persons). world_of (record p { mails = record p.mails { persons = m }; persons = set p.persons s y })) h.2 ∙ seen_freed (record p { mails = record p.mails { persons = m } }) s there is i j q (owner i j q (PersonState.Waits j) h.0) h.0.2;
  }
  heard (Letter.Outbid i j q) m n u h = record {
    fits = fits_to i j q (PersonState.Holds j) h.0;
    rises = h.1;
    world = ap (λ (y : Persons). world_of (record p { mails = record p.mails { persons = m }; persons = set p.persons s y })) h.2 ∙ seen_freed (record p { mails = record p.mails { persons = m } }) s there is i j q (owner i j q (PersonState.Holds j) h.0) h.0.2;
  }
  heard (Letter.Price j q) m n u h = record {
    fits = (subst (λ k. j < k) (sym is.fits.objects) h.0.0, h.0.1);
    rises = h.1;
    world = ap (λ (y : Persons). world_of (record p { mails = record p.mails { persons = m }; persons = set p.persons s y })) h.2 ∙ seen_price (record p { mails = record p.mails { persons = m } }) s there is j q h.0.0;
  }
  heard (Letter.Bid i a j q) m n u h = absurd (let e = h.0 in cc)
  heard (Letter.First j) m n u h = absurd (let e = h.0 in cc)
  heard (Letter.Stop y) m n u h = absurd (let e = h.0 in cc)

  -- a letter that doesn't fit
  strayed : (l : Letter) (n : Persons) → OnLetter (persons_at p s) l (Err PersonFault.Stray) n → (FitsLetter (phase p) (world_of p) s l → ⊥) × (n ≡ persons_at p s)
  strayed (Letter.Award i j q) n h = ((λ f. h.0 (fits_from i j q (PersonState.Waits j) f)), h.1)
  strayed (Letter.Refused i j q) n h = ((λ f. h.0 (fits_from i j q (PersonState.Waits j) f)), h.1)
  strayed (Letter.Outbid i j q) n h = ((λ f. h.0 (fits_from i j q (PersonState.Holds j) f)), h.1)
  strayed (Letter.Price j q) n h = ((λ f. h.0 (subst (λ k. j < k) is.fits.objects f.0, f.1)), h.1)
  strayed (Letter.Bid i a j q) n h = ((λ f. f), h.1)
  strayed (Letter.First j) n h = ((λ f. f), h.1)
  strayed (Letter.Stop y) n h = ((λ f. f), h.1)

  -- a letter whose price is below the copy
  record HasFallen (l : Letter) (n : Persons) : Type 0 where
    fits : FitsLetter (phase p) (world_of p) s l
    falls_below : Falls (world_of p) s l
    same : n ≡ persons_at p s

  fell : (l : Letter) (n : Persons) → OnLetter (persons_at p s) l (Err PersonFault.Fell) n → HasFallen l n
  fell (Letter.Award i j q) n h = record { fits = fits_to i j q (PersonState.Waits j) h.0; falls_below = h.1; same = h.2 }
  fell (Letter.Refused i j q) n h = record { fits = fits_to i j q (PersonState.Waits j) h.0; falls_below = h.1; same = h.2 }
  fell (Letter.Outbid i j q) n h = record { fits = fits_to i j q (PersonState.Holds j) h.0; falls_below = h.1; same = h.2 }
  fell (Letter.Price j q) n h = record { fits = (subst (λ k. j < k) (sym is.fits.objects) h.0.0, h.0.1); falls_below = h.1; same = h.2 }
  fell (Letter.Bid i a j q) n h = absurd (let e = h.0 in cc)
  fell (Letter.First j) n h = absurd (let e = h.0 in cc)
  fell (Letter.Stop y) n h = absurd (let e = h.0 in cc)

module _ (p : Parts) (s : ℕ) (are : AreParts p) (known : s < p.shards) where
  there_too : s < length p.persons
  there_too = omega (arith, are.persons_are)

  module _ (after : Letters) (v : Parts) (l : Letter) (takes : TakesOne p.mails.persons s l after.mails.persons) (rest : after ≡ record (letters_of p) { mails = record p.mails { persons = after.mails.persons } }) where
    abbrev m : Mail Letter
    m = after.mails.persons

    abbrev t : Parts
    t = with_letters p after

    e1 : t ≡ record p { mails = record p.mails { persons = m } }
    e1 = with_mails p after (record p.mails { persons = m }) rest

    pub letter_heard : (u : Unit {0}) → OnLetter (persons_at t s) l (Ok u) (persons_at v s) → v ≡ record t { persons = set t.persons s (persons_at v s) } → PersonTakeTurn (phase p) (world_of p) s TurnReply.Moved (world_of v)
    letter_heard u h e2 =
        let n = persons_at v s in
        let by = heard p s there_too (are.each_persons s known) l m n u (subst (λ (z : Parts). OnLetter (persons_at z s) l (Ok u) n) e1 h) in
        hears takes.sender takes.number l m known takes.takes by.fits by.rises refl (ap world_of (e2 ∙ ap (λ (z : Parts). record z { persons = set z.persons s n }) e1) ∙ by.world)

    module _ (n : Persons) (w : Parts) (e2 : w ≡ record t { persons = set t.persons s n }) (why : Why) (e3 : v ≡ record w { hub = ending w.hub (End.Stopped why) }) where
      after_fault : n ≡ persons_at p s → world_of v ≡ ended (record (world_of p) { persons_mail = m }) why
      after_fault same =
          let a : v ≡ record t { persons = set t.persons s n; hub = ending t.hub (End.Stopped why) } = e3 ∙ ap (λ (z : Parts). record z { hub = ending z.hub (End.Stopped why) }) e2 in
          let b : v ≡ record p { mails = record p.mails { persons = m }; persons = set p.persons s n; hub = ending p.hub (End.Stopped why) } = a ∙ ap (λ (z : Parts). record z { persons = set z.persons s n; hub = ending z.hub (End.Stopped why) }) e1 in
          ap world_of b ∙ ap (λ (xs : List Persons). world_of (record p { mails = record p.mails { persons = m }; persons = xs; hub = ending p.hub (End.Stopped why) })) (same_persons p s n same)

    -- a fault ends the phase
    pub letter_faulty : (w : Parts) (fault : PersonFault) → OnLetter (persons_at t s) l (Err fault) (persons_at w s) → w ≡ record t { persons = set t.persons s (persons_at w s) } → v ≡ record w { hub = ending w.hub (End.Stopped (reason_for fault)) } → PersonTakeTurn (phase p) (world_of p) s TurnReply.Moved (world_of v)
    letter_faulty w PersonFault.Stray h e2 e3 =
        let n = persons_at w s in
        let by = strayed p s there_too (are.each_persons s known) l n (subst (λ (z : Parts). OnLetter (persons_at z s) l (Err PersonFault.Stray) n) e1 h) in
        strays takes.sender takes.number l m known takes.takes by.0 refl (after_fault n w e2 Why.Stray e3 by.1)
    letter_faulty w PersonFault.Fell h e2 e3 =
        let n = persons_at w s in
        let by = fell p s there_too (are.each_persons s known) l n (subst (λ (z : Parts). OnLetter (persons_at z s) l (Err PersonFault.Fell) n) e1 h) in
        falls takes.sender takes.number l m known takes.takes by.fits by.falls_below refl (after_fault n w e2 Why.Fell e3 by.same)
