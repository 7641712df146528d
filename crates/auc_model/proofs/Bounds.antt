-- What follows from the counts: the greatest numbers of letters of each kind under way.
use Rattle.std.proofs.Common.{ℕ, zero, suc, ◌+◌, ◌*◌, ◌≤◌, ◌≡◌, arith}
use Rattle.auc_letters.specs.declared.state.PersonState.{PersonState}
use Rattle.auc_letters.specs.declared.state.PersonState.TheVariants.{Free, Holds, Waits}
use Rattle.auc_model.specs.Counts.{Counts, everywhere, held_objects, holding_persons, holds_one, total, waiting_persons, waits_one}
use Rattle.auc_model.specs.Letters.{award_one, bid_one, first_one, outbid_one, refused_one}
use Rattle.auc_model.specs.Channels.{Channels}
use Rattle.auc_model.specs.World.{Phase, World}

one_of_both : (t : PersonState) → waits_one t + holds_one t ≤ 1
one_of_both Free = omega arith
one_of_both (Waits j) = omega arith
one_of_both (Holds j) = omega arith

busy_le : (f : ℕ → PersonState) (n : ℕ) → total (λ i. waits_one (f i)) n + total (λ i. holds_one (f i)) n ≤ n
busy_le f zero = omega arith
busy_le f (suc n) = omega (arith, busy_le f n, one_of_both (f n))

module _ (g : Phase) (w : World) (c : Channels) (counts : Counts g w c) where
  busy : waiting_persons g w + holding_persons g w ≤ g.persons
  busy = busy_le w.state g.persons

  -- at most one bid for each person, and two answers
  pub bids_le : everywhere g bid_one c ≤ g.persons
  bids_le = let b = busy in omega (arith, b, counts.who_waits)

  pub answers_le : everywhere g award_one c + everywhere g refused_one c + everywhere g outbid_one c ≤ 2 * g.persons
  answers_le = let b = busy in omega (arith, b, counts.who_waits, counts.who_holds)

  -- no more objects are held than there are persons, whatever the number of objects
  pub held_le : held_objects g w ≤ g.persons
  held_le = let b = busy in omega (arith, b, counts.who_waits, counts.who_holds)

  pub firsts_le : w.count + everywhere g first_one c ≤ g.persons
  firsts_le = let h = held_le in omega (arith, h, counts.who_told)

  -- if the hub has counted every person, each one waits for an award or holds an object, and no other letter of theirs
  -- is under way
  pub record EveryoneCounted : Type 0 where
    pub held : held_objects g w ≡ g.persons
    pub no_bids : everywhere g bid_one c ≡ 0
    pub no_refusals : everywhere g refused_one c ≡ 0
    pub no_outbids : everywhere g outbid_one c ≡ 0
    pub busy : waiting_persons g w + holding_persons g w ≡ g.persons

  pub all_told : w.count ≡ g.persons → EveryoneCounted
  all_told e =
      let b = busy in
      let f = firsts_le in
      record {
        held = omega (arith, b, f, e, counts.who_waits, counts.who_holds, counts.who_told);
        no_bids = omega (arith, b, f, e, counts.who_waits, counts.who_holds, counts.who_told);
        no_refusals = omega (arith, b, f, e, counts.who_waits, counts.who_holds, counts.who_told);
        no_outbids = omega (arith, b, f, e, counts.who_waits, counts.who_holds, counts.who_told);
        busy = omega (arith, b, f, e, counts.who_waits, counts.who_holds, counts.who_told);
      }

  -- if nothing is under way and no person is free, the hub has counted every person: no stall
  pub no_stall : waiting_persons g w + holding_persons g w ≡ g.persons → everywhere g bid_one c ≡ 0 → everywhere g award_one c ≡ 0 → everywhere g refused_one c ≡ 0 → everywhere g outbid_one c ≡ 0 → everywhere g first_one c ≡ 0 → w.count ≡ g.persons
  no_stall e e1 e2 e3 e4 e5 = omega (arith, e, e1, e2, e3, e4, e5, counts.who_waits, counts.who_holds, counts.who_told)
