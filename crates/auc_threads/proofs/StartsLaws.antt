-- The result of a thread, from its start.
use Rattle.std.proofs.Common.{◌≡◌, ℕ, ◌+◌, length, List, None, ap, sym, ◌∙◌, subst}
use Rattle.std.specs.Prelude.{ℤ, Option}
use Rattle.std.proofs.lemmas.List.{length-replicate}
use Rattle.auc_letters.specs.declared.letter.Letter.{Letter}
use Rattle.auc_letters.specs.declared.letter.Why.{Why}
use Rattle.auc_objects.specs.Objects.{Objects}
use Rattle.auc_book.specs.Seat.{Account, new_account}
use Rattle.auc_graph.specs.Table.{Table}
use Rattle.auc_persons.specs.Persons.{Persons}
use Rattle.auc_phases.specs.Shards.{IsPersonShard}
use Rattle.auc_phases.proofs.NewShards.{new_persons_are}
use Rattle.auc_threads.specs.declared.calls.Step.{Step}
use Rattle.auc_threads.specs.declared.object_threads.Sold.{Sold}
use Rattle.auc_threads.specs.declared.person_threads.Bought.{Bought}
use Rattle.auc_threads.specs.Dealing.{AfterLetters}
use Rattle.auc_threads.specs.Starts.{IsObjectPromise, IsObjectResult, IsObjectWork, IsPersonPromise, IsPersonResult, IsPersonStart, IsPersonWork}
use Rattle.auc_threads.specs.Worker.{Accounts, AreNewSeats, Rooms, Setting, Worker, buyer_of, new_accounts, new_buyer, new_seller, round, seller_of}
use Rattle.auc_threads.proofs.SalesLaws.{sells_of}
use Rattle.auc_threads.proofs.StepLaws.{GuardFree, free_bids, free_first, free_posts, free_why}

free_letters : (t : Objects) (stray : List Letter) (step : Step) → AfterLetters t stray step → GuardFree step
free_letters t stray Step.On h = tt
free_letters t stray Step.Over h = tt
free_letters t stray (Step.Stop Why.Bids) h = absurd h
free_letters t stray (Step.Stop Why.Ceiling) h = absurd h
free_letters t stray (Step.Stop Why.Stuck) h = absurd h
free_letters t stray (Step.Stop Why.Posts) h = absurd h
free_letters t stray (Step.Stop Why.Trail) h = tt
free_letters t stray (Step.Stop Why.Mail) h = absurd h
free_letters t stray (Step.Stop Why.Fell) h = absurd h
free_letters t stray (Step.Stop Why.Stray) h = tt

-- ---- what a thread gives back

new_seats : (k : ℕ) (a : Accounts) → AreNewSeats k a → a ≡ new_accounts k
new_seats k a are =
    ap (λ (x : Account Letter). record { objects = x; persons = a.persons; hub = a.hub }) are.objects_seat
    ∙ (ap (λ (x : Account Letter). record { objects = new_account k; persons = x; hub = a.hub }) are.persons_seat
    ∙ ap (λ (x : Account Letter). record { objects = new_account k; persons = new_account k; hub = x }) are.hub_seat)

new_worker : {S : Type 0} (w : Worker S) (s : S) (k : ℕ) → w.shard ≡ s → AreNewSeats k w.seats → w ≡ record { shard = s; seats = new_accounts k }
new_worker {S} w s k shard seats =
    ap (λ (x : S). record { shard = x; seats = w.seats }) shard ∙ ap (λ (x : Accounts). record { shard = s; seats = x }) (new_seats k w.seats seats)

pub object_result : {O P H : Type 0} (g : Setting) (r : Rooms) (k : ℕ) (p : Sold O P H) (w : Worker Objects) (why : Option Why)
    → IsObjectPromise g k p → IsObjectWork p.eps r (seller_of p.start.value) w why → IsObjectResult g r k w why
object_result g r k p w why promise work =
    let begun = new_seller g k in
    let start = seller_of p.start.value in
    let begins : start ≡ begun = new_worker start begun.shard (g.limits.shards + k) promise.begins.shard promise.begins.seats in
    let done : IsObjectWork g.eps r begun w why =
    subst (λ (z : ℤ). IsObjectWork z r begun w why) promise.at_eps (subst (λ (x : Worker Objects). IsObjectWork p.eps r x w why) begins work) in
    let serves = done.serves in
    let free : GuardFree done.step = subst GuardFree (sym serves.is) (free_first serves.said_step serves.took_step (free_posts serves.said serves.posts.posts serves.said_step serves.posts.posted) (free_letters w.shard serves.deals.dealt.stray serves.took_step serves.deals.dealt.after)) in
    record {
      seats = record {
        objects_seat = serves.deals.took.makes.worker;
        persons_seat = serves.posts.persons.worker;
        hub_seat = done.ends.makes.worker ∙ serves.posts.hub.worker;
      };
      sells = sells_of g.eps r.objects begun.shard w.shard begun.seats.objects w.seats.objects serves.said serves.took_step (length-replicate (length g.prices) None) serves.deals;
      no_guard = free_why done.step why free done.why_is;
      no_bids = free_bids done.step why free done.why_is;
      work = done;
    }

pub person_shard : (g : Setting) (k : ℕ) (w : Worker Persons) → length g.prices ≡ g.table.objects → IsPersonStart g k w → IsPersonShard g.table g.limits.shards k w.shard
person_shard g k w each start =
    subst (λ (x : Persons). IsPersonShard g.table g.limits.shards k x) (sym start.shard) (new_persons_are g.table g.limits.shards g.limits.bids g.prices k each)

pub person_result : {O P H : Type 0} (g : Setting) (r : Rooms) (k : ℕ) (p : Bought O P H) (w : Worker Persons) (why : Option Why)
    → IsPersonPromise g k p → IsPersonWork (round p.rows.value p.eps) r (buyer_of p.start.value) w why → IsPersonResult g r k w why
person_result g r k p w why promise work =
    let begun = new_buyer g k in
    let start = buyer_of p.start.value in
    let begins : start ≡ begun = new_worker start begun.shard k promise.begins.shard promise.begins.seats in
    let done : IsPersonWork (round g.table g.eps) r begun w why =
    subst (λ (z : Table). IsPersonWork (round z g.eps) r begun w why) promise.same_table
    (subst (λ (z : ℤ). IsPersonWork (round p.rows.value z) r begun w why) promise.at_eps
    (subst (λ (x : Worker Persons). IsPersonWork (round p.rows.value p.eps) r x w why) begins work)) in
    record {
      seats = record {
        objects_seat = done.buys.posts.makes.worker;
        persons_seat = done.buys.took.makes.worker;
        hub_seat = done.ends.makes.worker;
      };
      work = done;
    }
