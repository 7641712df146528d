use Rattle.std.proofs.Common.{◌≡◌, ◌<◌, length, List, [], ◌∷◌, ◌++◌, ap, ◌∙◌, arith}
use Rattle.auc_hall.specs.declared.search.Reached.{Reached}
use Rattle.auc_hall.proofs.SearchLaws.{starts, walked_more, last_way_out, at_most}
use Rattle.auc_hall.proofs.QueueLaws.{first_stays, first_only}
use Rattle.auc_hall.proofs.search.Search.find.Goals as goal
use Rattle.auc_hall.proofs.ProblemLaws.{no_arc}

pub loop-at-init : goal.loop-at-init
loop-at-init c =
    let is : c.push.new.self.items ≡ record { person = c.args.start; parent = 0; arc = no_arc } ∷ [] = c.in_ok-push.ensures.items ∙ ap (λ (q : List Reached). q ++ record { person = c.args.start; parent = 0; arc = no_arc } ∷ []) c.clear.ensures.items in
    record {
      search = starts c.args.rows.now c.args.holder.now c.push.new.self.items c.forget.new.self.seen.items c.args.start is c.requires.start c.requires.free (omega arith) c.forget.ensures.none;
      first = λ e h. (first_only c.args.start c.push.new.self.items is 0 e h).1;
      walked = λ m e lt h. absurd (omega arith);
    }

pub returns-in-Some-clause-search : goal.returns-in-Some-clause-search
returns-in-Some-clause-search c =
    let is : c.push.new.self.items ≡ record { person = c.args.start; parent = 0; arc = no_arc } ∷ [] = c.in_ok-push.ensures.items ∙ ap (λ (q : List Reached). q ++ record { person = c.args.start; parent = 0; arc = no_arc } ∷ []) c.clear.ensures.items in
    starts c.args.rows.now c.args.holder.now c.push.new.self.items c.forget.new.self.seen.items c.args.start is c.requires.start c.requires.free (omega arith) c.forget.ensures.none

pub returns-in-Some-clause-found : goal.returns-in-Some-clause-found
returns-in-Some-clause-found c =
    let is : c.push.new.self.items ≡ record { person = c.args.start; parent = 0; arc = no_arc } ∷ [] = c.in_ok-push.ensures.items ∙ ap (λ (q : List Reached). q ++ record { person = c.args.start; parent = 0; arc = no_arc } ∷ []) c.clear.ensures.items in
    last_way_out c.args.rows.now c.args.holder.now [] c.push.new.self.items (record { person = c.args.start; parent = 0; arc = no_arc }) 0 c.in-Some.arc is (omega (arith, ap length is)) c.in-Some.ensures

pub returns-in-Some-2-clause-first : goal.returns-in-Some-2-clause-first
returns-in-Some-2-clause-first c =
    first_stays c.loop-at.self.queue.items c.walk.new.self.queue.items c.args.start c.in_ok-found.ensures.grows (omega arith) c.loop-at.invariant.first

pub loop-at-preserved : goal.loop-at-preserved
loop-at-preserved c =
    let lt : c.loop-at.at < length c.loop-at.self.queue.items = omega arith in
    record {
      search = c.in_ok-found.ensures.search;
      first = first_stays c.loop-at.self.queue.items c.walk.new.self.queue.items c.args.start c.in_ok-found.ensures.grows (omega arith) c.loop-at.invariant.first;
      walked = walked_more c.args.rows.now c.loop-at.self.queue.items c.walk.new.self.queue.items c.loop-at.self.seen.items c.walk.new.self.seen.items c.loop-at.at c.in_ok-found.ensures.grows lt c.in_ok-found.ensures.kept c.loop-at.invariant.walked (rw c.in_default-2.is at c.in_ok-found.ensures.walked);
    }

pub loop-at-smaller : goal.loop-at-smaller
loop-at-smaller c =
    let lt : c.loop-at.at < length c.loop-at.self.queue.items = omega arith in
    let most = at_most c.args.rows.now c.loop-at.self.queue.items c.loop-at.self.seen.items c.loop-at.invariant.search.marks in
    omega arith
