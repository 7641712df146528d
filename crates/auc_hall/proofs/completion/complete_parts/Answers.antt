use Rattle.std.proofs.Common.{get_or, None, arith, refl, sym, inl, inr, subst, ◌∙◌}
use Rattle.std.proofs.lemmas.Bool.{cases_eq}
use Rattle.auc_hall.specs.Matched.{IsPlaced}
use Rattle.auc_hall.specs.Chosen.{chosen}
use Rattle.auc_hall.specs.Search.{IsAugmentingPath}
use Rattle.auc_hall.specs.Completion.IsGrown.{stays}
use Rattle.auc_hall.proofs.CompletionLaws.{grown_by, hall_answers}
use Rattle.auc_hall.proofs.AnswerLaws.{is_assignment, done_more, walked_same}
use Rattle.auc_hall.proofs.MatchedLaws.{holders_of, holds_nothing}
use Rattle.auc_hall.proofs.Options.{none_of, some_of}
use Rattle.auc_hall.proofs.completion.complete_parts.Goals as goal

pub find-requires-clause-free : goal.find-requires-clause-free
find-requires-clause-free c =
    holds_nothing c.loop-person.choice c.loop-person.holder c.loop-person.person c.loop-person.invariant.matched.tied (none_of (get_or c.loop-person.choice c.loop-person.person None) c.if-is_some.ensures)

pub loop-person-preserved-then-is_some : goal.loop-person-preserved-then-is_some
loop-person-preserved-then-is_some c =
    record {
      matched = c.loop-person.invariant.matched;
      done = λ i lt. elim (cases_eq i c.loop-person.person) [
        | inl e ↦ subst (IsPlaced c.loop-person.choice) (sym e) (some_of (get_or c.loop-person.choice c.loop-person.person None) c.if-is_some.ensures)
        | inr n ↦ c.loop-person.invariant.done i (omega (arith, n))
      ];
      seen = c.loop-person.invariant.seen;
      grown = c.loop-person.invariant.grown;
    }

pub returns-clause-matching : goal.returns-clause-matching
returns-clause-matching c = record {
  choice = chosen c.loop-person.choice;
  assigned = is_assignment c.args.rows.now c.loop-person.choice c.loop-person.holder c.loop-person.invariant.matched (λ i lt. c.loop-person.invariant.done i (omega arith));
  numbers_are = c.new.ensures ∙ c.in_ok-numbers_of.ensures;
}

pub returns-in-None-clause-grown : goal.returns-in-None-clause-grown
returns-in-None-clause-grown c = hall_answers c.args.rows.now c.args.choice.now c.hall_set.result c.hall_set.ensures.hall

pub returns-clause-grown : goal.returns-clause-grown
returns-clause-grown c = record {
  after = c.loop-person.choice;
  grown = c.loop-person.invariant.grown c.loop-person.choice (stays c.loop-person.choice refl);
  all = λ i lt. c.loop-person.invariant.done i (omega arith);
  numbers = c.new.ensures ∙ c.in_ok-numbers_of.ensures;
}

pub find-requires-clause-holders : goal.find-requires-clause-holders
find-requires-clause-holders c = holders_of c.args.rows.now c.loop-person.choice c.loop-person.holder c.loop-person.invariant.matched

pub hall_set-requires-clause-walked : goal.hall_set-requires-clause-walked
hall_set-requires-clause-walked c = walked_same c.args.rows.now c.find.new.self.queue.items c.as_slice-in-None.result.now c.find.new.self.seen.items c.as_slice.result.now c.as_slice-in-None.ensures.value c.as_slice.ensures.value (rw c.in-None.is at c.in_ok-find.ensures.closed)

pub loop-person-preserved : goal.loop-person-preserved
loop-person-preserved c =
    let search = c.in_ok-find.ensures.search in
    let path : IsAugmentingPath c.args.rows.now c.loop-person.choice c.loop-person.holder c.as_slice-in-Some.result.now c.in-Some.found.at c.in-Some.found.arc = rw c.as_slice-in-Some.ensures.value (record {
      matched = c.loop-person.invariant.matched;
      trail = search.trail;
      starts = search.starts;
      out = rw c.in-Some.is at c.in_ok-find.ensures.found;
    }) in
    record {
      matched = c.exchange.ensures.matched c.args.rows.now path;
      done = done_more c.loop-person.choice c.exchange.new.choice c.find.new.self.queue.items c.loop-person.person c.loop-person.invariant.done c.exchange.ensures.kept search.starts.by search.starts.there c.in_ok-find.ensures.first (λ e h. c.exchange.ensures.first e (rw c.as_slice-in-Some.ensures.value h));
      seen = search.marks.size;
      grown = λ after x. c.loop-person.invariant.grown after (grown_by (c.exchange.ensures.exchange c.args.rows.now path) x);
    }
