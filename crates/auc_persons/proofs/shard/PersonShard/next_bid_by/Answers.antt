use Rattle.std.proofs.Common.{ap, sym, ◌∙◌}
use Rattle.auc_persons.specs.Persons.{Persons}
use Rattle.auc_persons.proofs.shard.PersonShard.next_bid_by.Goals as goal

pub bid_by-found-requires-clause-kept : goal.bid_by-found-requires-clause-kept
bid_by-found-requires-clause-kept c = rw (c.as_slice.ensures.value ∙ ap (λ (s : Persons). s.copies) c.self.view_is) c.requires.kept

pub returns-clause-kept : goal.returns-clause-kept
returns-clause-kept c = rw (c.bid_with.ensures.copies ∙ sym (c.as_slice.ensures.value ∙ ap (λ (s : Persons). s.copies) c.self.view_is)) c.bid_by-found.ensures.kept
