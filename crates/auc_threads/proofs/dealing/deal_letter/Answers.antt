use Rattle.std.proofs.Common.{rules, ap, ◌∙◌, ◌≡◌, sym, refl, length, w64, true, false}
use Rattle.std.specs.Prelude.{FitsSigned}
use Rattle.std.proofs.lemmas.Int.{to_z-of_z}
use Rattle.auc_letters.specs.Award.{is_accepted}
use Rattle.auc_objects.specs.Objects.{sale_of}
use Rattle.auc_threads.specs.Dealing.{says}
use Rattle.auc_threads.proofs.DealingLaws.{accepted_is, deals_bid, declined_is, said_accepted, said_declined}
use Rattle.auc_threads.proofs.dealing.deal_letter.Goals as goal
use Rattle.auc_book.proofs.Lines.{not_true}

pub returns-then-is_accepted-clause-deals : goal.returns-then-is_accepted-clause-deals
returns-then-is_accepted-clause-deals c =
    let fits : FitsSigned w64 c.args.task.now.eps = search rules in
    let now = simp to_z-of_z at c.answer-answers.ensures.award in
    let letters = simp to_z-of_z at c.answer-answers.ensures.letters in
    let bid = c.in-Some.bid in
    let eps = c.args.task.now.eps in
    let accepted : is_accepted eps (sale_of c.args.shard.now bid.object) bid ≡ true = accepted_is c.args.shard.now.person_shards eps (sale_of c.args.shard.now bid.object) bid (ap length (sym letters) ∙ c.is_accepted.ensures.0 c.if-is_accepted.true) in
    record {
      more = says eps c.args.shard.now bid;
      behind = said_accepted eps c.args.shard.now c.answer-answers.new.self bid c.args.said.now.items c.note_answers.new.said.items c.note_prices.new.said.items _ c.args.task.now.limits.now.shards c.shard_of-knowing.result accepted now letters c.note_answers.ensures c.requires.shards c.shard_of-knowing.ensures.remainder c.note_prices.ensures;
      dealt = deals_bid eps c.args.shard.now c.answer-answers.new.self c.args.letter bid (says eps c.args.shard.now bid) c.in-Some.ensures.some now refl;
    }

pub returns-else-is_accepted-clause-deals : goal.returns-else-is_accepted-clause-deals
returns-else-is_accepted-clause-deals c =
    let fits : FitsSigned w64 c.args.task.now.eps = search rules in
    let now = simp to_z-of_z at c.answer-answers.ensures.award in
    let letters = simp to_z-of_z at c.answer-answers.ensures.letters in
    let bid = c.in-Some.bid in
    let eps = c.args.task.now.eps in
    let declined : is_accepted eps (sale_of c.args.shard.now bid.object) bid ≡ false = declined_is c.args.shard.now.person_shards eps (sale_of c.args.shard.now bid.object) bid (λ two. not_true (sym c.if-is_accepted.false ∙ c.is_accepted.ensures.1 (ap length letters ∙ two))) in
    record {
      more = says eps c.args.shard.now bid;
      behind = said_declined eps c.args.shard.now bid c.args.said.now.items c.note_answers.new.said.items _ declined letters c.note_answers.ensures;
      dealt = deals_bid eps c.args.shard.now c.answer-answers.new.self c.args.letter bid (says eps c.args.shard.now bid) c.in-Some.ensures.some now refl;
    }
