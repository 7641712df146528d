use Rattle.std.proofs.Common.{ℤ, ◌≡◌, ◌≤◌, ◌+◌, ◌-◌, ◌*◌, length, ap, sym, ◌∙◌, arith, w64, rules, length-append}
use Rattle.std.specs.Prelude.{FitsSigned, ◌≤ℤ◌, ◌<ℤ◌}
use Rattle.std.proofs.lemmas.Int.{ints, to_z-of_z}
use Rattle.auc_letters.specs.Award.{least_amount}
use Rattle.auc_world.specs.SingleState.{SingleState, frees, sale_at, notices_of_sale}
use Rattle.auc_world.specs.SinglePhase.{with_notice}
use Rattle.auc_world.proofs.SingleSteps.{answers_refusal, answers_sale}
use Rattle.auc_world.proofs.single_shard.kept.SingleShard.answer.Goals as goal

pub sell-requires-clause-room : goal.sell-requires-clause-room
sell-requires-clause-room c =
    let f1 : FitsSigned w64 c.args.eps = c.ranges.eps in
    let f2 : FitsSigned w64 c.args.bid.amount = search rules in
    let f3 : FitsSigned w64 c.price-price.result = search rules in
    let s = c.args.self.now in
    let price : c.price-price.result ≡ (sale_at s c.args.bid.object).price = c.price-price.ensures ∙ ap (λ (x : SingleState). (sale_at x c.args.bid.object).price) c.use_bid.ensures in
    let high : least_amount (sale_at s c.args.bid.object).price c.args.eps ≤ℤ c.args.bid.amount = rw (← price) (grind (arith, ints)) in
    let notices = ap (λ (x : SingleState). length x.notices) (answers_sale c.args.eps s c.args.bid high) in
    let both = length-append s.notices (notices_of_sale (sale_at s c.args.bid.object).holder c.args.bid.object c.args.bid.amount) in
    let room = c.requires.room in
    let fits : length s.notices + length (notices_of_sale (sale_at s c.args.bid.object).holder c.args.bid.object c.args.bid.amount) ≤ 4 * s.persons = omega (arith, notices, both, room) in
    simp (to_z-of_z, c.use_bid.ensures) fits

pub returns-then-amount-price : goal.returns-then-amount-price
returns-then-amount-price c =
    let f1 : FitsSigned w64 c.args.eps = c.ranges.eps in
    let f2 : FitsSigned w64 c.args.bid.amount = search rules in
    let f3 : FitsSigned w64 c.price-price.result = search rules in
    let s = c.args.self.now in
    let price : c.price-price.result ≡ (sale_at s c.args.bid.object).price = c.price-price.ensures ∙ ap (λ (x : SingleState). (sale_at x c.args.bid.object).price) c.use_bid.ensures in
    let low : c.args.bid.amount <ℤ least_amount (sale_at s c.args.bid.object).price c.args.eps = rw (← price) (grind (arith, ints)) in
    let notices : c.tell.new.self ≡ with_notice c.use_bid.new.self (frees c.args.bid.person c.args.bid.object c.price-price.result) = simp to_z-of_z at c.tell.ensures in
    notices ∙ ap (λ (x : SingleState). with_notice x (frees c.args.bid.person c.args.bid.object c.price-price.result)) c.use_bid.ensures
    ∙ ap (λ (p : ℤ). with_notice (record s { bids = s.bids - 1 }) (frees c.args.bid.person c.args.bid.object p)) price
    ∙ sym (answers_refusal c.args.eps s c.args.bid low)
