use Rattle.std.proofs.Common.{◌<◌, arith}
use Rattle.auc_market.proofs.Moving.{spends_none, spends_on}
use Rattle.auc_market.proofs.Serving.{first_waits, sold_of}
use Rattle.auc_market.proofs.market.Market.sell.Goals as goal

pub serve-requires-clause-have : goal.serve-requires-clause-have
serve-requires-clause-have c =
    let found = c.free_from-waiting.ensures in
    let law = c.law.ensures in
    let most = law.sound.most in
    let e = c.persons-persons.ensures in
    let many = law.stands.owns_are in
    let m = found.most in
    let ne = c.if-waiting-persons.false in
    let lt : c.free_from-waiting.result < c.persons-persons.result = omega (arith, m, ne) in
    first_waits c.free_from-waiting.result c.args.self.now.owns (omega (arith, many, most)) (found.free lt) found.passed (omega (arith, lt, e, most))

pub chain-requires : goal.chain-requires
chain-requires c =
    let served = rw (c.in-Placed.is, c.persons-persons.ensures) at c.in_ok-serve.ensures.served in
    record { known = served.0; none = served.1.waits }

pub returns-clause-sold : goal.returns-clause-sold
returns-clause-sold c =
    let spends = c.in_ok-serve.ensures.spends in
    let served = rw (c.in-Placed.is, c.persons-persons.ensures, ← spends.table) at c.in_ok-serve.ensures.served in
    let law = c.law-2.ensures in
    let most = law.sound.most in
    let many = law.stands.owns_are in
    sold_of c.serve.new.waiting c.chain.new.left c.in_ok-ended.ended c.serve.new.self c.chain.new.self c.in_ok-ended.ensures.spends.table most (omega (arith, many, most)) served.1 c.in_ok-ended.ensures.chain

pub returns-clause-spends : goal.returns-clause-spends
returns-clause-spends c = spends_on c.args.self.now c.serve.new.self c.chain.new.self c.args.left.now c.serve.new.left c.chain.new.left c.in_ok-serve.ensures.spends c.in_ok-ended.ensures.spends

pub returns-then-waiting-persons-clause-spends : goal.returns-then-waiting-persons-clause-spends
returns-then-waiting-persons-clause-spends c = spends_none c.args.self.now c.args.left.now
