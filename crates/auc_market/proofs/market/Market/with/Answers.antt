use Rattle.std.proofs.Common.{◌≡◌, length, rules}
use Rattle.std.proofs.lemmas.Bool.{false≢true}
use Rattle.auc_market.proofs.Moving.{eps_one}
use Rattle.auc_market.proofs.market.Market.with.Goals as goal

pub invariant_of-result : goal.invariant_of-result
invariant_of-result c =
    let r = c.args.rows.now in
    let owns : length c.in_ok-owns.owns.items ≡ length r.rows = search rules in
    record {
      law = record { sound = c.persons.ensures.sound; arcs = c.requires.arcs; eps = eps_one r; stands = c.requires.stands };
      kept = c.in_ok-lists.ensures c.args.holdings.prices.items;
      incumbent_is = record { owns_are = owns; seats = λ whole. absurd (false≢true whole) };
    }
