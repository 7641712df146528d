use Rattle.std.proofs.Common.{◌≡◌, arith, inr, length, pos, refl, replicate, rules}
use Rattle.auc_market.proofs.Opening.{start_at, start_none}
use Rattle.auc_market.proofs.StartLaws.{kept_all, kept_none}
use Rattle.auc_market.proofs.starts.prices_before.Goals as goal

pub returns-then-persons-objects-clause-start : goal.returns-then-persons-objects-clause-start
returns-then-persons-objects-clause-start c =
    let same : c.in_ok-prices.prices.items ≡ c.args.start.now = search rules in
    let square : c.args.rows.now.objects ≡ length c.args.rows.now.rows = (let a = c.persons.ensures.persons in let b = c.objects.ensures.objects in let e = c.if-persons-objects.true in omega (arith, a, b, e)) in
    start_at c.args.rows.now c.args.start.now c.in_ok-prices.prices.items c.requires.start square same

pub returns-then-persons-objects-clause-kept : goal.returns-then-persons-objects-clause-kept
returns-then-persons-objects-clause-kept c =
    let same : c.in_ok-prices.prices.items ≡ c.args.start.now = search rules in
    kept_all c.args.start.now c.in_ok-prices.prices.items same

pub returns-clause-start : goal.returns-clause-start
returns-clause-start c =
    let zeros : c.in_ok-none.none.items ≡ replicate c.objects-2.result (pos 0) = search rules in
    start_none c.args.rows.now (pos 1) c.objects-2.result c.in_ok-none.none.items c.objects-2.ensures.objects zeros (inr refl)

pub returns-clause-kept : goal.returns-clause-kept
returns-clause-kept c =
    let zeros : c.in_ok-none.none.items ≡ replicate c.objects-2.result (pos 0) = search rules in
    kept_none c.args.start.now c.in_ok-none.none.items c.objects-2.result zeros
