use Rattle.std.proofs.Common.{◌^◌, pos, w64, arith, rules, refl, ap, ◌∙◌, subst}
use Rattle.std.specs.Prelude.{FitsSigned, ◌≤ℤ◌, ◌<ℤ◌, IfSome, Option}
use Rattle.std.proofs.lemmas.Int.{ints, to_z-of_z}
use Rattle.auc_letters.specs.Award.{bid_out}
use Rattle.auc_letters.specs.declared.letter.Bid.{Bid}
use Rattle.auc_persons.specs.Bid.{IsBidOf}
use Rattle.auc_persons.specs.Persons.{Persons, after_bid, first_idle}
use Rattle.auc_persons.proofs.shard.PersonShard.bid_with.Goals as goal

pub returns-clause-exact : goal.returns-clause-exact
returns-clause-exact c =
    let s = c.args.self.now in
    let b = c.in-Some.bid in
    let f : FitsSigned w64 b.amount = search rules in
    let is : IsBidOf c.args.rows.now c.args.eps s.copies (first_idle s) b = subst (λ (o : Option Bid). IfSome o (IsBidOf c.args.rows.now c.args.eps s.copies (first_idle s))) c.in-Some.is c.requires.found in
    let low = simp to_z-of_z at c.if-bid-gt-MOST_PRICE.false in
    let le : b.amount ≤ℤ pos (2 ^ 61) = omega (arith, ints) in
    let shards = ap (λ (x : Persons). x.object_shards) c.self.view_is in
    let out = c.into_out-out.ensures ∙ (ap (λ n. bid_out n b) shards ∙ ap (bid_out s.object_shards) is.2) in
    (c.requires.some, c.requires.left, (is.0, b.amount, is.1, le, out, c.wait_for.ensures ∙ ap (λ (x : Bid). after_bid s (first_idle s) x.object) is.2))

pub returns-then-bid-gt-MOST_PRICE-clause-exact : goal.returns-then-bid-gt-MOST_PRICE-clause-exact
returns-then-bid-gt-MOST_PRICE-clause-exact c =
    let s = c.args.self.now in
    let b = c.in-Some.bid in
    let f : FitsSigned w64 b.amount = search rules in
    let is : IsBidOf c.args.rows.now c.args.eps s.copies (first_idle s) b = subst (λ (o : Option Bid). IfSome o (IsBidOf c.args.rows.now c.args.eps s.copies (first_idle s))) c.in-Some.is c.requires.found in
    let high = simp to_z-of_z at c.if-bid-gt-MOST_PRICE.true in
    let gt : pos (2 ^ 61) <ℤ b.amount = omega (arith, ints) in
    (c.requires.some, (c.requires.left, (is.0, b.amount, is.1, gt)), refl)
