use Rattle.std.proofs.Common.{w64}
use Rattle.std.specs.Prelude.{◌+ℤ◌, ◌-ℤ◌, FitsSigned}
use Rattle.std.proofs.lemmas.Int.{to_z-of_z}
use Rattle.auc_persons.proofs.Bounds.{diff_fits, part_fits, next_fits}
use Rattle.auc_persons.proofs.bidder.amount.next_amount.Goals as goal

pub returns : goal.returns
returns c =
    let f1 : FitsSigned w64 c.args.price = c.ranges.price in
    let f2 : FitsSigned w64 c.args.second = c.ranges.second in
    let f3 : FitsSigned w64 c.args.value = c.ranges.value in
    let f4 : FitsSigned w64 c.args.eps = c.ranges.eps in
    let f5 : FitsSigned w64 (c.args.second -ℤ c.args.value) = diff_fits c.args.second c.args.value c.requires.second c.requires.value in
    let f6 : FitsSigned w64 (c.args.price +ℤ (c.args.second -ℤ c.args.value)) = part_fits c.args.price c.args.second c.args.value c.requires.price c.requires.second c.requires.value in
    let f7 : FitsSigned w64 (c.args.price +ℤ (c.args.second -ℤ c.args.value) +ℤ c.args.eps) = next_fits c.args.price c.args.second c.args.value c.args.eps c.requires.price c.requires.second c.requires.value c.requires.eps.low c.requires.eps.high in
    simp to_z-of_z
