use Rattle.std.proofs.Common.{◌≡◌, ◌<◌, pos, arith, Contains, List, get_or, length, refl, rules, set, subst, w64}
use Rattle.std.specs.Prelude.{FitsSigned}
use Rattle.std.proofs.lemmas.Int.{to_z-of_z}
use Rattle.std.proofs.lemmas.List.{get_or_read}
use Rattle.std.proofs.lemmas.List.Elements.{Contains-get_or}
use Rattle.auc_rows.specs.declared.arc.ShortArc.{ShortArc}
use Rattle.auc_market.specs.Scan.{no_arc}
use Rattle.auc_market.proofs.Augmentations.{augmented_at_price}
use Rattle.auc_market.proofs.holdings.Holdings.take_at_price.Goals as goal

pub is_slack-requires-clause-listed : goal.is_slack-requires-clause-listed
is_slack-requires-clause-listed c =
    let room : c.args.place < length c.row-row.result.now = omega (arith, c.if-place-row.false) in
    subst (λ (xs : List ShortArc). Contains xs (get_or c.row-row.result.now c.args.place no_arc)) c.row-row.ensures.row (Contains-get_or c.row-row.result.now c.args.place no_arc room)

pub returns : goal.returns
returns c =
    let f1 : FitsSigned w64 c.args.eps = c.ranges.eps in
    let f2 : FitsSigned w64 c.index-amount.result.now = search rules in
    let arc : ShortArc = get_or c.row-row.result.now c.args.place no_arc in
    let slack = rw c.as_slice.ensures.value at (simp to_z-of_z at (c.if-not-is_slack.ensures refl)) in
    let below = (c.row-row.ensures.each c.args.place no_arc (omega (arith, c.if-place-row.false))).object in
    let many = c.requires.stands.prices_are in
    let read = get_or_read c.args.self.now.prices.items arc.object c.index-amount.result.now (omega (arith, below, many)) c.index-amount.ensures (pos 0) in
    let prices : c.award.new.self.prices.items ≡ set c.args.self.now.prices.items arc.object c.index-amount.result.now = simp to_z-of_z at c.award.ensures.prices in
    augmented_at_price c.args.rows.now c.args.eps c.args.person c.args.self.now.prices.items c.award.new.self.prices.items c.args.self.now.holders.items c.award.new.self.holders.items c.args.self.now.owns.items c.award.new.self.owns.items c.award.result arc c.index-amount.result.now
    c.requires.sound c.requires.stands c.requires.person c.requires.none read slack prices c.award.ensures.holders c.award.ensures.owns c.award.ensures.earlier
