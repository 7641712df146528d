use Rattle.std.proofs.Common.{◌≡◌, ◌<◌, arith, Contains, List, get_or, length, pos, set, subst, w64}
use Rattle.std.specs.Prelude.{FitsSigned}
use Rattle.std.proofs.lemmas.Int.{to_z-of_z}
use Rattle.std.proofs.lemmas.List.Elements.{All-get_or, Contains-get_or}
use Rattle.auc_graph.specs.Dual.{price_at}
use Rattle.auc_graph.specs.Price.{IsPrice}
use Rattle.auc_rows.specs.declared.arc.ShortArc.{ShortArc}
use Rattle.auc_rows.specs.Rows.{flat_row_of}
use Rattle.auc_market.specs.Scan.{no_arc}
use Rattle.auc_market.proofs.StartLaws.{none_after, object_in, seated_after}
use Rattle.auc_market.proofs.holdings.Holdings.seat.Goals as goal
use Rattle.auc_graph.proofs.ValueBounds.{price_fits}

abbrev arc_of : goal.After-award → ShortArc
arc_of c = get_or c.row-row.result.now c.args.place no_arc

is_listed : (c : goal.After-award) → Contains (flat_row_of c.args.rows.now c.args.person) (arc_of c)
is_listed c =
    let room : c.args.place < length c.row-row.result.now = omega (arith, c.if-place-row.false) in
    subst (λ (xs : List ShortArc). Contains xs (arc_of c)) c.row-row.ensures.row (Contains-get_or c.row-row.result.now c.args.place no_arc room)

pub returns-clause-seated : goal.returns-clause-seated
returns-clause-seated c =
    let arc : ShortArc = arc_of c in
    let sound = c.row-row.ensures.sound in
    let below = object_in c.args.rows.now c.args.start.now c.args.self.now.prices.items c.args.self.now.holders.items c.args.self.now.owns.items c.args.person arc sound c.requires.start c.requires.seated c.requires.person c.requires.none (is_listed c) in
    let each = c.requires.start.each in
    let price = All-get_or IsPrice c.args.start.now arc.object (pos 0) (omega (arith, below, each)) c.requires.start.within in
    let f : FitsSigned w64 (price_at c.args.start.now arc.object) = price_fits (price_at c.args.start.now arc.object) price in
    let prices : c.award.new.self.prices.items ≡ set c.args.self.now.prices.items arc.object (price_at c.args.start.now arc.object) = simp to_z-of_z at c.award.ensures.prices in
    rw (prices, c.award.ensures.holders, c.award.ensures.owns) (seated_after c.args.rows.now c.args.start.now c.args.self.now.prices.items c.args.self.now.holders.items c.args.self.now.owns.items c.args.person arc sound c.requires.start c.requires.seated c.requires.person c.requires.none (is_listed c))

pub returns-clause-none : goal.returns-clause-none
returns-clause-none c =
    rw c.award.ensures.owns (none_after c.args.rows.now c.args.start.now c.args.self.now.prices.items c.args.self.now.holders.items c.args.self.now.owns.items c.args.person (arc_of c) c.row-row.ensures.sound c.requires.start c.requires.seated c.requires.person c.requires.none (is_listed c))
