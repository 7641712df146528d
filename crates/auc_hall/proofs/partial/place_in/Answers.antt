use Rattle.std.proofs.Common.{◌≢◌, ◌<◌, All, length, get_or, None, arith, Contains, subst, List}
use Rattle.std.proofs.lemmas.List.Elements.{All-contains}
use Rattle.auc_graph.specs.declared.rows.RowArc.{RowArc}
use Rattle.auc_hall.proofs.MatchedLaws.{placed}
use Rattle.std.specs.Prelude.{AllPairs}
use Rattle.auc_hall.proofs.Options.{none_of, some_of}
use Rattle.auc_hall.proofs.PlacingLaws.{not_on_a_taken_object}
use Rattle.auc_hall.specs.Partial.{IsNotPlaced}
use Rattle.auc_hall.proofs.partial.place_in.Goals as goal

pub bounds-holder-found : goal.bounds-holder-found
bounds-holder-found c =
    omega (arith, All-contains (λ (a : RowArc). a.object < c.args.rows.now.objects) c.row.result.now c.in-Some.found c.row.ensures.objects c.in-Some.ensures.found.0, c.requires.matched.objects)

pub bounds-holder-found-in-Some : goal.bounds-holder-found-in-Some
bounds-holder-found-in-Some c =
    omega (arith, All-contains (λ (a : RowArc). a.object < c.args.rows.now.objects) c.row.result.now c.in-Some.found c.row.ensures.objects c.in-Some.ensures.found.0, c.requires.matched.objects)

pub returns-else-is_some-2-clause-matched : goal.returns-else-is_some-2-clause-matched
returns-else-is_some-2-clause-matched c =
    let his = subst (λ (r : List RowArc). Contains r c.in-Some.found) c.row.ensures.row c.in-Some.ensures.found.0 in
    let room : c.in-Some.found.object < length c.args.holder.now = omega (arith, All-contains (λ (a : RowArc). a.object < c.args.rows.now.objects) c.row.result.now c.in-Some.found c.row.ensures.objects c.in-Some.ensures.found.0, c.requires.matched.objects) in
    placed c.args.rows.now c.args.choice.now c.args.holder.now c.args.person c.in-Some.found c.requires.matched (omega (arith, c.requires.matched.persons)) (none_of (get_or c.args.choice.now c.args.person None) c.if-is_some.ensures) his
    (none_of (get_or c.args.holder.now c.in-Some.found.object None) c.if-is_some-2.ensures) room

pub returns-then-is_some-2-clause-refused : goal.returns-then-is_some-2-clause-refused
returns-then-is_some-2-clause-refused c h a may =
    let his = subst (λ (r : List RowArc). Contains r c.in-Some.found) c.row.ensures.row c.in-Some.ensures.found.0 in
    let rising = subst (λ (r : List RowArc). AllPairs (λ a b. a.arc < b.arc) r) c.row.ensures.row c.row.ensures.sound.rising in
    let taken = some_of (get_or c.args.holder.now c.in-Some.found.object None) c.if-is_some-2.ensures in
    not_on_a_taken_object c.args.rows.now c.args.choice.now c.args.holder.now c.args.person c.args.arc taken.0 c.in-Some.found a c.requires.matched rising his c.in-Some.ensures.found.1 taken.1 may

pub returns-then-is_some-clause-cause : goal.returns-then-is_some-clause-cause
returns-then-is_some-clause-cause c h =
    let had = some_of (get_or c.args.choice.now c.args.person None) c.if-is_some.ensures in
    IsNotPlaced.placed_already had.0 had.1

pub returns-in-None-clause-cause : goal.returns-in-None-clause-cause
returns-in-None-clause-cause c h =
    let others = subst (λ (r : List RowArc). All (λ a. a.arc ≢ c.args.arc) r) c.row.ensures.row c.in-None.ensures.missing in
    IsNotPlaced.not_his (none_of (get_or c.args.choice.now c.args.person None) c.if-is_some.ensures) others

pub returns-then-is_some-2-clause-cause : goal.returns-then-is_some-2-clause-cause
returns-then-is_some-2-clause-cause c h =
    let his = subst (λ (r : List RowArc). Contains r c.in-Some.found) c.row.ensures.row c.in-Some.ensures.found.0 in
    let taken = some_of (get_or c.args.holder.now c.in-Some.found.object None) c.if-is_some-2.ensures in
    let holds = c.requires.matched.tied.held c.in-Some.found.object taken.0 taken.1 in
    IsNotPlaced.object_held c.in-Some.found holds.arc taken.0 (none_of (get_or c.args.choice.now c.args.person None) c.if-is_some.ensures) his c.in-Some.ensures.found.1 holds.picked holds.object
