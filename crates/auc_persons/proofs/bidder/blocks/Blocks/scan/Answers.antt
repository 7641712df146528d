use Rattle.std.proofs.Common.{◌≡◌, ◌<◌, ◌++◌, ap, get_or, length, arith}
use Rattle.std.specs.Prelude.{map}
use Rattle.std.proofs.lemmas.List.{with_items_is}
use Rattle.std.proofs.lemmas.List.Elements.{All-get_or, All-same, All-set}
use Rattle.auc_persons.specs.Blocks.{AreNumbered, AreOfSame, HasArcs, of_blocked, of_bound}
use Rattle.auc_persons.specs.Candidates.{KeepsListed}
use Rattle.auc_persons.proofs.BlockNumbers.{all_numbered_still}
use Rattle.auc_persons.proofs.KeptBlocks.{kept_bounds, kept_of, kept_persons, same_as}
use Rattle.auc_persons.proofs.bidder.blocks.Blocks.scan.Goals as goal

pub scan_and_list-requires-clause-same : goal.scan_and_list-requires-clause-same
scan_and_list-requires-clause-same c =
    let t = c.args.own.rows.now in
    let made = c.self.inside.made.value in
    let copies = c.args.own.copies.now in
    let persons = c.self.inside.persons.items in
    let bounds = c.self.inside.bounds.items in
    let b = c.index-blocked.result.now in
    let lt : c.args.place < length persons = omega (arith, c.len.ensures, c.if-place-len.false) in
    let kept = All-same (KeepsListed t copies) (map (of_blocked made) persons ++ map (of_bound made) bounds) c.args.self.now c.self.view_is c.requires.kept in
    let here : KeepsListed t copies (of_blocked made b) = rw c.index-blocked.ensures (All-get_or (λ x. KeepsListed t copies (of_blocked made x)) persons c.args.place b lt (kept_persons made t copies persons bounds kept)) in
    let has : HasArcs made b = rw c.index-blocked.ensures (All-get_or (HasArcs made) persons c.args.place b lt c.self.invariant.0) in
    let sound = rw c.row-arcs.ensures.row at c.row-arcs.ensures.sound in
    let row = same_as made t copies b c.args.own.person here has (omega (arith, c.if-blocked-own.false)) (omega (arith, c.if-blocked-arcs.false, ap length c.row-arcs.ensures.row)) sound.rising in
    row

pub scan_and_list-requires-clause-right : goal.scan_and_list-requires-clause-right
scan_and_list-requires-clause-right c =
    let t = c.args.own.rows.now in
    let made = c.self.inside.made.value in
    let copies = c.args.own.copies.now in
    let persons = c.self.inside.persons.items in
    let bounds = c.self.inside.bounds.items in
    let kept = All-same (KeepsListed t copies) (map (of_blocked made) persons ++ map (of_bound made) bounds) c.args.self.now c.self.view_is c.requires.kept in
    rw c.as_mut_slice.ensures.value (kept_bounds made t copies persons bounds kept)

pub scan_and_list-requires-clause-numbered : goal.scan_and_list-requires-clause-numbered
scan_and_list-requires-clause-numbered c =
    let persons = c.self.inside.persons.items in
    let bounds = c.self.inside.bounds.items in
    let b = c.index-blocked.result.now in
    let lt : c.args.place < length persons = omega (arith, c.len.ensures, c.if-place-len.false) in
    rw c.as_mut_slice.ensures.value (rw c.index-blocked.ensures (All-get_or (AreNumbered bounds) persons c.args.place b lt c.self.invariant.1))

pub invariant_of-self : goal.invariant_of-self
invariant_of-self c =
    let persons = c.self.inside.persons.items in
    let bounds = c.self.inside.bounds.items in
    let after = c.scan_and_list.new.bounds in
    let same : AreOfSame bounds after = rw c.as_mut_slice.ensures.value at c.scan_and_list.ensures.same in
    let len : length after ≡ c.self.inside.bounds.len = omega (arith, c.scan_and_list.ensures.same.many, c.as_mut_slice.ensures.len, ap length c.as_mut_slice.ensures.value) in
    (c.self.invariant.0, rw (with_items_is c.self.inside.bounds after len) (all_numbered_still bounds after persons same c.self.invariant.1))

pub returns-clause-kept : goal.returns-clause-kept
returns-clause-kept c =
    let t = c.args.own.rows.now in
    let made = c.self.inside.made.value in
    let copies = c.args.own.copies.now in
    let persons = c.self.inside.persons.items in
    let bounds = c.self.inside.bounds.items in
    let kept = All-same (KeepsListed t copies) (map (of_blocked made) persons ++ map (of_bound made) bounds) c.args.self.now c.self.view_is c.requires.kept in
    let len : length c.scan_and_list.new.bounds ≡ c.self.inside.bounds.len = omega (arith, c.scan_and_list.ensures.same.many, c.as_mut_slice.ensures.len, ap length c.as_mut_slice.ensures.value) in
    rw (with_items_is c.self.inside.bounds c.scan_and_list.new.bounds len) (kept_of made t copies persons c.scan_and_list.new.bounds (kept_persons made t copies persons bounds kept) c.scan_and_list.ensures.right)

pub returns-then-person-own-clause-lists : goal.returns-then-person-own-clause-lists
returns-then-person-own-clause-lists c =
    let P = KeepsListed c.args.own.rows.now c.args.own.copies.now in
    let lists = c.args.lists.now in
    let lt : c.args.place < length lists = omega (arith, c.if-place-lists.false) in
    All-set P lists c.args.place (get_or lists c.args.place c.index-lists-place.result) (All-get_or P lists c.args.place c.index-lists-place.result lt c.requires.lists) c.requires.lists

pub returns-clause-lists : goal.returns-clause-lists
returns-clause-lists c = All-set (KeepsListed c.args.own.rows.now c.args.own.copies.now) c.args.lists.now c.args.place c.scan_and_list.new.list c.scan_and_list.ensures.keeps c.requires.lists
