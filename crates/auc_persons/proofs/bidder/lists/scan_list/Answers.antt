use Rattle.std.proofs.Common.{get_or, ◌<◌, length, arith}
use Rattle.std.proofs.lemmas.List.Elements.{All-get_or, All-set}
use Rattle.auc_persons.specs.Candidates.{KeepsListed}
use Rattle.auc_persons.proofs.Shortlists.{keeps_at, keeps_back}
use Rattle.auc_persons.proofs.bidder.lists.scan_list.Goals as goal

pub returns-then-person-own-clause-kept : goal.returns-then-person-own-clause-kept
returns-then-person-own-clause-kept c =
    let P = KeepsListed c.args.own.rows.now c.args.own.copies.now in
    let lt : c.args.place < length c.args.lists.now = omega (arith, c.if-place-lists.false) in
    All-set P c.args.lists.now c.args.place (get_or c.args.lists.now c.args.place c.index-lists-place.result) (All-get_or P c.args.lists.now c.args.place c.index-lists-place.result lt c.requires.kept) c.requires.kept

pub scan-requires : goal.scan-requires
scan-requires c =
    let P = KeepsListed c.args.own.rows.now c.args.own.copies.now in
    let lt : c.args.place < length c.args.lists.now = omega (arith, c.if-place-lists.false) in
    let here = All-get_or P c.args.lists.now c.args.place c.index-lists-place.result lt c.requires.kept in
    let scale = c.of-row.ensures.scale in
    record { keeps = rw c.of-row.ensures.copies (keeps_at c.args.own.rows.now c.args.own.copies.now (get_or c.args.lists.now c.args.place c.index-lists-place.result) c.args.own.person c.of-row.result.scale c.of-row.result.arcs.now here (omega (arith, c.person.ensures)) scale c.of-row.ensures.arcs) }

pub returns-clause-kept : goal.returns-clause-kept
returns-clause-kept c =
    let P = KeepsListed c.args.own.rows.now c.args.own.copies.now in
    let scale = c.of-row.ensures.scale in
    let keeps = rw c.of-row.ensures.copies at (c.scan.ensures.keeps) in
    All-set P c.args.lists.now c.args.place c.scan.new.self (keeps_back c.args.own.rows.now c.args.own.copies.now c.scan.new.self c.args.own.person c.of-row.result.scale c.of-row.result.arcs.now keeps (omega (arith, c.person.ensures, c.scan.ensures.person)) scale c.of-row.ensures.arcs) c.requires.kept
