use Rattle.std.proofs.Common.{◌≡◌, ◌++◌, ap, length, arith}
use Rattle.std.proofs.lemmas.List.{with_items_is}
use Rattle.std.proofs.lemmas.List.Elements.{All-append, All-same}
use Rattle.auc_persons.specs.Candidates.{KeepsListed}
use Rattle.auc_persons.proofs.KeptBlocks.{behind, front}
use Rattle.auc_persons.proofs.bidder.Bidder.best_long.Goals as goal

pub scan_list-found-requires : goal.scan_list-found-requires
scan_list-found-requires c =
    let P = KeepsListed c.args.own.rows.now c.args.own.copies.now in
    let kept = All-same P (c.self.inside.lists.items ++ (c.self.inside.blocks ++ c.self.inside.methods)) c.args.self.now c.self.view_is c.requires.kept in
    record { kept = rw c.as_mut_slice-lists.ensures.value (front P c.self.inside.lists.items (c.self.inside.blocks ++ c.self.inside.methods) kept) }

pub returns-then-is_some-clause-kept : goal.returns-then-is_some-clause-kept
returns-then-is_some-clause-kept c =
    let P = KeepsListed c.args.own.rows.now c.args.own.copies.now in
    let kept = All-same P (c.self.inside.lists.items ++ (c.self.inside.blocks ++ c.self.inside.methods)) c.args.self.now c.self.view_is c.requires.kept in
    let len : length c.scan_list-found.new.lists ≡ c.self.inside.lists.len = omega (arith, c.scan_list-found.ensures.length, c.as_mut_slice-lists.ensures.len, ap length c.as_mut_slice-lists.ensures.value) in
    rw (with_items_is c.self.inside.lists c.scan_list-found.new.lists len) (All-append P c.scan_list-found.new.lists (c.self.inside.blocks ++ c.self.inside.methods) c.scan_list-found.ensures.kept (behind P c.self.inside.lists.items (c.self.inside.blocks ++ c.self.inside.methods) kept))

pub scan-requires-clause-kept : goal.scan-requires-clause-kept
scan-requires-clause-kept c =
    let P = KeepsListed c.args.own.rows.now c.args.own.copies.now in
    let kept = All-same P (c.self.inside.lists.items ++ (c.self.inside.blocks ++ c.self.inside.methods)) c.args.self.now c.self.view_is c.requires.kept in
    front P c.self.inside.blocks c.self.inside.methods (behind P c.self.inside.lists.items (c.self.inside.blocks ++ c.self.inside.methods) kept)

pub returns-clause-kept : goal.returns-clause-kept
returns-clause-kept c =
    let P = KeepsListed c.args.own.rows.now c.args.own.copies.now in
    let kept = All-same P (c.self.inside.lists.items ++ (c.self.inside.blocks ++ c.self.inside.methods)) c.args.self.now c.self.view_is c.requires.kept in
    let methods = behind P c.self.inside.blocks c.self.inside.methods (behind P c.self.inside.lists.items (c.self.inside.blocks ++ c.self.inside.methods) kept) in
    let len : length c.scan.new.lists ≡ c.self.inside.lists.len = omega (arith, c.scan.ensures.length, c.scan_list-found.ensures.length, c.as_mut_slice-lists.ensures.len, ap length c.as_mut_slice-lists.ensures.value) in
    rw (with_items_is c.self.inside.lists c.scan.new.lists len) (All-append P c.scan.new.lists (c.scan.new.self ++ c.self.inside.methods) c.scan.ensures.lists (All-append P c.scan.new.self c.self.inside.methods c.scan.ensures.kept methods))
