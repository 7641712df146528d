use Rattle.std.proofs.Common.{◌≡◌, ◌≤◌, ◌+◌, ◌++◌, ℕ, List, [], length, take, sym, ap, subst, ◌∙◌, arith, length-append}
use Rattle.std.proofs.KnownBytes.{Consumes-nil, Consumes-trans, Consumes-whole}
use Rattle.std.proofs.lemmas.List.{append-nil, length-replicate}
use Rattle.auc_place.specs.declared.search.TheConstants.{PIECE}
use Rattle.auc_place.specs.Places.{IsFound}
use Rattle.auc_place.specs.Search.{IsFinding}
use Rattle.auc_place.proofs.PlaceLaws.{found_early, given_up, is_open}
use Rattle.auc_place.proofs.search.find_token.Goals as goal

pub loop-done-init : goal.loop-done-init
loop-done-init g c = record {
  long = length-replicate {A = ℕ} PIECE 0;
  known = c.new-finding.ensures.undecided;
  seen = [];
  taken = Consumes-nil (g.R.Read.remaining c.args.reader.now);
  least = omega arith;
  most = omega arith;
  finds = c.new-finding.ensures.is c.args.number;
}

-- after the last read there is nothing more
pub returns-in-Ok-eq0-clause-found : goal.returns-in-Ok-eq0-clause-found
returns-in-Ok-eq0-clause-found g c =
    let inv = c.loop-done.invariant in
    let buf_long : length c.read.new.buf ≡ PIECE = c.read.auto.buf ∙ c.loop-done.invariant.long in
    let seen : inv.seen ++ take c.in-Ok-eq0.field-0 c.read.new.buf ≡ inv.seen = ap (λ n. inv.seen ++ take n c.read.new.buf) c.in-Ok-eq0.field-0-test ∙ append-nil inv.seen in
    Consumes-whole (g.R.Read.remaining c.args.reader.now) (g.R.Read.remaining c.read.new.self) (inv.seen ++ take c.in-Ok-eq0.field-0 c.read.new.buf) (λ text. IsFound text c.args.number c.at_end.result)
    (Consumes-trans (g.R.Read.remaining c.args.reader.now) (g.R.Read.remaining c.loop-done.reader) (g.R.Read.remaining c.read.new.self) inv.seen (take c.in-Ok-eq0.field-0 c.read.new.buf) inv.taken c.in-Ok-eq0.ensures.bytes.0)
    (c.in-Ok-eq0.ensures.bytes.1 c.in-Ok-eq0.field-0-test (omega (arith, buf_long)))
    (subst (λ (t : List ℕ). IsFound t c.args.number c.at_end.result) (sym seen) (c.at_end.ensures c.args.number inv.seen inv.finds))

pub returns-in-Behind-clause-found : goal.returns-in-Behind-clause-found
returns-in-Behind-clause-found g c =
    let inv = c.loop-done.invariant in
    let got = take c.in-Ok.count c.read.new.buf in
    let few : c.in-Ok.count ≤ length c.read.new.buf = c.in-Ok.ensures.bound.0 in
    let buf_long : length c.read.new.buf ≡ PIECE = c.read.auto.buf ∙ c.loop-done.invariant.long in
    let got_long : length (take c.in-Ok.count c.read.new.buf) ≡ c.in-Ok.count = sym c.in-Ok.ensures.bound.1 in
    let below = c.loop-done-test.true in
    let found = c.behind-finding.ensures inv.seen (omega (arith, inv.most, got_long, few, buf_long, below, c.ranges.limit)) inv.finds in
    found_early c.args.number c.in-Behind.place (g.R.Read.remaining c.args.reader.now) (g.R.Read.remaining c.read.new.self) (inv.seen ++ take c.in-Ok.count c.read.new.buf)
    (Consumes-trans (g.R.Read.remaining c.args.reader.now) (g.R.Read.remaining c.loop-done.reader) (g.R.Read.remaining c.read.new.self) inv.seen (take c.in-Ok.count c.read.new.buf) inv.taken c.in-Ok.ensures.bytes.0)
    (subst (λ f. IsFinding c.args.number (inv.seen ++ take c.in-Ok.count c.read.new.buf) f) c.in-Behind.is found)

pub loop-done-preserved : goal.loop-done-preserved
loop-done-preserved g c =
    let inv = c.loop-done.invariant in
    let few : c.in-Ok.count ≤ length c.read.new.buf = c.in-Ok.ensures.bound.0 in
    let buf_long : length c.read.new.buf ≡ PIECE = c.read.auto.buf ∙ c.loop-done.invariant.long in
    let got_long : length (take c.in-Ok.count c.read.new.buf) ≡ c.in-Ok.count = sym c.in-Ok.ensures.bound.1 in
    let some = c.in-Ok.count-test.1 in
    let below = c.loop-done-test.true in
    let len : length (inv.seen ++ take c.in-Ok.count c.read.new.buf) ≡ length inv.seen + c.in-Ok.count = length-append inv.seen (take c.in-Ok.count c.read.new.buf) ∙ ap (λ n. length inv.seen + n) got_long in
    record {
      long = buf_long;
      known = is_open c.behind-finding.result c.in_default.not-Behind;
      seen = inv.seen ++ take c.in-Ok.count c.read.new.buf;
      taken = Consumes-trans (g.R.Read.remaining c.args.reader.now) (g.R.Read.remaining c.loop-done.reader) (g.R.Read.remaining c.read.new.self) inv.seen (take c.in-Ok.count c.read.new.buf) inv.taken c.in-Ok.ensures.bytes.0;
      least = omega (arith, len, inv.least, some);
      most = omega (arith, len, inv.most, few, buf_long);
      finds = c.behind-finding.ensures inv.seen (omega (arith, inv.most, got_long, few, buf_long, below, c.ranges.limit)) inv.finds;
    }

pub returns-clause-far : goal.returns-clause-far
returns-clause-far g c = λ many.
    let inv = c.loop-done.invariant in
    given_up c.args.number c.args.limit c.loop-done.finding (g.R.Read.remaining c.args.reader.now) (g.R.Read.remaining c.loop-done.reader) inv.seen inv.taken (omega (arith, inv.least, c.loop-done-test.false)) c.loop-done.invariant.known inv.finds
