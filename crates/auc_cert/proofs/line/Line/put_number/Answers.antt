use Rattle.std.proofs.Common.{◌≡◌, ◌≤◌, ◌+◌, ◌-◌, ◌∷◌, ◌++◌, List, ℕ, length, arith, ap, set, length-set, to_z-of_z, unsigned_abs}
use Rattle.std.specs.Fmt.{decimal, signed_decimal}
use Rattle.std.proofs.lemmas.Fmt.{length-decimal-le}
use Rattle.std.proofs.lemmas.List.{length-drop, drop-set}
use Rattle.auc_cert.proofs.NumberWords.{minus_first}
use Rattle.auc_cert.proofs.line.Line.put_number.Goals as goal

pub write_digits-self-inside-requires : goal.write_digits-self-inside-requires
write_digits-self-inside-requires c =
    let long = length-decimal-le 19 c.unsigned_abs.result (omega arith) (omega arith) (omega arith) in
    (omega (arith, long, length-drop c.self.inside.start c.self.inside.bytes, ap length c.self.view_is), omega arith)

pub overflow_sub-self : goal.overflow_sub-self
overflow_sub-self c =
    let long = length-decimal-le 19 c.unsigned_abs.result (omega arith) (omega arith) (omega arith) in
    omega (arith, long, length-drop c.self.inside.start c.self.inside.bytes, ap length c.self.view_is, c.write_digits-self-inside.ensures.start)

pub returns-then-number-lt0-clause-put : goal.returns-then-number-lt0-clause-put
returns-then-number-lt0-clause-put c =
    let w = c.write_digits-self-inside in
    let long = length-decimal-le 19 c.unsigned_abs.result (omega arith) (omega arith) (omega arith) in
    let some : 1 ≤ w.result = omega (arith, long, length-drop c.self.inside.start c.self.inside.bytes, ap length c.self.view_is, w.ensures.start) in
    let e : w.result - 1 + 1 ≡ w.result = omega arith in
    let back = to_z-of_z c.ranges.number in
    let minus : 45 ∷ decimal (unsigned_abs c.args.number) ≡ signed_decimal c.args.number = minus_first c.args.number (rw back at c.if-number-lt0.true) in
    let value : c.unsigned_abs.result ≡ unsigned_abs c.args.number = rw back at c.unsigned_abs.ensures.value in
    rw (drop-set w.new.buf (w.result - 1) 45 (omega arith), e, w.ensures.written, c.self.view_is, value)
    (ap (λ (t : List ℕ). t ++ c.args.self.now) minus)

pub returns-then-number-lt0-clause-room : goal.returns-then-number-lt0-clause-room
returns-then-number-lt0-clause-room c =
    let long = length-decimal-le 19 c.unsigned_abs.result (omega arith) (omega arith) (omega arith) in
    let w = c.write_digits-self-inside in
    omega (arith, long, length-drop c.self.inside.start c.self.inside.bytes, ap length c.self.view_is, length-drop (w.result - 1) (set w.new.buf (w.result - 1) 45), length-set w.new.buf (w.result - 1) 45, w.ensures.start)

pub returns-else-number-lt0-clause-room : goal.returns-else-number-lt0-clause-room
returns-else-number-lt0-clause-room c =
    let long = length-decimal-le 19 c.unsigned_abs.result (omega arith) (omega arith) (omega arith) in
    let w = c.write_digits-self-inside in
    omega (arith, long, length-drop c.self.inside.start c.self.inside.bytes, ap length c.self.view_is, length-drop w.result w.new.buf, w.ensures.start)
