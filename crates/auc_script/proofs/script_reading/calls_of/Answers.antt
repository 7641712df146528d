use Rattle.std.proofs.Common.{◌≡◌, ◌+◌, ◌*◌, ◌≤◌, ◌∷◌, [], length, sym, ap, ◌∙◌, arith}
use Rattle.std.proofs.lemmas.List.{length-append}
use Rattle.std.proofs.lemmas.Result.{err_from_is_err_and}
use Rattle.std.proofs.lemmas.List.Elements.{All-push}
use Rattle.auc_graph.specs.Tokens.{tokens}
use Rattle.auc_script.specs.ScriptLimits.{most_calls}
use Rattle.auc_script.specs.Script.{call_by, calls_from}
use Rattle.auc_mail.specs.Step.{FitsIn}
use Rattle.auc_script.proofs.ScriptLaws.{goes_on, is_full, fails, is_done}
use Rattle.auc_script.proofs.script_reading.calls_of.Goals as goal

pub returns-then-len-clause-exact : goal.returns-then-len-clause-exact
returns-then-len-clause-exact c = λ _.
    is_full most_calls c.args.boxes c.args.senders c.loop-word.place c.loop-word.calls.items (tokens c.loop-word.rest.now) c.in-Some.word.now (tokens c.in-Some.after.now) (calls_from most_calls c.args.boxes c.args.senders 5 (tokens c.args.text.now))
    c.in-Some.ensures.found (omega arith) c.loop-word.invariant.told

pub returns-in_err-call-clause-exact : goal.returns-in_err-call-clause-exact
returns-in_err-call-clause-exact c =
    let p = err_from_is_err_and c.from_residual.result c.from_residual.ensures.1 in
    rw (p.1, p.2) (λ _. fails most_calls c.args.boxes c.args.senders c.loop-word.place c.loop-word.calls.items (tokens c.loop-word.rest.now) c.in-Some.word.now (tokens c.in-Some.after.now) c.in_err-call.field-0.0 (calls_from most_calls c.args.boxes c.args.senders 5 (tokens c.args.text.now))
    c.in-Some.ensures.found (omega arith)
    (ap (call_by c.args.boxes c.args.senders c.loop-word.place (tokens c.in-Some.after.now)) (sym c.command_of.ensures) ∙ sym c.in_err-call.ensures.exact) c.loop-word.invariant.told)

pub loop-word-preserved : goal.loop-word-preserved
loop-word-preserved c =
    let e = c.in_ok-push.ensures.items in
    let grown : length c.push.new.self.items ≡ length c.loop-word.calls.items + 1 = omega (arith, ap length e, length-append c.loop-word.calls.items (c.in_ok-call.call ∷ [])) in
    let few : length c.push.new.self.items ≤ most_calls = omega (arith, grown) in
    let place : c.in_ok-call.next ≤ 5 + 5 * length c.push.new.self.items = omega (arith, grown, c.loop-word.invariant.place, c.in_ok-call.ensures.next) in
    record {
      told = rw e (goes_on most_calls c.args.boxes c.args.senders c.loop-word.place c.loop-word.calls.items (tokens c.loop-word.rest.now) c.in-Some.word.now (tokens c.in-Some.after.now) c.in_ok-call.call c.in_ok-call.next (tokens c.in_ok-call.after.now) (calls_from most_calls c.args.boxes c.args.senders 5 (tokens c.args.text.now))
          c.in-Some.ensures.found (omega arith)
          (ap (call_by c.args.boxes c.args.senders c.loop-word.place (tokens c.in-Some.after.now)) (sym c.command_of.ensures) ∙ sym c.in_ok-call.ensures.exact) c.loop-word.invariant.told);
      within = rw e (All-push (FitsIn c.args.senders c.args.boxes) c.loop-word.calls.items c.in_ok-call.call c.loop-word.invariant.within c.in_ok-call.ensures.within);
      few = few;
      place = place;
    }

pub returns-clause-exact : goal.returns-clause-exact
returns-clause-exact c =
    is_done most_calls c.args.boxes c.args.senders c.loop-word.place c.loop-word.calls.items (tokens c.loop-word.rest.now) (calls_from most_calls c.args.boxes c.args.senders 5 (tokens c.args.text.now)) c.in_default.ensures.none c.loop-word.invariant.told
