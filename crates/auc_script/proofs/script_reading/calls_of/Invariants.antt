use Rattle.std.proofs.Common.{◌≡◌, ◌≤◌, ◌+◌, ◌*◌, ◌-◌, length, All}
use Rattle.auc_graph.specs.Tokens.{tokens}
use Rattle.auc_script.specs.ScriptLimits.{most_calls}
use Rattle.auc_script.specs.Script.{calls_from}
use Rattle.auc_mail.specs.Step.{FitsIn}
use Rattle.auc_script.proofs.ScriptLaws.{in_front}
use Rattle.auc_script.proofs.script_reading.calls_of.Given as goal

abbrev pub invariant-loop-word : goal.invariant-loop-word
invariant-loop-word l = record {
  told : in_front l.calls.items (calls_from (most_calls - length l.calls.items) l.boxes l.senders l.place (tokens l.rest)) ≡ calls_from most_calls l.boxes l.senders 5 (tokens l.text);
  within : All (FitsIn l.senders l.boxes) l.calls.items;
  few : length l.calls.items ≤ most_calls;
  place : l.place ≤ 5 + 5 * length l.calls.items;
}

abbrev pub decreases-loop-word : goal.decreases-loop-word
decreases-loop-word l = length l.rest
