use Rattle.std.proofs.Common.{◌≡◌, length, arith}
use Rattle.auc_script.proofs.ReplyLaws.{are_replies}
use Rattle.auc_script.proofs.replies.replies_to.Goals as goal

pub returns : goal.returns
returns c =
    let one_each : length c.in_ok-replies.replies.items ≡ length c.as_slice.result.now = omega (arith, c.in_ok-replies.ensures.one_each) in
    rw c.new.ensures
    (are_replies c.args.script.now c.as_slice.result.now c.in_ok-replies.replies.items c.in-Ok.pool c.run_script.new.pool c.as_slice.ensures c.in-Ok.ensures.made one_each
    c.in_ok-replies.ensures.run c.in_ok-replies.ensures.in_order c.in_ok-replies.ensures.closed)
