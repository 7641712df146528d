use Rattle.auc_threads.proofs.PostingLaws.{says_shards, within_shards}
use Rattle.auc_threads.proofs.saying.say.Goals as goal

pub send-requires : goal.send-requires
send-requires g c = within_shards _ _ _ c.args.run.now.boxes.persons_boxes c.requires (c.has_first.ensures c.if-not-has_first.true)

pub returns-then-not-has_first-clause-says : goal.returns-then-not-has_first-clause-says
returns-then-not-has_first-clause-says g c = says_shards _ _ _ c.args.seats.now.objects _ _ (c.has_first.ensures c.if-not-has_first.true) c.send.ensures
