use Rattle.shard_tests.proofs.twins.Twins.new.Goals as goal

pub returns : goal.returns
returns c = record {
  made_whole = c.in_ok-whole.ensures;
  made_listed = c.in_ok-listed.ensures;
  kept = c.in-Ok.ensures.kept c.in_ok-listed.listed.copies;
}
