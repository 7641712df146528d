use Rattle.std.proofs.Common.{◌≡◌, length, sym, ◌∙◌}
use Rattle.auc_persons.proofs.Shortlists.{kept_rises}
use Rattle.shard_tests.proofs.twins.Twins.hears.Goals as goal

pub returns : goal.returns
returns c = record {
  made_whole = record {
    persons = c.requires.made_whole.persons ∙ sym c.on_letter-whole.ensures.shape.persons;
    objects = c.requires.made_whole.objects ∙ sym c.on_letter-whole.ensures.shape.objects;
  };
  made_listed = record {
    persons = c.requires.made_listed.persons ∙ sym c.on_letter-listed.ensures.shape.persons;
    objects = c.requires.made_listed.objects ∙ sym c.on_letter-listed.ensures.shape.objects;
  };
  kept = kept_rises c.args._rows.now c.args.self.now.listed.copies c.on_letter-listed.new.self.copies c.args.self.now.bidder c.on_letter-listed.ensures.rise c.requires.kept;
}
