use Rattle.std.proofs.Common.{refl, ◌∙◌}
use Rattle.clap.specs.Words.{found_of}
use Rattle.clap.proofs.WalkLemmas.{first_value-rows}
use Rattle.auction.proofs.words.job_of_two.Goals as goal

pub returns-clause-names : goal.returns-clause-names
returns-clause-names c = record {
  job_is = refl;
  first_is = c.in_ok-name_of.ensures ∙ first_value-rows (found_of c.args.matches.now) c.args.first.now;
  second_is = c.in_ok-name_of-2.ensures ∙ first_value-rows (found_of c.args.matches.now) c.args.second.now;
}
