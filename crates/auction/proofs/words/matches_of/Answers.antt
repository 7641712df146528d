use Rattle.std.proofs.Common.{◌≡◌, ◌∙◌}
use Rattle.clap.specs.Words.{app_of}
use Rattle.clap.specs.declared.error.kind.ErrorKind.TheVariants.{OutOfMemory}
use Rattle.auction.proofs.GrammarLaws.{faultless_by, found_by, passed_by}
use Rattle.auction.proofs.words.matches_of.Goals as goal

pub returns-in-Ok-clause-found : goal.returns-in-Ok-clause-found
returns-in-Ok-clause-found c = found_by (app_of c.in_ok-all_commands.field-0) _ c.in-Ok.matches c.in_ok-all_commands.ensures c.in-Ok.ensures.matches

pub returns-in-Ok-clause-faultless : goal.returns-in-Ok-clause-faultless
returns-in-Ok-clause-faultless c = faultless_by (app_of c.in_ok-all_commands.field-0) _ c.in_ok-all_commands.ensures c.in-Ok.ensures.kinds

pub returns-clause-taken : goal.returns-clause-taken
returns-clause-taken c = λ taken.
    let same : c.kind.result ≡ OutOfMemory = c.kind.ensures ∙ passed_by (app_of c.in_ok-all_commands.field-0) _ c.in_ok-all_commands.ensures c.in-Err.ensures.passes taken in
    let unequal = c.if-eq.false in
    let equal = rw same at c.eq.ensures in
    absurd cc
