use Rattle.std.proofs.Common.{◌∙◌, codes, inl, inr, refl}
use Rattle.auc_run.specs.declared.command.Job.TheVariants.{Mail}
use Rattle.auction.proofs.AskLaws.{at_fault, no_memory, asks_alone, asks_both, asks_for_hall, asks_large, asks_threads, asks_to_check, asks_to_solve, asks_watch, asks_watched, asks_wrongly, checks_wrongly, halls_wrongly, same_files}
use Rattle.auction.proofs.CommandFits.{both_file, both_named, check_fits, hall_fits, large_apart, mail_fits, named, named_file, named_script, no_certificate, no_objects, not_direct, not_large, plain_check_fits, plain_hall_fits, plain_solve_fits, solve_fits, usual_numbers, usual_together}
use Rattle.auction.proofs.words.read_words.Goals as goal

pub returns-in_err-matches-clause-check : goal.returns-in_err-matches-clause-check
returns-in_err-matches-clause-check c = λ file cert h. rw (no_memory _ _ c.from_residual.ensures.1 (c.in_err-matches.ensures.taken (plain_check_fits _ file cert h).taken)) refl

pub returns-in_err-matches-clause-check_objects : goal.returns-in_err-matches-clause-check_objects
returns-in_err-matches-clause-check_objects c = λ given objects h are. rw (no_memory _ _ c.from_residual.ensures.1 (c.in_err-matches.ensures.taken (check_fits _ given h).taken)) refl

pub returns-in_err-matches-clause-hall : goal.returns-in_err-matches-clause-hall
returns-in_err-matches-clause-hall c = λ file h. rw (no_memory _ _ c.from_residual.ensures.1 (c.in_err-matches.ensures.taken (plain_hall_fits _ file h).taken)) refl

pub returns-in_err-matches-clause-hall_objects : goal.returns-in_err-matches-clause-hall_objects
returns-in_err-matches-clause-hall_objects c = λ given objects h are. rw (no_memory _ _ c.from_residual.ensures.1 (c.in_err-matches.ensures.taken (hall_fits _ given h).taken)) refl

pub returns-in_err-matches-clause-mail : goal.returns-in_err-matches-clause-mail
returns-in_err-matches-clause-mail c = λ script h. rw (no_memory _ _ c.from_residual.ensures.1 (c.in_err-matches.ensures.taken (mail_fits _ script h).taken)) refl

pub returns-in_err-matches-clause-solve : goal.returns-in_err-matches-clause-solve
returns-in_err-matches-clause-solve c = λ file h. rw (no_memory _ _ c.from_residual.ensures.1 (c.in_err-matches.ensures.taken (plain_solve_fits _ file h).taken)) refl

pub returns-in_err-matches-clause-options : goal.returns-in_err-matches-clause-options
returns-in_err-matches-clause-options c = λ given workers bids audit objects h are together.
    rw (no_memory _ _ c.from_residual.ensures.1 (c.in_err-matches.ensures.taken (solve_fits _ given h).taken)) refl

pub returns-in_err-matches-clause-direct_threads : goal.returns-in_err-matches-clause-direct_threads
returns-in_err-matches-clause-direct_threads c = λ given workers bids audit objects h are is threads.
    rw (no_memory _ _ c.from_residual.ensures.1 (c.in_err-matches.ensures.taken (solve_fits _ given h).taken)) (inr refl)

pub returns-in_err-matches-clause-audit_alone : goal.returns-in_err-matches-clause-audit_alone
returns-in_err-matches-clause-audit_alone c = λ given bids audit objects h are is some.
    rw (no_memory _ _ c.from_residual.ensures.1 (c.in_err-matches.ensures.taken (solve_fits _ given h).taken)) (inr refl)

pub returns-in_err-matches-clause-from_objects : goal.returns-in_err-matches-clause-from_objects
returns-in_err-matches-clause-from_objects c = λ given workers bids audit objects h are is trail both.
    rw (no_memory _ _ c.from_residual.ensures.1 (c.in_err-matches.ensures.taken (solve_fits _ given h).taken)) (inr refl)

pub returns-in_err-matches-clause-watch_alone : goal.returns-in_err-matches-clause-watch_alone
returns-in_err-matches-clause-watch_alone c = λ given workers bids audit objects h are is trail apart watch.
    rw (no_memory _ _ c.from_residual.ensures.1 (c.in_err-matches.ensures.taken (solve_fits _ given h).taken)) (inr refl)

pub returns-in_err-matches-clause-large_alone : goal.returns-in_err-matches-clause-large_alone
returns-in_err-matches-clause-large_alone c = λ given workers bids audit objects h are is trail apart unwatched large.
    rw (no_memory _ _ c.from_residual.ensures.1 (c.in_err-matches.ensures.taken (solve_fits _ given h).taken)) (inr refl)

pub returns-in_err-matches-clause-watched : goal.returns-in_err-matches-clause-watched
returns-in_err-matches-clause-watched c = λ given h. rw (no_memory _ _ c.from_residual.ensures.1 (c.in_err-matches.ensures.taken (solve_fits _ given h).taken)) tt

pub returns-in_err-matches-clause-wrong_number : goal.returns-in_err-matches-clause-wrong_number
returns-in_err-matches-clause-wrong_number c = λ given h none. at_fault _ _ c.from_residual.ensures.1 c.in_err-matches.ensures.refused

pub returns-in_err-matches-clause-wrong_objects : goal.returns-in_err-matches-clause-wrong_objects
returns-in_err-matches-clause-wrong_objects c = λ given h none. at_fault _ _ c.from_residual.ensures.1 c.in_err-matches.ensures.refused

pub returns-in_err-matches-clause-unfit : goal.returns-in_err-matches-clause-unfit
returns-in_err-matches-clause-unfit c = λ fault. at_fault _ _ c.from_residual.ensures.1 c.in_err-matches.ensures.refused

pub returns-clause-check : goal.returns-clause-check
returns-clause-check c = λ file cert h.
    let fits = plain_check_fits _ file cert h in
    let asked = asks_to_check fits.rows (both_named file cert) fits.values c.words_of.result 0 (c.words_of.ensures.check fits.rows (c.in_ok-matches.ensures.found ∙ fits.found)) (no_objects file cert) in
    same_files _ c.words_of.result _ _ _ _ (both_file file cert).0 (both_file file cert).1 (rw (large_apart file cert) at asked)

pub returns-clause-check_objects : goal.returns-clause-check_objects
returns-clause-check_objects c = λ given objects h are.
    let fits = check_fits _ given h in
    asks_to_check fits.rows given fits.values c.words_of.result objects (c.words_of.ensures.check fits.rows (c.in_ok-matches.ensures.found ∙ fits.found)) are

pub returns-clause-hall : goal.returns-clause-hall
returns-clause-hall c = λ file h.
    let fits = plain_hall_fits _ file h in
    let asked = asks_for_hall fits.rows (named (codes "file") file) fits.values c.words_of.result 0 (c.words_of.ensures.hall fits.rows (c.in_ok-matches.ensures.found ∙ fits.found)) (usual_numbers file).of_objects in
    same_files _ c.words_of.result _ _ _ _ (named_file file) refl (rw (not_large file) at asked)

pub returns-clause-hall_objects : goal.returns-clause-hall_objects
returns-clause-hall_objects c = λ given objects h are.
    let fits = hall_fits _ given h in
    asks_for_hall fits.rows given fits.values c.words_of.result objects (c.words_of.ensures.hall fits.rows (c.in_ok-matches.ensures.found ∙ fits.found)) are

pub returns-clause-mail : goal.returns-clause-mail
returns-clause-mail c = λ script h.
    let fits = mail_fits _ script h in
    same_files Mail c.words_of.result _ _ _ _ (fits.values (codes "script") ∙ named_script script) refl (c.words_of.ensures.mail fits.rows (c.in_ok-matches.ensures.found ∙ fits.found))

pub returns-clause-solve : goal.returns-clause-solve
returns-clause-solve c = λ file h.
    let fits = plain_solve_fits _ file h in
    let asked = asks_to_solve fits.rows (named (codes "file") file) fits.values c.words_of.result 0 100000000 0 0 (c.words_of.ensures.solve fits.rows (c.in_ok-matches.ensures.found ∙ fits.found)) (usual_numbers file) (usual_together file) in
    rw (no_certificate file, not_direct file, not_large file, named_file file) at asked

pub returns-clause-options : goal.returns-clause-options
returns-clause-options c = λ given workers bids audit objects h are together.
    let fits = solve_fits _ given h in
    asks_to_solve fits.rows given fits.values c.words_of.result workers bids audit objects (c.words_of.ensures.solve fits.rows (c.in_ok-matches.ensures.found ∙ fits.found)) are together

pub returns-clause-wrong_number : goal.returns-clause-wrong_number
returns-clause-wrong_number c = λ given h none.
    let fits = solve_fits _ given h in
    asks_wrongly fits.rows given fits.values c.words_of.result (c.words_of.ensures.solve fits.rows (c.in_ok-matches.ensures.found ∙ fits.found)) none

pub returns-clause-wrong_objects : goal.returns-clause-wrong_objects
returns-clause-wrong_objects c = λ given h none. elim h [
  | inl check ↦
      let fits = check_fits _ given check in
      checks_wrongly fits.rows given fits.values c.words_of.result (c.words_of.ensures.check fits.rows (c.in_ok-matches.ensures.found ∙ fits.found)) none
  | inr hall ↦
      let fits = hall_fits _ given hall in
      halls_wrongly fits.rows given fits.values c.words_of.result (c.words_of.ensures.hall fits.rows (c.in_ok-matches.ensures.found ∙ fits.found)) none
]

pub returns-clause-direct_threads : goal.returns-clause-direct_threads
returns-clause-direct_threads c = λ given workers bids audit objects h are is threads.
    let fits = solve_fits _ given h in
    asks_threads fits.rows given fits.values c.words_of.result workers bids audit objects (c.words_of.ensures.solve fits.rows (c.in_ok-matches.ensures.found ∙ fits.found)) are is threads

pub returns-clause-audit_alone : goal.returns-clause-audit_alone
returns-clause-audit_alone c = λ given bids audit objects h are is some.
    let fits = solve_fits _ given h in
    asks_alone fits.rows given fits.values c.words_of.result bids audit objects (c.words_of.ensures.solve fits.rows (c.in_ok-matches.ensures.found ∙ fits.found)) are is some

pub returns-clause-from_objects : goal.returns-clause-from_objects
returns-clause-from_objects c = λ given workers bids audit objects h are is trail both.
    let fits = solve_fits _ given h in
    asks_both fits.rows given fits.values c.words_of.result workers bids audit objects (c.words_of.ensures.solve fits.rows (c.in_ok-matches.ensures.found ∙ fits.found)) are is trail both

pub returns-clause-watch_alone : goal.returns-clause-watch_alone
returns-clause-watch_alone c = λ given workers bids audit objects h are is trail apart watch.
    let fits = solve_fits _ given h in
    asks_watch fits.rows given fits.values c.words_of.result workers bids audit objects (c.words_of.ensures.solve fits.rows (c.in_ok-matches.ensures.found ∙ fits.found)) are is trail apart watch

pub returns-clause-large_alone : goal.returns-clause-large_alone
returns-clause-large_alone c = λ given workers bids audit objects h are is trail apart unwatched large.
    let fits = solve_fits _ given h in
    asks_large fits.rows given fits.values c.words_of.result workers bids audit objects (c.words_of.ensures.solve fits.rows (c.in_ok-matches.ensures.found ∙ fits.found)) are is trail apart unwatched large

pub returns-clause-watched : goal.returns-clause-watched
returns-clause-watched c = λ given h.
    let fits = solve_fits _ given h in
    asks_watched fits.rows given fits.values c.words_of.result (c.words_of.ensures.solve fits.rows (c.in_ok-matches.ensures.found ∙ fits.found))
