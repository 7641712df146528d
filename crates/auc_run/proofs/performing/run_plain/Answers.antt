use Rattle.auc_run.proofs.performing.run_plain.Goals as goal

pub returns-clause-said : goal.returns-clause-said
returns-clause-said g c = λ told.
    let ended = c.perform_plainly.ensures.ended in
    let whole = ended.ends.whole told in
    record { outcome = ended.outcome; is = ended.is; text = whole.0; status_is = whole.1 }

pub returns-clause-unwritten : goal.returns-clause-unwritten
returns-clause-unwritten g c = λ cut.
    let ended = c.perform_plainly.ensures.ended in
    record { outcome = ended.outcome; is = ended.is; text = ended.ends.cut cut }
