-- What the watch over a call has come to.
use Rattle.std.specs.Prelude.{Bool, ◌==◌, ◌&&◌, not}
use Rattle.sigdorf_c.specs.declared.watch.Lookout.{Lookout}

-- whether it was asked
abbrev pub was_asked : Lookout → Bool
was_asked lookout = not (lookout.asked == 0)

-- whether it has said no, which comes of a question alone
abbrev pub has_stopped : Lookout → Bool
has_stopped lookout = was_asked lookout && lookout.has_stopped
