-- Lines of a trail, and their workers.
use Rattle.std.specs.Prelude.{◌≡◌, ℕ, ◌==◌, List, [], ◌∷◌, ◌++◌, map, filter, if◌then◌else◌}
use Rattle.auc_mail.specs.declared.call.Call.{Call}
use Rattle.auc_mail.specs.declared.call.Call.TheVariants.{Post, Take, Close}
use Rattle.auc_mail.specs.declared.call.Reply.{Reply}
use Rattle.auc_book.specs.declared.line.TrailLine.{TrailLine}

-- the calls of some lines, with their replies
abbrev pub events_of : {T : Type 0} → List (TrailLine T) → List (Call T × Reply T)
events_of lines = map (λ l. (l.call, l.reply)) lines

-- the lines of one worker
abbrev pub lines_of : {T : Type 0} → ℕ → List (TrailLine T) → List (TrailLine T)
lines_of k lines = filter (λ l. l.worker == k) lines

-- the lines with one more, where there is room for lines at all
abbrev pub noted : {T : Type 0} → ℕ → List (TrailLine T) → TrailLine T → List (TrailLine T)
noted room lines line = if room == 0 then lines else (lines ++ line ∷ [])

-- a call in the worker's own name: the sender of a post is the worker
abbrev pub IsOwn : {T : Type 0} → ℕ → Call T → Type 0
IsOwn k (Post s b x r) = s ≡ k
IsOwn k (Take b) = Unit {0}
IsOwn k (Close b) = Unit {0}

-- the call takes from the box
abbrev pub IsTakeAt : {T : Type 0} → ℕ → Call T → Type 0
IsTakeAt b (Post s b' x r) = ⊥
IsTakeAt b (Take b') = b' ≡ b
IsTakeAt b (Close b') = ⊥
