-- The effect of a call that writes.
use Rattle.std.specs.Prelude.{◌≡◌, ℕ, ◌<◌, ◌+◌, List, [], ◌++◌, fold, length, codes, Option, Result, Ok, Err}
use Rattle.std.specs.Fmt.{decimal, signed_decimal}
use Rattle.std.specs.Io.KnownBytes.{Appends}
use Rattle.auc_cert.specs.declared.output.Part.{Part}
use Rattle.auc_cert.specs.declared.output.Part.TheVariants.{Words, Space, LineEnd, Count, Place, Number}

-- the writer has got a beginning of this text, and not all of it
pub record Begins (old new : Option (List ℕ)) (text : List ℕ) : Type 0 where
  pub done : List ℕ
  pub rest : List ℕ
  pub some : 0 < length rest
  pub whole : done ++ rest ≡ text
  pub written : Appends old new done

-- At Ok the writer has got exactly this text after what it had, and at Err a beginning of it.
abbrev pub Writes : {X E : Type 0} → Result X E → Option (List ℕ) → Option (List ℕ) → List ℕ → Type 0
Writes (Ok x) old new text = Appends old new text
Writes (Err e) old new text = Begins old new text

-- a part of a line
abbrev pub spelled : Part → List ℕ
spelled (Words bytes) = bytes.now
spelled Space = codes " "
spelled LineEnd = codes "\n"
spelled (Count n) = decimal n
spelled (Place n) = decimal (n + 1)
spelled (Number z) = signed_decimal z

-- the parts, one after another
abbrev pub line_of : List Part → List ℕ
line_of parts = fold (λ t part. t ++ spelled part) [] parts

-- words, a number and the line end
abbrev pub counted : List ℕ → ℕ → List ℕ
counted words n = words ++ decimal n ++ codes "\n"
