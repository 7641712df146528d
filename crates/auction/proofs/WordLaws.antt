-- What the parser sees of a name.
use Rattle.std.proofs.Common.{◌≡◌, ◌==◌, false, [], ◌∷◌, None, codes, refl}
use Rattle.std.proofs.lemmas.Bool.{ne_eqb}
use Rattle.std.specs.Str.{bytes_eq}
use Rattle.clap.specs.Lexer.{strip_byte}
use Rattle.clap.specs.Words.{Text}
use Rattle.auction.specs.Arguments.{IsName}

-- a name begins with no hyphen and is not `--`, as the parser tests it
pub no_hyphen : (word : Text) → IsName word → (strip_byte 45 word ≡ None) × (bytes_eq word (codes "--") ≡ false)
no_hyphen [] h = (refl, refl)
no_hyphen (b ∷ bytes) h = let e : (b == 45) ≡ false = ne_eqb b 45 h in (simp e, simp e)
