-- Names of files, as they are shown.
use Rattle.std.specs.Prelude.{ℕ, cond, List, ◌++◌, codes, encode_utf8}
use Rattle.std.specs.List.{flat_map}
use Rattle.std.specs.Char.{is_control}
use Rattle.std.specs.Char.Escape.{escape_default}
use Rattle.std.specs.Str.{chars}

-- a control character as Rust writes it in a literal, and any other one as it is
abbrev pub shown_character : ℕ → List ℕ
shown_character c = cond (is_control c) (escape_default c) (encode_utf8 c)

-- character by character
abbrev pub shown_name : List ℕ → List ℕ
shown_name name = flat_map shown_character (chars name)

-- how a sentence about the input of this name begins
abbrev pub front_of : List ℕ → List ℕ
front_of name = codes "auction: " ++ shown_name name
