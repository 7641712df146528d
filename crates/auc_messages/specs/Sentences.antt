-- The sentences, as they are written.
use Rattle.std.specs.Prelude.{ℕ, ◌+◌, Bool, true, false, not, ◌&&◌, ◌==◌, nat_le, if◌then◌else◌, List, [], ◌∷◌, ◌++◌, map, codes, Option, Some, None}
use Rattle.std.specs.Fmt.{decimal}
use Rattle.auc_place.specs.declared.place.Place.{Place}
use Rattle.auc_messages.specs.Names.{front_of}
use Rattle.auc_messages.specs.declared.spot.Spot.{Spot}
use Rattle.auc_messages.specs.declared.spot.Spot.TheVariants.{All, Token, Line, Person, Object}

-- printable ASCII stays, but for the quotation mark, and every other byte is shown as a question mark
abbrev pub shown_byte : ℕ → ℕ
shown_byte b = if nat_le 33 b && nat_le b 126 && not (b == 34) then b else 63

-- no line feed is among these bytes
abbrev pub is_one_line : List ℕ → Bool
is_one_line [] = true
is_one_line (b ∷ bs) = not (b == 10) && is_one_line bs

-- at least one byte, and no line feed
abbrev pub is_phrase : List ℕ → Bool
is_phrase [] = false
is_phrase (b ∷ bs) = not (b == 10) && is_one_line bs

-- how a token ends that is shown, in full or not
abbrev pub quote_end : Bool → List ℕ
quote_end true = codes "\""
quote_end false = codes "...\""

-- a sentence about the whole input of this name
abbrev pub sentence_of_all : List ℕ → List ℕ → List ℕ
sentence_of_all name phrase = front_of name ++ (codes ": " ++ phrase ++ codes "\n")

-- a sentence about what has this number, from 0 on, in the input of this name
abbrev pub sentence_numbered : List ℕ → List ℕ → ℕ → List ℕ → List ℕ
sentence_numbered name what number phrase = front_of name ++ (what ++ decimal (number + 1) ++ codes ": " ++ phrase ++ codes "\n")

-- a sentence about a spot of the input of this name
abbrev pub sentence_on : List ℕ → Spot → List ℕ → List ℕ
sentence_on name All phrase = sentence_of_all name phrase
sentence_on name (Token token) phrase = sentence_numbered name (codes ", token ") token phrase
sentence_on name (Line line) phrase = sentence_numbered name (codes ", line ") line phrase
sentence_on name (Person person) phrase = sentence_numbered name (codes ", person ") person phrase
sentence_on name (Object object) phrase = sentence_numbered name (codes ", object ") object phrase

-- where a token stands, and its first bytes in quotation marks
abbrev pub place_words : List ℕ → Place → List ℕ
place_words name place = front_of name ++ (codes ", line " ++ decimal place.line ++ codes ", column " ++ decimal place.column ++ codes ", \"")

abbrev pub quoted_end : Bool → List ℕ → List ℕ
quoted_end whole phrase = quote_end whole ++ codes ": " ++ phrase ++ codes "\n"

-- a sentence about a token, by its place
abbrev pub sentence_at : List ℕ → Place → List ℕ → List ℕ
sentence_at name place phrase = place_words name place ++ (map shown_byte place.front.items ++ quoted_end place.whole phrase)

-- a sentence about no input
abbrev pub sentence_alone : List ℕ → List ℕ
sentence_alone phrase = codes "auction: " ++ phrase ++ codes "\n"

-- the sentence of a remark: by the place where it is known, by the spot where there is an input, and else alone
abbrev pub sentence : Option (List ℕ) → Option Place → Spot → List ℕ → List ℕ
sentence None place spot phrase = sentence_alone phrase
sentence (Some name) None spot phrase = sentence_on name spot phrase
sentence (Some name) (Some place) spot phrase = sentence_at name place phrase
