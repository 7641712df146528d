-- How words give the arguments of a command their values.
use Rattle.std.specs.Prelude.{◌≡◌, ◌≢◌, ◌⊎◌, ℕ, List, [], ◌∷◌, ◌++◌, Option, Some, None, is_some, true, codes, ⊤}
use Rattle.std.specs.List.{IsDistinct}
use Rattle.std.specs.Map.{keys_of, lookup}
use Rattle.std.specs.Str.{bytes_eq}

-- the word is no option: it does not begin with a hyphen
abbrev pub IsName : List ℕ → Type 0
IsName [] = ⊤
IsName (b ∷ bytes) = b ≢ 45

-- the name is one of these
abbrev pub IsOneOf : List ℕ → List (List ℕ) → Type 0
IsOneOf name [] = ⊥
IsOneOf name (first ∷ names) = (name ≡ first) ⊎ IsOneOf name names

-- the words of an option and its value: two words, of which the second begins with no hyphen, or one with an equals
-- sign between them
abbrev pub AreOption : List ℕ → List ℕ → List (List ℕ) → Type 0
AreOption option value words = (IsName value × (words ≡ option ∷ value ∷ [])) ⊎ (words ≡ (option ++ codes "=" ++ value) ∷ [])

-- the words are one of these flags, which has no value, and stands for `true`
pub record IsFlag (flags : List (List ℕ)) (given : List ℕ × List ℕ) (words : List (List ℕ)) : Type 0 where
  pub name : IsOneOf given.0 flags
  pub value : given.1 ≡ codes "true"
  pub words_are : words ≡ (codes "--" ++ given.0) ∷ []

-- the words give the next of these files its name, and then the others are left
pub record IsNextFile (files left : List (List ℕ)) (given : List ℕ × List ℕ) (words : List (List ℕ)) : Type 0 where
  pub next : files ≡ given.0 ∷ left
  pub name : IsName given.1
  pub words_are : words ≡ given.1 ∷ []

-- the words give an argument its value: the next of these files its name, and then the others are left; or one of these
-- options its value; or they are one of these flags
abbrev pub AreArgument : List (List ℕ) → List (List ℕ) → List (List ℕ) → List (List ℕ) → List ℕ × List ℕ → List (List ℕ) → Type 0
AreArgument options flags files left given words = IsNextFile files left given words
    ⊎ ((IsOneOf given.0 options × AreOption (codes "--" ++ given.0) given.1 words × (files ≡ left)) ⊎ (IsFlag flags given words × (files ≡ left)))

-- the words in front are those of one argument, after which these files are left, and the rest those of the others
pub record AreOneAndOthers (One Others : List (List ℕ) → List (List ℕ) → Type 0) (words : List (List ℕ)) : Type 0 where
  pub left : List (List ℕ)
  pub front : List (List ℕ)
  pub rest : List (List ℕ)
  pub one : One left front
  pub others : Others left rest
  pub words_are : words ≡ front ++ rest

-- the words give these arguments their values, one after the other: files in their order, and options and flags
-- anywhere among them
abbrev pub AreArguments : List (List ℕ) → List (List ℕ) → List (List ℕ) → List (List ℕ × List ℕ) → List (List ℕ) → Type 0
AreArguments options flags files [] words = words ≡ []
AreArguments options flags files (first ∷ given) words =
    AreOneAndOthers (λ left front. AreArgument options flags files left first front) (λ left rest. AreArguments options flags left given rest) words

-- the words are a command with these options, these flags and these files, and give these arguments their values, in
-- this order and none twice
pub record AreCommand (command : List ℕ) (options flags files words : List (List ℕ)) (given : List (List ℕ × List ℕ)) : Type 0 where
  pub rest : List (List ℕ)
  pub words_are : words ≡ command ∷ rest
  pub arguments : AreArguments options flags files given rest
  pub distinct : IsDistinct bytes_eq (keys_of given)

-- the value of an argument, where it is given
abbrev pub value_in : List (List ℕ × List ℕ) → List ℕ → Option (List ℕ)
value_in given name = lookup (λ key. bytes_eq key name) given

-- the options of a solve
abbrev pub solve_options : List (List ℕ)
solve_options = codes "workers" ∷ codes "bids" ∷ codes "audit" ∷ codes "objects" ∷ codes "from" ∷ codes "seconds" ∷ []

-- its flags
abbrev pub solve_flags : List (List ℕ)
solve_flags = codes "direct" ∷ codes "progress" ∷ codes "large" ∷ []

-- the flags of a check, and of a hall
abbrev pub large_flags : List (List ℕ)
large_flags = codes "large" ∷ []

-- `solve [FILE]` with options and flags
abbrev pub AreSolve : List (List ℕ) → List (List ℕ × List ℕ) → Type 0
AreSolve words given = AreCommand (codes "solve") solve_options solve_flags (codes "file" ∷ []) words given

-- `check FILE [CERT]` with options and flags
abbrev pub AreCheckOf : List (List ℕ) → List (List ℕ × List ℕ) → Type 0
AreCheckOf words given = AreCommand (codes "check") (codes "objects" ∷ []) large_flags (codes "file" ∷ codes "cert" ∷ []) words given × (is_some (value_in given (codes "file")) ≡ true)

-- `hall [FILE]` with options and flags
abbrev pub AreHallOf : List (List ℕ) → List (List ℕ × List ℕ) → Type 0
AreHallOf words given = AreCommand (codes "hall") (codes "objects" ∷ []) large_flags (codes "file" ∷ []) words given

-- the words are this command, and may have the name of its input
abbrev pub AreJob : List ℕ → List (List ℕ) → Option (List ℕ) → Type 0
AreJob command words None = words ≡ command ∷ []
AreJob command words (Some name) = IsName name × (words ≡ command ∷ name ∷ [])

-- the words are `check` and these two names
pub record AreCheckAndNames (words : List (List ℕ)) (file cert : List ℕ) : Type 0 where
  pub file_name : IsName file
  pub cert_name : IsName cert
  pub words_are : words ≡ codes "check" ∷ file ∷ cert ∷ []

-- the words are `check` and the name of a file, and may have the name of a certificate
abbrev pub AreCheck : List (List ℕ) → List ℕ → Option (List ℕ) → Type 0
AreCheck words file None = IsName file × (words ≡ codes "check" ∷ file ∷ [])
AreCheck words file (Some cert) = AreCheckAndNames words file cert
