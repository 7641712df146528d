-- Which words ask for a page about the program.
use Rattle.std.specs.Prelude.{ℕ, Bool, ◌||◌, if◌then◌else◌, List, [], ◌∷◌, codes, nat_eq, Option, Some, None}
use Rattle.std.specs.Cmp.Lexicographic.{pointwise}
use Rattle.auc_messages.specs.declared.pages.Page.{Page}
use Rattle.auc_messages.specs.declared.pages.Page.TheVariants.{Usage, Solve, Check, Hall, Mail, Version}

abbrev pub is_word : List ℕ → List ℕ → Bool
is_word word given = pointwise nat_eq given word

unfoldable pub is_help : List ℕ → Bool
is_help given = is_word (codes "--help") given || is_word (codes "-h") given

unfoldable pub is_help_command : List ℕ → Bool
is_help_command given = is_word (codes "help") given

unfoldable pub is_version : List ℕ → Bool
is_version given = is_word (codes "--version") given || is_word (codes "-V") given

-- the page about a command
unfoldable pub page_of_command : List ℕ → Option Page
page_of_command given =
    if is_word (codes "solve") given then Some Solve else
    (if is_word (codes "check") given then Some Check else
    (if is_word (codes "hall") given then Some Hall else
    (if is_word (codes "mail") given then Some Mail else None)))

-- one word that asks for help or for the version; or a command before a word that asks for help, or after the command
-- that does
abbrev pub page_of : List (List ℕ) → Option Page
page_of [] = None
page_of (word ∷ []) = if is_help word || is_help_command word then Some Usage else (if is_version word then Some Version else None)
page_of (first ∷ second ∷ []) =
    if is_help second then page_of_command first else (if is_help_command first then page_of_command second else None)
page_of (first ∷ second ∷ third ∷ more) = None
