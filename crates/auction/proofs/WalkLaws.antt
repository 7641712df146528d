-- How the parser walks over the words of a command: each argument adds its row to those before it.
use Rattle.std.proofs.Common.{◌≡◌, ◌∙◌, ◌+◌, ◌&&◌, ◌||◌, ℕ, Bool, true, false, not, List, [], ◌∷◌, ◌++◌, Option, Some, None, codes, map, min, refl, ap, inl, inr, append-nil, append_assoc}
use Rattle.std.specs.List.{AllByRecursion, IsDistinct, fold, list_all}
use Rattle.std.specs.Bool.{⊤}
use Rattle.std.specs.Map.{keys_of}
use Rattle.std.specs.Str.{bytes_eq}
use Rattle.std.proofs.lemmas.Bool.{cases_Bool}
use Rattle.std.proofs.lemmas.List.Folds.{list_any-append}
use Rattle.std.proofs.lemmas.List.Sums.{fold-append}
use Rattle.std.proofs.lemmas.Slice.Eq.{bytes_eq-Decides}
use Rattle.clap.specs.Lexer.{long_of, usize_max}
use Rattle.clap.specs.Walk.{Row, Rule, Text, Walk, arg_by_id, arg_by_index, arg_by_long, at_row, first_of, has_row, idle, more_values, nothing_held, option, rows_after, settled_rows, walked, with_default, with_values, without}
use Rattle.clap.specs.Values.{reading_of}
use Rattle.clap.specs.Simple.{Shape, new_rule, new_shape}
use Rattle.clap.specs.Takes.{default_passes, is_given, level_passes, settle_passes, turn_passes, walk_passes}
use Rattle.clap.specs.declared.builder.action.ArgAction.TheVariants.{Set}
use Rattle.clap.specs.declared.builder.value_parser.ValueParser.TheVariants as parser
use Rattle.clap.specs.declared.parser.matches.ValueSource.TheVariants.{CommandLine}
use Rattle.clap.proofs.OnLiterals.{clap_on_literals}
use Rattle.clap.proofs.WalkLemmas.{both}
use Rattle.auction.specs.Arguments.{AreArgument, AreArguments, IsName, IsOneOf, value_in}
use Rattle.auction.proofs.WordLaws.{no_hyphen}

-- an argument as the parser builds it: it takes one value, any text
abbrev pub built_rule : Text → Option Text → Option ℕ → Bool → Rule
built_rule name long index required = record (new_rule name) {
  long = long;
  index = index;
  required = required;
  action = Some Set;
  range = Some (record { start_inclusive = 1; end_inclusive = 1 });
  parser = Some parser.String;
}

-- a flag as the parser builds it: it takes no value, and `true` stands for it
abbrev pub built_flag : Text → Rule
built_flag name = record (new_rule name) {
  long = Some name;
  action = Some Set;
  range = Some (record { start_inclusive = 0; end_inclusive = 0 });
  missing = codes "true" ∷ [];
  parser = Some parser.String;
}

-- a command as the parser builds it
abbrev pub built_shape : Text → List Rule → Shape
built_shape name rules = record (new_shape name) {
  rules = rules;
  no_binary_name = true;
  disable_help_flag = true;
  disable_help_subcommand = true;
  disable_version_flag = true;
  is_built = true;
}

-- the row of an argument that is given once
abbrev pub row_of_value : Text × Text → Row
row_of_value given = record { id = given.0; values = given.1 ∷ []; count = None; source = Some CommandLine; reading = reading_of parser.String }

-- the parser reads the name, and the value after an equals sign, from the words of the option
pub record IsLong (name : Text) : Type 0 where
  pub alone : long_of (codes "--" ++ name) ≡ Some (name, None)
  pub valued : (value : Text) → long_of ((codes "--" ++ name) ++ codes "=" ++ value) ≡ Some (name, Some value)
  pub is_more : bytes_eq (codes "--" ++ name) (codes "--") ≡ false
  pub is_more_valued : (value : Text) → bytes_eq ((codes "--" ++ name) ++ codes "=" ++ value) (codes "--") ≡ false

-- the rules have this option
pub record HasOption (rules : List Rule) (name : Text) : Type 0 where
  pub by_long : arg_by_long rules name ≡ Some (built_rule name (Some name) None false)
  pub by_id : arg_by_id rules name ≡ Some (built_rule name (Some name) None false)
  pub is_long : IsLong name

-- the rules have this flag
pub record HasFlag (rules : List Rule) (name : Text) : Type 0 where
  pub by_long : arg_by_long rules name ≡ Some (built_flag name)
  pub is_long : IsLong name

-- the rules have this positional in this place
pub record HasFile (rules : List Rule) (position : ℕ) (name : Text) : Type 0 where
  pub required : Bool
  pub by_index : arg_by_index rules position ≡ Some (built_rule name None (Some position) required)
  pub by_id : arg_by_id rules name ≡ Some (built_rule name None (Some position) required)

-- the rules have these positionals, from this place on
abbrev pub HasFiles : List Rule → ℕ → List Text → Type 0
HasFiles rules position [] = ⊤
HasFiles rules position (name ∷ names) = HasFile rules position name × HasFiles rules (min (position + 1) usize_max) names

-- ---- rows

absent : (id : Text) (change : Row → List Row) (missing rows : List Row) → has_row id rows ≡ false → at_row id change missing rows ≡ rows ++ missing
absent id change missing [] h = refl
absent id change missing (r ∷ rows) h = elim (cases_Bool (bytes_eq r.id id)) [
  | inl same ↦ absurd (let k = rw same at h in cc)
  | inr apart ↦ rw apart (ap (λ rest. r ∷ rest) (absent id change missing rows (rw apart at h)))
]

-- the value of an argument that has no row yet becomes the last row
new_row : (given : Text × Text) (rows : List Row) → has_row given.0 rows ≡ false
    → with_values given.0 (reading_of parser.String) CommandLine (given.1 ∷ []) (without given.0 rows) ≡ rows ++ row_of_value given ∷ []
new_row given rows h =
    let same : without given.0 rows ≡ rows = absent given.0 (λ _. []) [] rows h ∙ append-nil rows in
    rw same (absent given.0 (more_values CommandLine (given.1 ∷ [])) (row_of_value given ∷ []) rows h)

-- ---- the walk between two arguments

abbrev walk_at : List Row → Option (Text × List Text) → ℕ → Walk
walk_at rows pending position = record { held = record { rows = rows; pending = pending; skip = 0 }; waiting = idle; position = position; is_trailing = false; stopped = None }

-- the walk after an option that waits for its value
abbrev walk_behind : List Row → Text → ℕ → Walk
walk_behind rows name position = record (walk_at rows (Some (name, [])) position) { waiting = option name }

still_absent : (given : Text × Text) (rows : List Row) (names : List Text) → AllByRecursion (λ name. bytes_eq given.0 name ≡ false) names
    → AllByRecursion (λ name. has_row name rows ≡ false) names → AllByRecursion (λ name. has_row name (rows ++ row_of_value given ∷ []) ≡ false) names
still_absent given rows [] apart fresh = tt
still_absent given rows (name ∷ names) apart fresh =
    (list_any-append (λ r. bytes_eq r.id name) rows (row_of_value given ∷ []) ∙ simp (fresh.0, apart.0), still_absent given rows names apart.1 fresh.1)

none_yet : (names : List Text) → AllByRecursion (λ name. has_row name [] ≡ false) names
none_yet [] = tt
none_yet (name ∷ names) = (refl, none_yet names)

and_false : (b : Bool) → (b && false) ≡ false
and_false true = refl
and_false false = refl

module _ (command : Text) (rules : List Rule) where
  abbrev shape : Shape
  shape = built_shape command rules

  module _ (so_far rows : List Row) (pending : Option (Text × List Text)) (position : ℕ) (settles : settled_rows rules pending so_far ≡ rows) (passes : settle_passes rules false (walk_at so_far pending position).held ≡ true) where
    -- an option in one word has its row at once
    one_word : (name value : Text) → HasOption rules name → has_row name rows ≡ false
        → (turn_passes shape [] (walk_at so_far pending position) ((codes "--" ++ name) ++ codes "=" ++ value) ≡ true)
        × (walked rules [] (walk_at so_far pending position) ((codes "--" ++ name) ++ codes "=" ++ value) ≡ walk_at (rows ++ row_of_value (name, value) ∷ []) None position)
    unfolding clap_on_literals
    one_word name value has fresh =
        let row = new_row (name, value) rows fresh in
        (simp (has.is_long.is_more_valued value, has.is_long.valued value, has.by_long, settles, passes, fresh), simp (has.is_long.is_more_valued value, has.is_long.valued value, has.by_long, settles, row))

    -- a flag has its row at once
    flag_word : (name : Text) → HasFlag rules name → has_row name rows ≡ false
        → (turn_passes shape [] (walk_at so_far pending position) (codes "--" ++ name) ≡ true)
        × (walked rules [] (walk_at so_far pending position) (codes "--" ++ name) ≡ walk_at (rows ++ row_of_value (name, codes "true") ∷ []) None position)
    unfolding clap_on_literals
    flag_word name has fresh =
        let row = new_row (name, codes "true") rows fresh in
        (simp (has.is_long.is_more, has.is_long.alone, has.by_long, settles, passes, fresh), simp (has.is_long.is_more, has.is_long.alone, has.by_long, settles, row))

    -- an option alone waits for its value
    option_word : (name : Text) → HasOption rules name
        → (turn_passes shape [] (walk_at so_far pending position) (codes "--" ++ name) ≡ true)
        × (walked rules [] (walk_at so_far pending position) (codes "--" ++ name) ≡ walk_behind rows name position)
    unfolding clap_on_literals
    option_word name has = (simp (has.is_long.is_more, has.is_long.alone, has.by_long, passes), simp (has.is_long.is_more, has.is_long.alone, has.by_long, settles))

    -- the name of a file is a value that waits to be used
    file_word : (name value : Text) → HasFile rules position name → IsName value
        → (turn_passes shape [] (walk_at so_far pending position) value ≡ true)
        × (walked rules [] (walk_at so_far pending position) value ≡ walk_at rows (Some (name, value ∷ [])) (min (position + 1) usize_max))
    unfolding clap_on_literals
    file_word name value has plain = let v = no_hyphen value plain in (simp (v.0, v.1, has.by_index, and_false, passes), simp (v.0, v.1, has.by_index, and_false, settles))

  -- after an option the next word is its value, if it begins with no hyphen
  value_word : (rows : List Row) (name value : Text) (position : ℕ) → HasOption rules name → IsName value
      → (turn_passes shape [] (walk_behind rows name position) value ≡ true)
      × (walked rules [] (walk_behind rows name position) value ≡ walk_at rows (Some (name, value ∷ [])) position)
  unfolding clap_on_literals
  value_word rows name value position has h =
      let v = no_hyphen value h in
      let same : bytes_eq name name ≡ true = (bytes_eq-Decides name name).1 refl in (simp (v.0, v.1), simp (v.0, v.1, has.by_id, same))

  -- ---- the value that waits is used

  -- the argument has a rule of this name
  record IsKnown (name : Text) : Type 0 where
    long : Option Text
    index : Option ℕ
    required : Bool
    by_id : arg_by_id rules name ≡ Some (built_rule name long index required)

  waits_in : (given : Text × Text) (rows : List Row) → IsKnown given.0 → has_row given.0 rows ≡ false
      → (settled_rows rules (Some (given.0, given.1 ∷ [])) rows ≡ rows ++ row_of_value given ∷ [])
      × ((position : ℕ) → settle_passes rules false (walk_at rows (Some (given.0, given.1 ∷ [])) position).held ≡ true)
  waits_in given rows known fresh = let row = new_row given rows fresh in (simp (known.by_id, row), λ position. simp (known.by_id, fresh))

  -- ---- word by word

  -- all that was given has these rows, though the last argument's may be still to come; and the next positional is the
  -- first of these
  record Stands (w : Walk) (rows : List Row) (left : List Text) : Type 0 where
    so_far : List Row
    pending : Option (Text × List Text)
    position : ℕ
    is : w ≡ walk_at so_far pending position
    settles : settled_rows rules pending so_far ≡ rows
    passes : settle_passes rules false (walk_at so_far pending position).held ≡ true
    place : HasFiles rules position left

  -- the parser takes these words, and stands so after them
  record Goes (w : Walk) (words : List Text) (rows : List Row) (left : List Text) : Type 0 where
    taken : walk_passes shape [] w words ≡ true
    stands : Stands (fold (walked rules []) w words) rows left

  one_goes : (w v : Walk) (word : Text) (rows : List Row) (left : List Text) → turn_passes shape [] w word ≡ true → walked rules [] w word ≡ v → Stands v rows left → Goes w (word ∷ []) rows left
  unfolding walk_passes
  one_goes w v word rows left passes is stands = record { taken = simp passes; stands = rw is stands }

  two_taken : (w v : Walk) (word next : Text) → turn_passes shape [] w word ≡ true → walked rules [] w word ≡ v → walk_passes shape [] v (next ∷ []) ≡ true
      → walk_passes shape [] w (word ∷ next ∷ []) ≡ true
  unfolding walk_passes
  two_taken w v word next passes is rest = rw (passes, is) rest

  passes_on : (first rest : List Text) (w : Walk) → walk_passes shape [] w first ≡ true → walk_passes shape [] (fold (walked rules []) w first) rest ≡ true
      → walk_passes shape [] w (first ++ rest) ≡ true
  unfolding walk_passes
  passes_on [] rest w h k = k
  passes_on (x ∷ first) rest w h k = let p = both (turn_passes shape [] w x) _ h in rw p.0 (passes_on first rest (walked rules [] w x) p.1 k)

  goes_on : (w : Walk) (first rest : List Text) (rows more : List Row) (left last : List Text) → Goes w first rows left → Goes (fold (walked rules []) w first) rest more last
      → Goes w (first ++ rest) more last
  goes_on w first rest rows more left last one two =
      record { taken = passes_on first rest w one.taken two.taken; stands = rw (fold-append (walked rules []) w first rest) two.stands }

  -- the walk with a value that waits stands where its argument has its row
  stands_waiting : (given : Text × Text) (rows : List Row) (position : ℕ) (left : List Text) → IsKnown given.0 → has_row given.0 rows ≡ false → HasFiles rules position left
      → Stands (walk_at rows (Some (given.0, given.1 ∷ [])) position) (rows ++ row_of_value given ∷ []) left
  stands_waiting given rows position left known fresh place =
      let waits = waits_in given rows known fresh in
      record { so_far = rows; pending = Some (given.0, given.1 ∷ []); position = position; is = refl; settles = waits.0; passes = waits.1 position; place = place }

  -- one of some names has what they all have
  one_of : (P : Text → Type 0) (names : List Text) (name : Text) → AllByRecursion P names → IsOneOf name names → P name
  one_of P [] name all none = elim none [ ]
  one_of P (first ∷ names) name all (inl same) = rw same all.0
  one_of P (first ∷ names) name all (inr later) = one_of P names name all.1 later

  module _ (options flags : List Text) (known : AllByRecursion (HasOption rules) options) (known_flags : AllByRecursion (HasFlag rules) flags) where
    argument_goes : (w : Walk) (rows : List Row) (files left : List Text) (given : Text × Text) (front : List Text) → Stands w rows files → AreArgument options flags files left given front
        → has_row given.0 rows ≡ false → Goes w front (rows ++ row_of_value given ∷ []) left
    argument_goes w rows files left given front s (inl file) fresh =
        let place : HasFiles rules s.position (given.0 ∷ left) = rw file.next at s.place in
        let step = file_word s.so_far rows s.pending s.position s.settles s.passes given.0 given.1 place.0 file.name in
        let stands = stands_waiting given rows _ left (record { long = None; index = Some s.position; required = place.0.required; by_id = place.0.by_id }) fresh place.1 in
        rw (file.words_are, s.is) (one_goes _ _ given.1 _ left step.0 step.1 stands)
    argument_goes w rows files left given front s (inr (inl (name, inl two, same))) fresh =
        let has = one_of (HasOption rules) options given.0 known name in
        let word = option_word s.so_far rows s.pending s.position s.settles s.passes given.0 has in
        let step = value_word rows given.0 given.1 s.position has two.0 in
        let stands = stands_waiting given rows s.position left (record { long = Some given.0; index = None; required = false; by_id = has.by_id }) fresh (rw same at s.place) in
        let last = one_goes _ _ given.1 _ left step.0 step.1 stands in
        rw (two.1, s.is) (record { taken = two_taken _ _ _ _ word.0 word.1 last.taken; stands = rw word.1 last.stands })
    argument_goes w rows files left given front s (inr (inl (name, inr one, same))) fresh =
        let has = one_of (HasOption rules) options given.0 known name in
        let step = one_word s.so_far rows s.pending s.position s.settles s.passes given.0 given.1 has fresh in
        let stands : Stands (walk_at (rows ++ row_of_value given ∷ []) None s.position) (rows ++ row_of_value given ∷ []) left =
        record { so_far = rows ++ row_of_value given ∷ []; pending = None; position = s.position; is = refl; settles = refl; passes = refl; place = rw same at s.place } in
        rw (one, s.is) (one_goes _ _ _ _ left step.0 step.1 stands)
    argument_goes w rows files left given front s (inr (inr (is, same))) fresh =
        let has = one_of (HasFlag rules) flags given.0 known_flags is.name in
        let step = flag_word s.so_far rows s.pending s.position s.settles s.passes given.0 has fresh in
        let stands : Stands (walk_at (rows ++ row_of_value (given.0, codes "true") ∷ []) None s.position) (rows ++ row_of_value (given.0, codes "true") ∷ []) left =
        record { so_far = rows ++ row_of_value (given.0, codes "true") ∷ []; pending = None; position = s.position; is = refl; settles = refl; passes = refl; place = rw same at s.place } in
        rw (is.value, is.words_are, s.is) (one_goes _ _ _ _ left step.0 step.1 stands)

    -- ---- all words

    all_go : (given : List (Text × Text)) (words : List Text) (w : Walk) (rows : List Row) (files : List Text) → Stands w rows files → AreArguments options flags files given words
        → IsDistinct bytes_eq (keys_of given) → AllByRecursion (λ name. has_row name rows ≡ false) (keys_of given) → (left : List Text) × Goes w words (rows ++ map row_of_value given) left
    unfolding walk_passes IsDistinct
    all_go [] words w rows files s h distinct fresh = (files, rw (h, append-nil rows) (record { taken = refl; stands = s }))
    all_go (first ∷ given) words w rows files s h distinct fresh =
        let one = argument_goes w rows files h.left first h.front s h.one fresh.0 in
        let rest = all_go given h.rest _ (rows ++ row_of_value first ∷ []) h.left one.stands h.others distinct.1 (still_absent first rows (keys_of given) distinct.0 fresh.1) in
        (rest.0, rw (h.words_are, ← append_assoc rows (row_of_value first ∷ []) (map row_of_value given)) (goes_on w h.front h.rest _ _ h.left rest.0 one rest.1))

  -- the rules are those of a command with these options, these flags and these positionals
  pub record AreRules (options flags files : List Text) : Type 0 where
    pub options_known : AllByRecursion (HasOption rules) options
    pub flags_known : AllByRecursion (HasFlag rules) flags
    pub files_known : HasFiles rules 1 files
    pub no_defaults : list_all default_passes rules ≡ true
    pub free : list_all (λ a. a.is_free) rules ≡ true
    pub same_rows : (rows : List Row) → fold with_default rows rules ≡ rows

  -- the parser takes the words of the command, and has a row for each argument that they give
  pub command_rows : (options flags files : List Text) → AreRules options flags files → (given : List (Text × Text)) (words : List Text) → AreArguments options flags files given words
      → IsDistinct bytes_eq (keys_of given) → list_all (λ a. not a.required || is_given a.id (map row_of_value given)) rules ≡ true
      → (level_passes shape [] nothing_held words false ≡ true) × (rows_after rules [] words ≡ map row_of_value given)
  command_rows options flags files are given words h distinct required =
      let start : Stands (walk_at [] None 1) [] files =
      record { so_far = []; pending = None; position = 1; is = refl; settles = refl; passes = refl; place = are.files_known } in
      let goes = (all_go options flags are.options_known are.flags_known given words (walk_at [] None 1) [] files start h distinct (none_yet (keys_of given))).1 in
      let end = goes.stands in
      (simp (goes.taken, end.is, end.passes, end.settles, are.no_defaults, are.free, are.same_rows, required), simp (end.is, end.settles, are.same_rows))

-- the first value of each argument is the one that the words give
pub first_values : (given : List (Text × Text)) (name : Text) → first_of name (map row_of_value given) ≡ value_in given name
first_values [] name = refl
first_values (first ∷ given) name = elim (cases_Bool (bytes_eq first.0 name)) [
  | inl same ↦ rw same refl
  | inr apart ↦ rw apart (first_values given name)
]
