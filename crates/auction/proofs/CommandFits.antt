-- What the grammar makes of the words of each command, by the walk over them.
use Rattle.std.proofs.Common.{◌≡◌, ◌∙◌, ◌⊎◌, ◌&&◌, ◌||◌, Bool, true, false, not, List, [], ◌∷◌, ◌++◌, Option, Some, None, codes, map, cond, find, is_some, refl, rules as obvious, sym, ap, ap₂, inl, inr}
use Rattle.std.specs.List.{IsDistinct, list_all}
use Rattle.std.specs.Str.{bytes_eq}
use Rattle.std.proofs.lemmas.Bool.{cases_Bool}
use Rattle.clap.specs.Walk.{Names, Row, Rule, Text, Walk, answers_to, finished, first_of, nothing_held, rows_after, walk, walk_from, walked}
use Rattle.clap.specs.Simple.{App, Shape, built, entered, is_simple, label_of, names_of, subcommand_of}
use Rattle.clap.specs.Takes.{default_passes, entered_passes, is_given, is_valid, level_passes, settle_passes, takes, walk_passes}
use Rattle.clap.proofs.OnLiterals.{clap_on_literals}
use Rattle.clap.proofs.WalkLemmas.{walk_stopped}
use Rattle.auction.specs.Arguments.{AreCheck, AreCheckOf, AreCommand, AreHallOf, AreJob, AreSolve, large_flags, solve_flags, solve_options, value_in}
use Rattle.auction.specs.Grammar.{grammar}
use Rattle.auction.specs.Options.{AreNumbers, GoTogether, HasObjects, is_direct, is_large}
use Rattle.auction.proofs.WalkLaws.{AreRules, IsLong, built_flag, built_rule, built_shape, command_rows, first_values, row_of_value}

-- the command and its subcommands, as the parser builds them
abbrev all_built : App
all_built = built grammar

abbrev option_built : Text → Rule
option_built name = built_rule name (Some name) None false

abbrev check_rules : List Rule
check_rules = built_rule (codes "file") None (Some 1) true ∷ built_rule (codes "cert") None (Some 2) false ∷ option_built (codes "objects") ∷ built_flag (codes "large") ∷ []

abbrev hall_rules : List Rule
hall_rules = built_rule (codes "file") None (Some 1) false ∷ option_built (codes "objects") ∷ built_flag (codes "large") ∷ []

abbrev mail_rules : List Rule
mail_rules = built_rule (codes "script") None (Some 1) false ∷ []

abbrev solve_rules : List Rule
solve_rules = built_rule (codes "file") None (Some 1) false ∷ option_built (codes "workers") ∷ option_built (codes "bids") ∷ option_built (codes "audit")
    ∷ option_built (codes "objects") ∷ option_built (codes "from") ∷ option_built (codes "seconds") ∷ built_flag (codes "direct") ∷ built_flag (codes "progress") ∷ built_flag (codes "large") ∷ []

-- the arguments have no defaults
either_way : (b : Bool) (rows : List Row) → cond b rows rows ≡ rows
either_way true rows = refl
either_way false rows = refl

-- ---- the rules of each command

workers_long : IsLong (codes "workers")
workers_long = record { alone = refl; valued = λ value. refl; is_more = refl; is_more_valued = λ value. refl }

bids_long : IsLong (codes "bids")
bids_long = record { alone = refl; valued = λ value. refl; is_more = refl; is_more_valued = λ value. refl }

audit_long : IsLong (codes "audit")
audit_long = record { alone = refl; valued = λ value. refl; is_more = refl; is_more_valued = λ value. refl }

objects_long : IsLong (codes "objects")
objects_long = record { alone = refl; valued = λ value. refl; is_more = refl; is_more_valued = λ value. refl }

from_long : IsLong (codes "from")
from_long = record { alone = refl; valued = λ value. refl; is_more = refl; is_more_valued = λ value. refl }

seconds_long : IsLong (codes "seconds")
seconds_long = record { alone = refl; valued = λ value. refl; is_more = refl; is_more_valued = λ value. refl }

progress_long : IsLong (codes "progress")
progress_long = record { alone = refl; valued = λ value. refl; is_more = refl; is_more_valued = λ value. refl }

large_long : IsLong (codes "large")
large_long = record { alone = refl; valued = λ value. refl; is_more = refl; is_more_valued = λ value. refl }

direct_long : IsLong (codes "direct")
direct_long = record { alone = refl; valued = λ value. refl; is_more = refl; is_more_valued = λ value. refl }

check_are : AreRules (codes "check") check_rules (codes "objects" ∷ []) large_flags (codes "file" ∷ codes "cert" ∷ [])
check_are = record {
  options_known = (record { by_long = refl; by_id = refl; is_long = objects_long }, tt);
  flags_known = (record { by_long = refl; is_long = large_long }, tt);
  files_known = (record { required = true; by_index = refl; by_id = refl }, (record { required = false; by_index = refl; by_id = refl }, tt));
  no_defaults = refl;
  free = refl;
  same_rows = λ rows. simp either_way;
}

hall_are : AreRules (codes "hall") hall_rules (codes "objects" ∷ []) large_flags (codes "file" ∷ [])
hall_are = record {
  options_known = (record { by_long = refl; by_id = refl; is_long = objects_long }, tt);
  flags_known = (record { by_long = refl; is_long = large_long }, tt);
  files_known = (record { required = false; by_index = refl; by_id = refl }, tt);
  no_defaults = refl;
  free = refl;
  same_rows = λ rows. simp either_way;
}

mail_are : AreRules (codes "mail") mail_rules [] [] (codes "script" ∷ [])
mail_are = record {
  options_known = tt;
  flags_known = tt;
  files_known = (record { required = false; by_index = refl; by_id = refl }, tt);
  no_defaults = refl;
  free = refl;
  same_rows = λ rows. simp either_way;
}

solve_are : AreRules (codes "solve") solve_rules solve_options solve_flags (codes "file" ∷ [])
solve_are = record {
  options_known = (
    record { by_long = refl; by_id = refl; is_long = workers_long },
    (
      record { by_long = refl; by_id = refl; is_long = bids_long },
      (
        record { by_long = refl; by_id = refl; is_long = audit_long },
        (
          record { by_long = refl; by_id = refl; is_long = objects_long },
          (record { by_long = refl; by_id = refl; is_long = from_long }, (record { by_long = refl; by_id = refl; is_long = seconds_long }, tt)),
        ),
      ),
    ),
  );
  flags_known = (
    record { by_long = refl; is_long = direct_long },
    (record { by_long = refl; is_long = progress_long }, (record { by_long = refl; is_long = large_long }, tt)),
  );
  files_known = (record { required = false; by_index = refl; by_id = refl }, tt);
  no_defaults = refl;
  free = refl;
  same_rows = λ rows. simp either_way;
}

-- ---- the first word

-- words that are left to a subcommand pass
left_pass : (s : Shape) (names : Names) (w : Walk) (p : Text × List Text) (words : List Text) → walk_passes s names (record w { stopped = Some p }) words ≡ true
unfolding walked walk_passes
left_pass s names w p [] = refl
left_pass s names w p (word ∷ words) = left_pass s names w (p.0, p.1 ++ word ∷ []) words

-- the first word is the command's name, and leaves the others to it
record IsLeft (command : Text) (rules : List Rule) : Type 0 where
  stops : (rest : List Text) → walk all_built.top.rules (names_of all_built) nothing_held (command ∷ rest) ≡ record (walk_from nothing_held) { stopped = Some (command, rest) }
  passes : (rest : List Text) → walk_passes all_built.top (names_of all_built) (walk_from nothing_held) (command ∷ rest) ≡ true
  named : find (λ s. answers_to command (label_of s)) all_built.subs ≡ Some (built_shape command rules)

check_left : IsLeft (codes "check") check_rules
unfolding clap_on_literals
check_left = record {
  stops = λ rest. sym (walk_stopped all_built.top.rules (names_of all_built) (walk_from nothing_held) (codes "check") [] rest);
  passes = λ rest. left_pass all_built.top (names_of all_built) (walk_from nothing_held) (codes "check", []) rest;
  named = refl;
}

hall_left : IsLeft (codes "hall") hall_rules
unfolding clap_on_literals
hall_left = record {
  stops = λ rest. sym (walk_stopped all_built.top.rules (names_of all_built) (walk_from nothing_held) (codes "hall") [] rest);
  passes = λ rest. left_pass all_built.top (names_of all_built) (walk_from nothing_held) (codes "hall", []) rest;
  named = refl;
}

mail_left : IsLeft (codes "mail") mail_rules
unfolding clap_on_literals
mail_left = record {
  stops = λ rest. sym (walk_stopped all_built.top.rules (names_of all_built) (walk_from nothing_held) (codes "mail") [] rest);
  passes = λ rest. left_pass all_built.top (names_of all_built) (walk_from nothing_held) (codes "mail", []) rest;
  named = refl;
}

solve_left : IsLeft (codes "solve") solve_rules
unfolding clap_on_literals
solve_left = record {
  stops = λ rest. sym (walk_stopped all_built.top.rules (names_of all_built) (walk_from nothing_held) (codes "solve") [] rest);
  passes = λ rest. left_pass all_built.top (names_of all_built) (walk_from nothing_held) (codes "solve", []) rest;
  named = refl;
}

-- `takes`, by the walk and whether its words pass
abbrev takes_by : Walk → Bool → Bool
takes_by w passes = is_simple grammar && (entered_passes all_built w.stopped && (passes && (settle_passes all_built.top.rules false w.held
    && (list_all default_passes all_built.top.rules && is_valid all_built.top (finished all_built.top.rules w.held) (is_some (entered all_built w.stopped))))))

-- the grammar takes the words as this command with these values of its arguments
pub record Fits (words : List Text) (command : Text) (given : List (Text × Text)) : Type 0 where
  pub taken : takes grammar words ≡ true
  pub rows : List Row
  pub found : subcommand_of grammar words ≡ Some (command, rows)
  pub values : (name : Text) → first_of name rows ≡ value_in given name

module _ (command : Text) (rules : List Rule) (left : IsLeft command rules) (options flags files : List Text) (are : AreRules command rules options flags files) where
  command_found : (rest : List Text) → subcommand_of grammar (command ∷ rest) ≡ Some (command, rows_after rules [] rest)
  unfolding clap_on_literals
  command_found rest = ap (λ (w : Walk). entered all_built w.stopped) (left.stops rest) ∙ simp left.named

  command_taken : (rest : List Text) → level_passes (built_shape command rules) [] nothing_held rest false ≡ true → takes grammar (command ∷ rest) ≡ true
  unfolding clap_on_literals
  command_taken rest h = ap₂ takes_by (left.stops rest) (left.passes rest) ∙ simp (left.named, h)

  command_fits : (words : List Text) (given : List (Text × Text)) → AreCommand command options flags files words given
      → list_all (λ a. not a.required || is_given a.id (map row_of_value given)) rules ≡ true → Fits words command given
  command_fits words given h required =
      let level = command_rows command rules options flags files are given h.rest h.arguments h.distinct required in
      rw (h.words_are) (record {
        taken = command_taken h.rest level.0;
        rows = map row_of_value given;
        found = command_found h.rest ∙ ap (λ rows. Some (command, rows)) level.1;
        values = first_values given;
      })

-- ---- each command

pub solve_fits : (words : List Text) (given : List (Text × Text)) → AreSolve words given → Fits words (codes "solve") given
solve_fits words given h = command_fits (codes "solve") solve_rules solve_left solve_options solve_flags (codes "file" ∷ []) solve_are words given h refl

pub hall_fits : (words : List Text) (given : List (Text × Text)) → AreHallOf words given → Fits words (codes "hall") given
hall_fits words given h = command_fits (codes "hall") hall_rules hall_left (codes "objects" ∷ []) large_flags (codes "file" ∷ []) hall_are words given h refl

-- an argument is there where it has a value
given_row : (given : List (Text × Text)) (name : Text) → is_given name (map row_of_value given) ≡ is_some (value_in given name)
given_row [] name = refl
given_row (first ∷ given) name = elim (cases_Bool (bytes_eq first.0 name)) [
  | inl same ↦ rw same refl
  | inr apart ↦ rw apart (given_row given name)
]

pub check_fits : (words : List Text) (given : List (Text × Text)) → AreCheckOf words given → Fits words (codes "check") given
check_fits words given h =
    let there : is_given (codes "file") (map row_of_value given) ≡ true = given_row given (codes "file") ∙ h.1 in
    command_fits (codes "check") check_rules check_left (codes "objects" ∷ []) large_flags (codes "file" ∷ codes "cert" ∷ []) check_are words given h.0 (simp there)

-- ---- commands without options

-- what the name of an input alone gives
abbrev pub named : Text → Option Text → List (Text × Text)
named id None = []
named id (Some name) = (id, name) ∷ []

pub named_file : (file : Option Text) → value_in (named (codes "file") file) (codes "file") ≡ file
named_file None = refl
named_file (Some file) = refl

pub named_script : (script : Option Text) → value_in (named (codes "script") script) (codes "script") ≡ script
named_script None = refl
named_script (Some script) = refl

pub no_certificate : (file : Option Text) → value_in (named (codes "file") file) (codes "from") ≡ None
no_certificate None = refl
no_certificate (Some file) = refl

pub not_large : (file : Option Text) → is_large (value_in (named (codes "file") file)) ≡ false
not_large None = refl
not_large (Some file) = refl

pub not_direct : (file : Option Text) → is_direct (value_in (named (codes "file") file)) ≡ false
not_direct None = refl
not_direct (Some file) = refl

-- nothing of a watch is given
no_watch : (false ≡ true) ⊎ (false ≡ true) → ⊥
no_watch (inl h) = absurd cc
no_watch (inr h) = absurd cc

pub usual_together : (file : Option Text) → GoTogether (value_in (named (codes "file") file)) 0 0
usual_together None = record { direct = λ e. absurd cc; trail = λ e none. refl; start = λ e both. absurd cc; watch = λ e watch. no_watch watch; large = λ e. refl }
usual_together (Some file) = record { direct = λ e. absurd cc; trail = λ e none. refl; start = λ e both. absurd cc; watch = λ e watch. no_watch watch; large = λ e. refl }

pub usual_numbers : (file : Option Text) → AreNumbers (value_in (named (codes "file") file)) 0 100000000 0 0
usual_numbers None = record { of_workers = refl; of_bids = refl; of_audit = refl; of_objects = refl; of_seconds = (0, refl) }
usual_numbers (Some file) = record { of_workers = refl; of_bids = refl; of_audit = refl; of_objects = refl; of_seconds = (0, refl) }

only_named : (command : Text) (options flags : List Text) (id : Text) (words : List Text) (name : Option Text) → AreJob command words name → AreCommand command options flags (id ∷ []) words (named id name)
unfolding IsDistinct
only_named command options flags id words None h = record { rest = []; words_are = h; arguments = refl; distinct = tt }
only_named command options flags id words (Some name) h = record {
  rest = name ∷ [];
  words_are = h.1;
  arguments = record { left = []; front = name ∷ []; rest = []; one = inl (record { next = refl; name = h.0; words_are = refl }); others = refl; words_are = refl };
  distinct = (tt, tt);
}

pub plain_solve_fits : (words : List Text) (file : Option Text) → AreJob (codes "solve") words file → Fits words (codes "solve") (named (codes "file") file)
plain_solve_fits words file h = solve_fits words (named (codes "file") file) (only_named (codes "solve") solve_options solve_flags (codes "file") words file h)

pub plain_hall_fits : (words : List Text) (file : Option Text) → AreJob (codes "hall") words file → Fits words (codes "hall") (named (codes "file") file)
plain_hall_fits words file h = hall_fits words (named (codes "file") file) (only_named (codes "hall") (codes "objects" ∷ []) large_flags (codes "file") words file h)

pub mail_fits : (words : List Text) (script : Option Text) → AreJob (codes "mail") words script → Fits words (codes "mail") (named (codes "script") script)
mail_fits words script h = command_fits (codes "mail") mail_rules mail_left [] [] (codes "script" ∷ []) mail_are words (named (codes "script") script) (only_named (codes "mail") [] [] (codes "script") words script h) refl

-- what the names of a problem and of a certificate give
abbrev pub both_named : Text → Option Text → List (Text × Text)
both_named file None = (codes "file", file) ∷ []
both_named file (Some cert) = (codes "file", file) ∷ (codes "cert", cert) ∷ []

pub both_file : (file : Text) (cert : Option Text) → (value_in (both_named file cert) (codes "file") ≡ Some file) × (value_in (both_named file cert) (codes "cert") ≡ cert)
both_file file None = (refl, refl)
both_file file (Some cert) = (refl, refl)

pub large_apart : (file : Text) (cert : Option Text) → is_large (value_in (both_named file cert)) ≡ false
large_apart file None = refl
large_apart file (Some cert) = refl

pub no_objects : (file : Text) (cert : Option Text) → HasObjects (is_large (value_in (both_named file cert))) (value_in (both_named file cert) (codes "objects")) 0
no_objects file None = refl
no_objects file (Some cert) = refl

plain_check : (words : List Text) (file : Text) (cert : Option Text) → AreCheck words file cert → AreCheckOf words (both_named file cert)
unfolding IsDistinct
plain_check words file None h = (
  record {
    rest = file ∷ [];
    words_are = h.1;
    arguments = record { left = codes "cert" ∷ []; front = file ∷ []; rest = []; one = inl (record { next = refl; name = h.0; words_are = refl }); others = refl; words_are = refl };
    distinct = (tt, tt);
  },
  refl,
)
plain_check words file (Some cert) h = (
  record {
    rest = file ∷ cert ∷ [];
    words_are = h.words_are;
    arguments = record {
      left = codes "cert" ∷ [];
      front = file ∷ [];
      rest = cert ∷ [];
      one = inl (record { next = refl; name = h.file_name; words_are = refl });
      others = record { left = []; front = cert ∷ []; rest = []; one = inl (record { next = refl; name = h.cert_name; words_are = refl }); others = refl; words_are = refl };
      words_are = refl;
    };
    distinct = ((refl, tt), (tt, tt));
  },
  refl,
)

pub plain_check_fits : (words : List Text) (file : Text) (cert : Option Text) → AreCheck words file cert → Fits words (codes "check") (both_named file cert)
plain_check_fits words file cert h = check_fits words (both_named file cert) (plain_check words file cert h)

-- ---- examples: a solve with FILE between two options, one in a word and one in two; one of a direct solve, with the flag between an option and FILE; a check with the option
-- between FILE and CERT; and a hall with more objects than a usual problem may have, and the flag after its FILE

example_given : List (Text × Text)
example_given = (codes "audit", codes "5") ∷ (codes "file", codes "problem") ∷ (codes "workers", codes "+02") ∷ []

example_words : AreSolve (codes "solve" ∷ codes "--audit=5" ∷ codes "problem" ∷ codes "--workers" ∷ codes "+02" ∷ []) example_given
unfolding IsDistinct example_given
example_words = record {
  rest = codes "--audit=5" ∷ codes "problem" ∷ codes "--workers" ∷ codes "+02" ∷ [];
  words_are = refl;
  arguments = record {
    left = codes "file" ∷ [];
    front = codes "--audit=5" ∷ [];
    rest = codes "problem" ∷ codes "--workers" ∷ codes "+02" ∷ [];
    one = inr (inl (inr (inr (inl refl)), inr refl, refl));
    others = record {
      left = [];
      front = codes "problem" ∷ [];
      rest = codes "--workers" ∷ codes "+02" ∷ [];
      one = inl (record { next = refl; name = search obvious; words_are = refl });
      others = record { left = []; front = codes "--workers" ∷ codes "+02" ∷ []; rest = []; one = inr (inl (inl refl, inl (search obvious, refl), refl)); others = refl; words_are = refl };
      words_are = refl;
    };
    words_are = refl;
  };
  distinct = ((refl, (refl, tt)), ((refl, tt), (tt, tt)));
}

example_numbers : AreNumbers (value_in example_given) 2 100000000 5 0
unfolding example_given
example_numbers = record { of_workers = search obvious; of_bids = refl; of_audit = search obvious; of_objects = refl; of_seconds = (0, refl) }

direct_given : List (Text × Text)
direct_given = (codes "bids", codes "9") ∷ (codes "direct", codes "true") ∷ (codes "file", codes "problem") ∷ []

direct_words : AreSolve (codes "solve" ∷ codes "--bids=9" ∷ codes "--direct" ∷ codes "problem" ∷ []) direct_given
unfolding IsDistinct direct_given
direct_words = record {
  rest = codes "--bids=9" ∷ codes "--direct" ∷ codes "problem" ∷ [];
  words_are = refl;
  arguments = record {
    left = codes "file" ∷ [];
    front = codes "--bids=9" ∷ [];
    rest = codes "--direct" ∷ codes "problem" ∷ [];
    one = inr (inl (inr (inl refl), inr refl, refl));
    others = record {
      left = codes "file" ∷ [];
      front = codes "--direct" ∷ [];
      rest = codes "problem" ∷ [];
      one = inr (inr (record { name = inl refl; value = refl; words_are = refl }, refl));
      others = record { left = []; front = codes "problem" ∷ []; rest = []; one = inl (record { next = refl; name = search obvious; words_are = refl }); others = refl; words_are = refl };
      words_are = refl;
    };
    words_are = refl;
  };
  distinct = ((refl, (refl, tt)), ((refl, tt), (tt, tt)));
}

check_given : List (Text × Text)
check_given = (codes "file", codes "problem") ∷ (codes "objects", codes "3") ∷ (codes "cert", codes "claim") ∷ []

check_words : AreCheckOf (codes "check" ∷ codes "problem" ∷ codes "--objects=3" ∷ codes "claim" ∷ []) check_given
unfolding IsDistinct check_given
check_words = (
  record {
    rest = codes "problem" ∷ codes "--objects=3" ∷ codes "claim" ∷ [];
    words_are = refl;
    arguments = record {
      left = codes "cert" ∷ [];
      front = codes "problem" ∷ [];
      rest = codes "--objects=3" ∷ codes "claim" ∷ [];
      one = inl (record { next = refl; name = search obvious; words_are = refl });
      others = record {
        left = codes "cert" ∷ [];
        front = codes "--objects=3" ∷ [];
        rest = codes "claim" ∷ [];
        one = inr (inl (inl refl, inr refl, refl));
        others = record { left = []; front = codes "claim" ∷ []; rest = []; one = inl (record { next = refl; name = search obvious; words_are = refl }); others = refl; words_are = refl };
        words_are = refl;
      };
      words_are = refl;
    };
    distinct = ((refl, (refl, tt)), ((refl, tt), (tt, tt)));
  },
  refl,
)

large_given : List (Text × Text)
large_given = (codes "objects", codes "20001") ∷ (codes "file", codes "problem") ∷ (codes "large", codes "true") ∷ []

large_words : AreHallOf (codes "hall" ∷ codes "--objects=20001" ∷ codes "problem" ∷ codes "--large" ∷ []) large_given
unfolding IsDistinct large_given
large_words = record {
  rest = codes "--objects=20001" ∷ codes "problem" ∷ codes "--large" ∷ [];
  words_are = refl;
  arguments = record {
    left = codes "file" ∷ [];
    front = codes "--objects=20001" ∷ [];
    rest = codes "problem" ∷ codes "--large" ∷ [];
    one = inr (inl (inl refl, inr refl, refl));
    others = record {
      left = [];
      front = codes "problem" ∷ [];
      rest = codes "--large" ∷ [];
      one = inl (record { next = refl; name = search obvious; words_are = refl });
      others = record { left = []; front = codes "--large" ∷ []; rest = []; one = inr (inr (record { name = inl refl; value = refl; words_are = refl }, refl)); others = refl; words_are = refl };
      words_are = refl;
    };
    words_are = refl;
  };
  distinct = ((refl, (refl, tt)), ((refl, tt), (tt, tt)));
}

large_number : HasObjects (is_large (value_in large_given)) (value_in large_given (codes "objects")) 20001
unfolding large_given
large_number = search obvious
