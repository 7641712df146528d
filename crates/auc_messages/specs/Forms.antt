-- Files that are no problem but something else, told by the token that is no number: which one of the file it is, from
-- 0 on, and its first bytes.
use Rattle.std.specs.Prelude.{ℕ, ◌==◌, ◌||◌, Bool, nat_eq, if◌then◌else◌, List, [], ◌∷◌, codes, Option, Some, None}
use Rattle.std.specs.List.{list_any, starts_with}
use Rattle.auc_graph.specs.declared.read_error.ReadError.{ReadError}
use Rattle.auc_graph.specs.declared.read_error.ReadError.TheVariants.{Empty, BadNumber, CountRange, TooManyArcs, PersonRange, ObjectRange, CostRange, Cut, NoMemory, ReadFault, TooManyReads, TooFewObjects}
use Rattle.auc_place.specs.declared.place.Place.{Place}
use Rattle.auc_run.specs.declared.command.Job.{Job}
use Rattle.auc_run.specs.declared.ending.Ending.{Ending}
use Rattle.auc_run.specs.declared.refusal.Refusal.{Refusal}
use Rattle.auc_run.specs.declared.refusal.Refusal.TheVariants.{NotRead, NoProblem, NoCertificate, Invalid, NoStart, NoScript, NoMemory as NoMemoryForJob, NoThreads}
use Rattle.auc_run.specs.Jobs.{is_large}
use Rattle.auc_messages.specs.declared.forms.Form.{Form}
use Rattle.auc_messages.specs.declared.forms.Form.TheVariants.{Gzip, Packed, Zip, Utf16, Marked, MatrixMarket, Dimacs, Certificate, Script, Json, Separated}
use Rattle.auc_messages.specs.Pages.{is_word}
use Rattle.auc_messages.specs.Phrases.{phrase_for}
use Rattle.auc_messages.specs.Remarks.{told_reason, told_refusal}
use Rattle.auc_messages.specs.declared.texts.TheConstants.{GZIP, PACKED, ZIP, UTF16, MARKED, MATRIX_MARKET, DIMACS, CERTIFICATE, SCRIPT, JSON, SEPARATED}

abbrev pub begins : List ℕ → List ℕ → Bool
begins bytes signature = starts_with nat_eq bytes signature

-- packed files, by the first bytes that their formats fix
unfoldable pub packed_form : List ℕ → Option Form
packed_form bytes =
    if begins bytes (31 ∷ 139 ∷ []) then Some Gzip else
    (if begins bytes (codes "BZh") || begins bytes (253 ∷ 55 ∷ 122 ∷ 88 ∷ 90 ∷ []) || begins bytes (40 ∷ 181 ∷ 47 ∷ 253 ∷ []) then Some Packed else
    (if begins bytes (80 ∷ 75 ∷ 3 ∷ 4 ∷ []) then Some Zip else None))

-- texts of other formats, by their first word; the marks of an encoding stand before any word
unfoldable pub text_form : List ℕ → Option Form
text_form bytes =
    if begins bytes (255 ∷ 254 ∷ []) || begins bytes (254 ∷ 255 ∷ []) then Some Utf16 else
    (if begins bytes (239 ∷ 187 ∷ 191 ∷ []) then Some Marked else
    (if begins bytes (codes "%%MatrixMarket") then Some MatrixMarket else
    (if begins bytes (codes "{") || begins bytes (codes "[") then Some Json else None)))

-- lines of DIMACS begin with a letter by itself; certificates and scripts with a word of their own
unfoldable pub word_form : List ℕ → Option Form
word_form bytes =
    if is_word (codes "c") bytes || is_word (codes "p") bytes then Some Dimacs else
    (if is_word (codes "auction") bytes then Some Certificate else
    (if is_word (codes "mail") bytes then Some Script else None))

abbrev pub holds : ℕ → List ℕ → Bool
holds mark bytes = list_any (λ b. nat_eq b mark) bytes

-- a comma or a semicolon among the first bytes of any token
unfoldable pub mark_form : List ℕ → Option Form
mark_form bytes = if holds 44 bytes || holds 59 bytes then Some Separated else None

abbrev pub or_else : Option Form → Option Form → Option Form
or_else (Some form) other = Some form
or_else None other = other

-- the first token may show any form, and later ones that they hold marks
abbrev pub form_of : ℕ → List ℕ → Option Form
form_of number bytes =
    if number == 0 then or_else (packed_form bytes) (or_else (text_form bytes) (or_else (word_form bytes) (mark_form bytes)))
    else mark_form bytes

-- what each is, and what to do
unfoldable pub phrase_of_form : Form → List ℕ
phrase_of_form Gzip = GZIP.now
phrase_of_form Packed = PACKED.now
phrase_of_form Zip = ZIP.now
phrase_of_form Utf16 = UTF16.now
phrase_of_form Marked = MARKED.now
phrase_of_form MatrixMarket = MATRIX_MARKET.now
phrase_of_form Dimacs = DIMACS.now
phrase_of_form Certificate = CERTIFICATE.now
phrase_of_form Script = SCRIPT.now
phrase_of_form Json = JSON.now
phrase_of_form Separated = SEPARATED.now

-- the token that is no number, where a problem was refused for it
abbrev pub bad_number_in : ReadError → Option ℕ
bad_number_in Empty = None
bad_number_in (BadNumber token) = Some token
bad_number_in CountRange = None
bad_number_in TooFewObjects = None
bad_number_in TooManyArcs = None
bad_number_in (PersonRange arc) = None
bad_number_in (ObjectRange arc) = None
bad_number_in (CostRange arc) = None
bad_number_in (Cut tokens) = None
bad_number_in NoMemory = None
bad_number_in ReadFault = None
bad_number_in TooManyReads = None

abbrev pub bad_number : Option Refusal → Option ℕ
bad_number None = None
bad_number (Some (NotRead fault)) = None
bad_number (Some (NoProblem error)) = bad_number_in error
bad_number (Some (NoCertificate error)) = None
bad_number (Some (Invalid error)) = None
bad_number (Some (NoStart error)) = None
bad_number (Some (NoScript error)) = None
bad_number (Some NoMemoryForJob) = None
bad_number (Some NoThreads) = None

-- what the file is, where such a token stands at a known place
abbrev pub form_at : Option ℕ → Option Place → Option Form
form_at None place = None
form_at (Some number) None = None
form_at (Some number) (Some place) = form_of number place.front.items

abbrev pub form_told : Ending → Option Place → Option Form
form_told ending place = form_at (bad_number (told_refusal ending)) place

-- the words of the form, and without one those of the refusal, the limit or the status
abbrev pub phrase_told : Job → Ending → Option Form → List ℕ
phrase_told job ending None = phrase_for (is_large job) ending.status (told_reason ending) (told_refusal ending)
phrase_told job ending (Some form) = phrase_of_form form

abbrev pub phrase_at : Job → Ending → Option Place → List ℕ
phrase_at job ending place = phrase_told job ending (form_told ending place)
