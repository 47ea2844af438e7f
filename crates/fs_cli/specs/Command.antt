-- What the command line may say.
use Rattle.std.specs.Prelude.{◌==◌, ◌&&◌, ℕ, List, [], ◌∷◌, Bool, false, not, nat_le, Option, Some, None, if◌then◌else◌, codes, decimal, option_map}
use Rattle.std.specs.Str.{bytes_eq, Parse.{digits_value}}
use Rattle.fs_base.specs.declared.prefix.Family.TheVariants.{V4, V6}
use Rattle.fs_cli.specs.declared.command.Command.{Command}
use Rattle.fs_cli.specs.declared.command.Command.TheVariants.{Enforce as EnforceCommand, Survey as SurveyCommand, Changes as ChangesCommand}
use Rattle.fs_cli.specs.declared.command.Command.TheVariants.{Convert as ConvertCommand, Check as CheckCommand, CheckFile as CheckFileCommand}
use Rattle.fs_cli.specs.declared.command.Command.TheVariants.{Gen as GenCommand, Announce as AnnounceCommand, Listen as ListenCommand}
use Rattle.fs_cli.specs.declared.command.Command.TheVariants.{Pair as PairCommand}
use Rattle.fs_cli.specs.declared.command.Subject.{Subject, TheVariants.{Nlri, Text}}
use Rattle.fs_cli.specs.declared.survey.Survey.{Survey, TheVariants.{Rules, Shadow, Words}}
use Rattle.fs_cli.specs.FileCheck.{FileForm, OfCapture, OfConfig, OfDump, OfRules, OfTape, file_shown}

-- a command, with the names of the files that it is to read, or the word or the file that it is to say of and what as, or how
-- many steps and packets it is to generate, or the files and the address of whom it is to announce to or to receive from,
-- or the files of both ends that it is to join
pub data Form : Type 0 where
  Enforce : (config tape capture : List ℕ) → Form
  Surveys : Survey → (config tape : List ℕ) → Form
  Changes : (config tape : List ℕ) → Form
  Converts : (config dump : List ℕ) → Form
  Check : Subject → (word : List ℕ) → Form
  CheckFile : FileForm → Form
  Gen : (count : ℕ) → Form
  Announce : (config rules address : List ℕ) → Form
  Listen : (config address : List ℕ) → Form
  Pair : (config rules : List ℕ) → Form

-- a word that can name a file or an end of a connection: it isn't empty, and doesn't begin with '-'
abbrev pub is_name : List ℕ → Bool
is_name [] = false
is_name (first ∷ rest) = not (first == 45)

-- what a word is to be checked as
abbrev pub subject_of : List ℕ → Option Subject
subject_of word =
    if bytes_eq word (codes "v4") then Some (Nlri V4)
    else if bytes_eq word (codes "v6") then Some (Nlri V6)
    else if bytes_eq word (codes "text") then Some Text else None

-- the file that is to be checked, by its kind
abbrev pub file_of : (kind word : List ℕ) → Option FileForm
file_of kind word =
    if bytes_eq kind (codes "config") then Some (OfConfig word)
    else if bytes_eq kind (codes "capture") then Some (OfCapture word) else None

-- a file of this kind beside a configuration
abbrev pub files_of : (kind config word : List ℕ) → Option FileForm
files_of kind config word =
    if bytes_eq kind (codes "rules") then Some (OfRules config word)
    else if bytes_eq kind (codes "tape") then Some (OfTape config word)
    else if bytes_eq kind (codes "dump") then Some (OfDump config word) else None

-- a file of this kind, or else a word
abbrev pub check_by : Option FileForm → (subject word : List ℕ) → Option Form
check_by (Some file) subject word = Some (CheckFile file)
check_by None subject word = option_map (λ s. Check s word) (subject_of subject)

abbrev pub check_form : (subject word : List ℕ) → Option Form
check_form subject word = if is_name word then check_by (file_of subject word) subject word else None

-- a number from 1 to 1000000 in decimal, without leading zeros: its text is the one that the number has
abbrev pub count_of : List ℕ → Option ℕ
count_of word =
    let n = digits_value 10 word in
    if bytes_eq word (decimal n) && (nat_le 1 n && nat_le n 1000000) then Some n else None

-- the survey that a word asks for
abbrev pub survey_of : List ℕ → Option Survey
survey_of word =
    if bytes_eq word (codes "rules") then Some Rules
    else if bytes_eq word (codes "list") then Some Words
    else if bytes_eq word (codes "shadow") then Some Shadow else None

-- a command of two files, or of a file and an address
abbrev pub two_names : (word first second : List ℕ) → Option Form
two_names word first second =
    if bytes_eq word (codes "changes") then Some (Changes first second)
    else if bytes_eq word (codes "convert") then Some (Converts first second)
    else if bytes_eq word (codes "listen") then Some (Listen first second)
    else if bytes_eq word (codes "pair") then Some (Pair first second)
    else option_map (λ survey. Surveys survey first second) (survey_of word)

-- the command of a word and three names
abbrev pub form_of_three : (word first second third : List ℕ) → Option Form
form_of_three word first second third =
    if bytes_eq word (codes "enforce") then Some (Enforce first second third)
    else if bytes_eq word (codes "announce") then Some (Announce first second third)
    else if bytes_eq word (codes "check") then option_map CheckFile (files_of first second third) else None

-- the command of these words, or none
abbrev pub form_of : List (List ℕ) → Option Form
form_of (word ∷ first ∷ second ∷ third ∷ []) =
    if is_name first && (is_name second && is_name third) then form_of_three word first second third else None
form_of (word ∷ first ∷ second ∷ []) =
    if bytes_eq word (codes "check") then check_form first second
    else if is_name first && is_name second then two_names word first second
    else None
form_of (word ∷ count ∷ []) = if bytes_eq word (codes "gen") then option_map Gen (count_of count) else None
form_of _ = None

-- what a parsed command says
abbrev pub form_shown : Command → Form
form_shown (EnforceCommand names) = Enforce names.config.now names.tape.now names.capture.now
form_shown (SurveyCommand survey config tape) = Surveys survey config.now tape.now
form_shown (ChangesCommand config tape) = Changes config.now tape.now
form_shown (ConvertCommand names) = Converts names.config.now names.dump.now
form_shown (CheckCommand subject word) = Check subject word.now
form_shown (CheckFileCommand file) = CheckFile (file_shown file)
form_shown (GenCommand count) = Gen count
form_shown (AnnounceCommand config rules address) = Announce config.now rules.now address.now
form_shown (ListenCommand config address) = Listen config.now address.now
form_shown (PairCommand config rules) = Pair config.now rules.now
