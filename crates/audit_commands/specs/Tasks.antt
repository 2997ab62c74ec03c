-- What an inspection of one input answers, and of several files, and what the program does with what its words ask for.
use Rattle.std.specs.Prelude.{◌≡◌, ◌≢◌, ◌⊎◌, ◌-◌, ◌^◌, ◌++◌, ℕ, Bool, true, false, List, [], ◌∷◌, Option, Some, None, Result, Ok, Err, IfErr, IfOk}
use Rattle.std.specs.Prelude.{MatchResult, ◌==◌, codes, decimal, if◌then◌else◌, length, map, max, ⊤}
use Rattle.std.specs.List.{All, concat, enumerate_from, flat_map}
use Rattle.std.specs.Borrow.{Bor}
use Rattle.std.specs.Io.KnownBytes.{Appends}
use Rattle.clap.specs.Words.{kind_of}
use Rattle.clap.specs.declared.error.Error.{Error}
use Rattle.clap.specs.declared.error.kind.ErrorKind.{ErrorKind}
use Rattle.clap.specs.declared.error.kind.ErrorKind.TheVariants as kind
use Rattle.audit_readers.specs.Answers.{HasReadFew, IsAudit, IsNamedAudit, IsReadOf, IsResolve, WritesReport}
use Rattle.audit_texts.specs.Explained.{IsExplained}
use Rattle.audit_texts.specs.FullExplained.{IsFullyExplained}
use Rattle.audit_readers.specs.Refusals.{IsEndFault, IsResolveFault, WritesAnswersAlone, exit_status, refusal_line, refusal_status}
use Rattle.audit_texts.specs.Text.{line_end}
use Rattle.audit_readers.specs.declared.fault.ProgFault.{ProgFault}
use Rattle.audit_readers.specs.ChainAudit.{HasReadFewOfChain, HasWrittenFirst, IsChainAudit}
use Rattle.audit_readers.specs.ChainPages.{HasReadFewOfStart, IsChainEnd, IsChainStart}
use Rattle.audit_texts.specs.ChainExplained.{IsChainExplained}
use Rattle.audit_texts.specs.declared.chain.style.Style.{Style}
use Rattle.audit_readers.specs.declared.fault.ProgFault.TheVariants.{CannotRead, CannotWrite, Memory}
use Rattle.audit_readers.specs.PagesAnswers.{IsPages, IsPagesFault}
use Rattle.audit_readers.specs.OrderAnswers.{IsOrderAnswer}
use Rattle.audit_commands.specs.declared.inspection.Inspection.{Inspection}
use Rattle.audit_commands.specs.declared.inspection.Inspection.TheVariants.{One, Each, Tests}
use Rattle.audit_commands.specs.declared.task.ChainPoint.TheVariants.{Start, End}
use Rattle.audit_commands.specs.declared.task.Task.{Task}
use Rattle.audit_commands.specs.declared.task.Task.TheVariants.{Audit, Explain, Order, Resolve, Pages, AuditChain, ExplainChain, PagesOfChain}
use Rattle.audit_commands.specs.Words.{named_file}

-- such an answer to this input was written, where it is specified; or there is none, for such a reason
pub record Answers {W : Type 0} (IsAnswer : List ℕ → List ℕ → ℕ → Type 0) (IsFault : ProgFault → Type 0) (known : Option (List ℕ)) (contents : W
    → Option (List ℕ)) (old new : W) (outcome : Result ℕ ProgFault) : Type 0 where
  pub ends : MatchResult outcome (WritesReport IsAnswer known (contents old) (contents new)) IsFault
  pub alone : WritesAnswersAlone old new outcome

-- the audit of a chain was made of this input, where it is specified; where it has no answer, the lines of right segments were written
pub record AuditsChain {W : Type 0} (style : Style) (least : ℕ) (known : Option (List ℕ)) (contents : W
    → Option (List ℕ)) (old new : W) (outcome : Result ℕ ProgFault) : Type 0 where
  pub ends : MatchResult outcome (WritesReport (IsChainAudit style least) known (contents old) (contents new)) IsEndFault
  pub first : IfErr outcome (λ fault. fault ≢ CannotWrite
      → (left : Option (List ℕ)) × HasWrittenFirst style known left (contents old) (contents new) fault)

-- the task was done on an input
abbrev pub RunsTask : {W : Type 0} → Task → Option (List ℕ) → (W → Option (List ℕ)) → W → W → Result ℕ ProgFault → Type 0
RunsTask (Audit as_json least) known contents old new outcome = Answers (IsAudit as_json least) IsEndFault known contents old new outcome
RunsTask (Explain as_json false) known contents old new outcome = Answers (IsExplained as_json) IsEndFault known contents old new outcome
RunsTask (Explain as_json true) known contents old new outcome = Answers (IsFullyExplained as_json) IsEndFault known contents old new outcome
RunsTask (Order as_trace steps) known contents old new outcome = Answers (IsOrderAnswer as_trace) IsEndFault known contents old new outcome
RunsTask (Resolve word replica with_steps) known contents old new outcome =
    Answers (IsResolve word.now replica with_steps) (IsResolveFault word.now replica with_steps known) known contents old new outcome
RunsTask (Pages replica as_ranges) known contents old new outcome =
    Answers (IsPages as_ranges replica) (IsPagesFault as_ranges replica known) known contents old new outcome
RunsTask (AuditChain style watched least) known contents old new outcome = AuditsChain style least known contents old new outcome
RunsTask (ExplainChain as_json) known contents old new outcome = Answers (IsChainExplained as_json) IsEndFault known contents old new outcome
RunsTask (PagesOfChain Start as_ranges) known contents old new outcome = Answers (IsChainStart as_ranges) IsEndFault known contents old new outcome
RunsTask (PagesOfChain End as_ranges) known contents old new outcome = Answers (IsChainEnd as_ranges) IsEndFault known contents old new outcome

-- how much was read for it
abbrev pub HasReadFewFor : Task → Option (List ℕ) → Option (List ℕ) → Type 0
HasReadFewFor (AuditChain style watched least) old new = HasReadFewOfChain old new
HasReadFewFor (ExplainChain as_json) old new = HasReadFewOfChain old new
HasReadFewFor (PagesOfChain Start as_ranges) old new = HasReadFewOfStart old new
HasReadFewFor (PagesOfChain End as_ranges) old new = HasReadFewOfChain old new
HasReadFewFor _ old new = HasReadFew old new

-- the most that can be read for it
abbrev pub most_bytes : Task → ℕ
most_bytes (AuditChain style watched least) = 2 ^ 52 - 1
most_bytes (ExplainChain as_json) = 2 ^ 52 - 1
most_bytes (PagesOfChain point as_ranges) = 2 ^ 52 - 1
most_bytes _ = 70647893

-- the same of a file's bytes, where they are specified; or it couldn't be opened
abbrev pub RunsTaskOnFile : {W : Type 0} → Task → Option (List ℕ) → (W → Option (List ℕ)) → W → W → Result ℕ ProgFault → Type 0
RunsTaskOnFile task known contents old new outcome = RunsTask task known contents old new outcome ⊎ ((outcome ≡ Err CannotRead) × (new ≡ old))

-- what is said of one of several files: its line and its status
pub record FileLine : Type 0 where
  pub name : List ℕ
  pub text : List ℕ
  pub status : ℕ

-- the bytes that are read for a file's name among several, where they are specified; of standard input nothing is said here
abbrev pub bytes_of : (List ℕ → Option (List ℕ)) → Option (List ℕ) → Option (List ℕ)
bytes_of file_bytes None = None
bytes_of file_bytes (Some name) = file_bytes name

-- a text is the line of the verdict on an input, with this name
pub record IsVerdictOn (known : Option (List ℕ)) (name text : List ℕ) (status : ℕ) : Type 0 where
  pub input : List ℕ
  pub is_read : IsReadOf known input
  pub is_audit : IsNamedAudit false name input text status

-- a text is the line of the verdict on the bytes of the file of this name
pub record IsVerdictLine (as_json : Bool) (file_bytes : List ℕ → Option (List ℕ)) (name text : List ℕ) (status : ℕ) : Type 0 where
  pub input : List ℕ
  pub is_read : IsReadOf (bytes_of file_bytes (named_file name)) input
  pub is_audit : IsNamedAudit as_json name input text status

-- an input has no verdict: it couldn't be read, or memory ran out
abbrev pub IsUnjudged : ProgFault → Type 0
IsUnjudged CannotRead = ⊤
IsUnjudged Memory = ⊤
IsUnjudged _ = ⊥

-- the line is that of the verdict; or there is none, for a reason that goes to standard error
abbrev pub IsFileLine : Bool → (List ℕ → Option (List ℕ)) → FileLine → Type 0
IsFileLine as_json file_bytes line = IsVerdictLine as_json file_bytes line.name line.text line.status
    ⊎ ((fault : ProgFault) × IsUnjudged fault × (line.text ≡ []) × (line.status ≡ refusal_status fault))

-- the line of a file was written; or there is none, and nothing was written but where that failed
pub record WritesLine {W : Type 0} (as_json : Bool) (file_bytes : List ℕ → Option (List ℕ)) (name : List ℕ) (contents : W
    → Option (List ℕ)) (old new : W) (outcome : Result ℕ ProgFault) : Type 0 where
  pub ends : IfOk outcome (λ status. (text : List ℕ) × IsVerdictLine as_json file_bytes name text status × Appends (contents old) (contents new) text)
  pub fault : IfErr outcome IsEndFault
  pub alone : WritesAnswersAlone old new outcome

-- what is said of one of several files was written, and nothing else
pub record AuditsOne (as_json : Bool) (file_bytes : List ℕ → Option (List ℕ)) (name : List ℕ) (old new : Option (List ℕ)) (status : ℕ) : Type 0 where
  pub line : FileLine
  pub name_is : line.name ≡ name
  pub is_line : IsFileLine as_json file_bytes line
  pub written : Appends old new line.text
  pub status_is : status ≡ line.status

-- the greatest of these statuses, and 0 of none
abbrev pub worst : List ℕ → ℕ
worst [] = 0
worst (status ∷ rest) = max status (worst rest)

-- a line of each of these files was written, in their order, and nothing else; the status is the worst of theirs
pub record AuditsEach (as_json : Bool) (file_bytes : List ℕ → Option (List ℕ)) (names : List (List ℕ)) (old new : Option (List ℕ)) (status : ℕ) : Type 0 where
  pub lines : List FileLine
  pub names_are : map (λ (line : FileLine). line.name) lines ≡ names
  pub each : All (IsFileLine as_json file_bytes) lines
  pub written : Appends old new (concat (map (λ (line : FileLine). line.text) lines))
  pub status_is : status ≡ worst (map (λ (line : FileLine). line.status) lines)

-- the version of the protocol, and how many tests come
abbrev pub plan_lines : ℕ → List ℕ
plan_lines count = codes "TAP version 13\n1.." ++ (decimal count ++ line_end)

-- whether a test passed, by the status of its file
unfoldable pub passed_words : ℕ → List ℕ
passed_words status = if status == 0 then codes "ok " else codes "not ok "

-- the beginning of a test's line, before the words on the file: whether the test passed, and its number
abbrev pub test_head : ℕ → ℕ → List ℕ
test_head number status = passed_words status ++ (decimal number ++ codes " - ")

-- the line of a test
abbrev pub test_line : ℕ × FileLine → List ℕ
test_line (number, line) = test_head number line.status ++ line.text

-- the lines of all tests, the first of which is test 1
abbrev pub test_lines : List FileLine → List ℕ
test_lines lines = flat_map test_line (enumerate_from 1 lines)

-- the words on a file that has no verdict: its name, and why
abbrev pub refused_words : List ℕ → ProgFault → List ℕ
refused_words name fault = name ++ (codes ": " ++ refusal_line fault)

-- the words on a file are the line of its verdict, or say why there is none
abbrev pub IsTest : (List ℕ → Option (List ℕ)) → FileLine → Type 0
IsTest file_bytes line = IsVerdictLine false file_bytes line.name line.text line.status
    ⊎ ((fault : ProgFault) × IsUnjudged fault × (line.text ≡ refused_words line.name fault) × (line.status ≡ refusal_status fault))

-- a text is the tests of these files, in their order; the status is the worst of theirs
pub record AreTests (file_bytes : List ℕ → Option (List ℕ)) (names : List (List ℕ)) (text : List ℕ) (status : ℕ) : Type 0 where
  pub lines : List FileLine
  pub names_are : map (λ (line : FileLine). line.name) lines ≡ names
  pub each : All (IsTest file_bytes) lines
  pub text_is : text ≡ test_lines lines
  pub status_is : status ≡ worst (map (λ (line : FileLine). line.status) lines)

-- they were written, and nothing else
pub record WritesTests (file_bytes : List ℕ → Option (List ℕ)) (names : List (List ℕ)) (old new : Option (List ℕ)) (status : ℕ) : Type 0 where
  pub text : List ℕ
  pub are_tests : AreTests file_bytes names text status
  pub written : Appends old new text

-- the test of this number was written, and nothing else
pub record WritesTest (file_bytes : List ℕ → Option (List ℕ)) (number : ℕ) (name : List ℕ) (old new : Option (List ℕ)) (status : ℕ) : Type 0 where
  pub line : FileLine
  pub name_is : line.name ≡ name
  pub is_test : IsTest file_bytes line
  pub written : Appends old new (test_line (number, line))
  pub status_is : status ≡ line.status

-- how many there are was written, then the tests, and nothing else
pub record AuditsTests (file_bytes : List ℕ → Option (List ℕ)) (names : List (List ℕ)) (old new : Option (List ℕ)) (status : ℕ) : Type 0 where
  pub text : List ℕ
  pub are_tests : AreTests file_bytes names text status
  pub written : Appends old new (plan_lines (length names) ++ text)

-- the inspection was made: of files with these bytes, and of this standard input, where they are specified
abbrev pub RunsInspection : {W : Type 0} → (List ℕ → Option (List ℕ)) → Inspection → Option (List ℕ) → (W
    → Option (List ℕ)) → W → W → Result ℕ ProgFault → Type 0
RunsInspection file_bytes (One task None) known contents old new outcome = RunsTask task known contents old new outcome
RunsInspection file_bytes (One task (Some name)) known contents old new outcome =
    RunsTaskOnFile task (file_bytes name.now) contents old new outcome
RunsInspection file_bytes (Each as_json names) known contents old new outcome =
    MatchResult outcome (AuditsEach as_json file_bytes (map (λ (name : Bor (List ℕ)). name.now) names.items) (contents old) (contents new))
    (λ fault. fault ≡ CannotWrite)
RunsInspection file_bytes (Tests names) known contents old new outcome =
    MatchResult outcome (AuditsTests file_bytes (map (λ (name : Bor (List ℕ)). name.now) names.items) (contents old) (contents new))
    (λ fault. fault ≡ CannotWrite)

-- help or the version was asked for, which go to the output
abbrev pub is_shown : ErrorKind → Bool
is_shown kind.DisplayHelp = true
is_shown kind.DisplayVersion = true
is_shown _ = false

-- 0 for these, and 2 for a fault of the command line
abbrev pub shown_status : Bool → ℕ
shown_status true = 0
shown_status false = 2

-- why what clap answers was not written: it couldn't be written, or memory ran out
abbrev pub IsTellFault : ProgFault → Type 0
IsTellFault CannotWrite = ⊤
IsTellFault Memory = ⊤
IsTellFault _ = ⊥

-- what clap answers was written, or that failed; only help and the version go to the output
pub record TellsRefusal {W : Type 0} (answer : ErrorKind) (old new : W) (outcome : Result ℕ ProgFault) : Type 0 where
  pub ends : MatchResult outcome (λ status. status ≡ shown_status (is_shown answer)) IsTellFault
  pub memory : answer ≡ kind.OutOfMemory → outcome ≡ Err Memory
  pub alone : is_shown answer ≡ false → new ≡ old

-- what was asked for was run, in its way, or what clap answers was written
abbrev pub Runs : {C W : Type 0} → (C → Option (List ℕ) → (W → Option (List ℕ)) → W → W → Result ℕ ProgFault → Type 0) → Result C Error
    → Option (List ℕ) → (W → Option (List ℕ)) → W → W → Result ℕ ProgFault → Type 0
Runs RunsIt (Ok command) known contents old new outcome = RunsIt command known contents old new outcome
Runs RunsIt (Err error) known contents old new outcome = TellsRefusal (kind_of error) old new outcome

-- the program ended with the status of that
pub record EndsWith {C W : Type 0} (RunsIt : C → Option (List ℕ) → (W → Option (List ℕ)) → W → W → Result ℕ ProgFault → Type 0) (asked : Result C Error)
    (known : Option (List ℕ)) (contents : W → Option (List ℕ)) (old new : W) (status : ℕ) : Type 0 where
  pub outcome : Result ℕ ProgFault
  pub runs : Runs RunsIt asked known contents old new outcome
  pub status_is : status ≡ exit_status outcome
