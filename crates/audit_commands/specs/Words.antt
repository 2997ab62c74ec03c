-- The words of the commands `audit`, `explain`, `order`, `resolve` and `pages`, as clap's definitions read words, and what they ask for.
use Rattle.std.specs.Prelude.{◌≡◌, ◌≢◌, ◌<◌, ◌≤◌, ◌⊎◌, ℕ, Bool, true, false, List, [], ◌∷◌, Option, Some, None, IfSome, Ok, Err, codes, length, map, pos}
use Rattle.std.specs.Prelude.{unwrap_or, option_map, if◌then◌else◌}
use Rattle.std.specs.List.{All}
use Rattle.std.specs.Borrow.{Bor}
use Rattle.std.specs.Str.{bytes_eq}
use Rattle.std.specs.Str.Parse.{ParsesUnsigned}
use Rattle.clap.specs.Words.{App, HasKind, Kinds, Row, Rule, Text, all_of, fault_of, first_of, kind_of, new_app, new_rule, subcommand_of, with_rule}
use Rattle.clap.specs.Words.{with_subcommand}
use Rattle.clap.specs.Walk.{one_of}
use Rattle.clap.specs.declared.builder.command.Command.{Command as ClapCommand}
use Rattle.clap.specs.declared.builder.command.Command.TheViews.{out-Command}
use Rattle.clap.specs.declared.builder.value_parser.ValueParser.TheVariants as parsers
use Rattle.clap.specs.declared.builder.action.ArgAction.TheVariants.{Append, SetTrue}
use Rattle.clap.specs.declared.error.Error.{Error}
use Rattle.clap.specs.declared.error.kind.ErrorKind.{ErrorKind}
use Rattle.clap.specs.declared.error.kind.ErrorKind.TheVariants as kind
use Rattle.audit_commands.specs.declared.inspection.Inspection.{Inspection}
use Rattle.audit_commands.specs.declared.inspection.Inspection.TheVariants.{One, Each, Tests}
use Rattle.audit_commands.specs.declared.task.ChainPoint.{ChainPoint}
use Rattle.audit_commands.specs.declared.task.ChainPoint.TheVariants.{Start, End}
use Rattle.audit_commands.specs.declared.task.Task.TheVariants.{Audit, Explain, Order, Resolve, Pages, AuditChain, ExplainChain, PagesOfChain}
use Rattle.audit_commands.specs.declared.host_words.NoWords.{NoWords}
use Rattle.audit_commands.specs.declared.host_words.NoWords.TheVariants.{Memory, NotText}

-- no argument of the command is one of its subcommands too
abbrev pub IsLocal : ClapCommand → Type 0
IsLocal command = (out-Command command).has_globals ≡ false

-- FILE, which need not be given
abbrev pub file_argument : Rule
file_argument = record (new_rule (codes "file")) { value_names = 1 }

-- FILE.., any number of them
abbrev pub files_argument : Rule
files_argument = record (new_rule (codes "file")) { value_names = 1; action = Some Append }

-- --address TEXT, which is required
abbrev pub address_option : Rule
address_option = record (new_rule (codes "address")) { long = Some (codes "address"); required = true }

-- --replica NUMBER, from 0 to 255, and 0 where it is not given
abbrev pub replica_option : Rule
replica_option = record (new_rule (codes "replica")) {
  long = Some (codes "replica");
  parser = Some (parsers.Signed (pos 0) (pos 255));
  defaults = codes "0" ∷ [];
}

-- --least-overlap NUMBER, from 0 to 2 ^ 32 - 1, and 0 where it is not given
abbrev pub least_option : Rule
least_option = record (new_rule (codes "least-overlap")) {
  long = Some (codes "least-overlap");
  parser = Some (parsers.Signed (pos 0) (pos 4294967295));
  defaults = codes "0" ∷ [];
}

-- --json, which has no value
abbrev pub json_option : Rule
json_option = record (new_rule (codes "json")) { long = Some (codes "json"); action = Some SetTrue }

-- --all, which has no value
abbrev pub all_option : Rule
all_option = record (new_rule (codes "all")) { long = Some (codes "all"); action = Some SetTrue }

-- --chain, which has no value
abbrev pub chain_option : Rule
chain_option = record (new_rule (codes "chain")) { long = Some (codes "chain"); action = Some SetTrue }

-- --quiet, which has no value
abbrev pub quiet_option : Rule
quiet_option = record (new_rule (codes "quiet")) { long = Some (codes "quiet"); action = Some SetTrue }

-- an option that has no value
abbrev pub flag_option : Text → Rule
flag_option id = record (new_rule id) { long = Some id; action = Some SetTrue }

-- --steps, which has no value
abbrev pub steps_option : Rule
steps_option = record (new_rule (codes "steps")) { long = Some (codes "steps"); action = Some SetTrue }

-- the command `audit`, with its options and files
abbrev pub audit_app : App
audit_app =
    with_rule (with_rule (with_rule (with_rule (with_rule (with_rule (with_rule (new_app (codes "audit")) json_option) chain_option) quiet_option)
    (flag_option (codes "progress"))) least_option) (flag_option (codes "tap"))) files_argument

-- the command `explain`, with its options and file
abbrev pub explain_app : App
explain_app =
    with_rule (with_rule (with_rule (with_rule (new_app (codes "explain")) json_option) all_option) (flag_option (codes "chain"))) file_argument

-- --steps NUMBER, from 1 to 2 ^ 32 - 1, and 8,000,000 where it is not given
abbrev pub most_steps_option : Rule
most_steps_option = record (new_rule (codes "steps")) {
  long = Some (codes "steps");
  parser = Some (parsers.Signed (pos 1) (pos 4294967295));
  defaults = codes "8000000" ∷ [];
}

-- the command `order`, with its options and file
abbrev pub order_app : App
order_app = with_rule (with_rule (with_rule (new_app (codes "order")) (flag_option (codes "trace"))) most_steps_option) file_argument

-- the command `resolve`, with its options and file
abbrev pub resolve_app : App
resolve_app =
    with_rule (with_rule (with_rule (with_rule (new_app (codes "resolve")) address_option) replica_option) steps_option) file_argument

-- the command `pages`, with its options and file
abbrev pub pages_app : App
pages_app =
    with_rule (with_rule (with_rule (with_rule (with_rule (with_rule (new_app (codes "pages")) replica_option) (flag_option (codes "ranges")))
    (flag_option (codes "chain"))) (flag_option (codes "start"))) (flag_option (codes "end"))) file_argument

-- a program's words with those of these commands
abbrev pub with_inspections : App → App
with_inspections app =
    with_subcommand
    (with_subcommand (with_subcommand (with_subcommand (with_subcommand app audit_app.top) explain_app.top) order_app.top) resolve_app.top)
    pages_app.top

-- the file of this name, but standard input where it is `-` or there is none
abbrev pub named_file : Text → Option Text
named_file name = if bytes_eq name (codes "-") then None else Some name

-- the file that is named, or standard input
abbrev pub input_of : Option Text → Option Text
input_of None = None
input_of (Some name) = named_file name

-- the number that a text is, or 0 where it is none of so many bits, or there is none
abbrev pub IsNumberOf : ℕ → Option Text → ℕ → Type 0
IsNumberOf bits None number = number ≡ 0
IsNumberOf bits (Some text) number =
    ParsesUnsigned {E = Unit {0}} bits 10 text (Ok number) ⊎ ((number ≡ 0) × ParsesUnsigned {E = Unit {0}} bits 10 text (Err tt))

-- the number of a replica
abbrev pub IsReplica : Option Text → ℕ → Type 0
IsReplica text replica = IsNumberOf 8 text replica

-- whether a flag was given, as clap says it: it has the value `true`, else `false`
pub record IsFlag (given : Option Text) (flag : Bool) : Type 0 where
  pub none : given ≡ None → flag ≡ false
  pub yes : given ≡ Some (codes "true") → flag ≡ true
  pub no : given ≡ Some (codes "false") → flag ≡ false

-- so many calls are to overlap
abbrev pub IsLeast : List Row → ℕ → Type 0
IsLeast rows least = IsNumberOf 32 (one_of (codes "least-overlap") rows) least

-- some are
abbrev pub AsksOverlap : List Row → Type 0
AsksOverlap rows = (least : ℕ) × IsLeast rows least × (0 < least)

-- a test may have this name: a control character could end its line, and a # could begin a directive
abbrev pub IsPlain : Text → Type 0
IsPlain name = All (λ byte. (32 ≤ byte) × (byte ≢ 35) × (byte ≢ 127)) name

-- no more than one file was named, and this is the input
abbrev pub HasOneInput : List Row → Option (Bor Text) → Type 0
HasOneInput rows input = IfSome (all_of (codes "file") rows) (λ names. length names ≤ 1)
    × (option_map (λ name. name.now) input ≡ input_of (first_of (codes "file") rows))

-- more than one was
abbrev pub HasSeveralFiles : List Row → Type 0
HasSeveralFiles rows = (names : List Text) × (all_of (codes "file") rows ≡ Some names) × (2 ≤ length names)

-- the files that were named ask for an audit of one trace, or, where they are several, of each
abbrev pub AsksTraces : List Row → Inspection → Type 0
AsksTraces rows (One (Audit as_json least) input) =
    IsFlag (one_of (codes "json") rows) as_json × IsLeast rows least × HasOneInput rows input
AsksTraces rows (Each as_json names) = IsFlag (one_of (codes "json") rows) as_json × IsLeast rows 0
    × (all_of (codes "file") rows ≡ Some (map (λ name. name.now) names.items)) × (2 ≤ length names.items)
AsksTraces rows _ = ⊥

-- what was given with `audit` asks for this: with --chain for an audit of one chain
abbrev pub AsksAudit : List Row → Inspection → Type 0
AsksAudit rows (One (AuditChain style watched least) input) = IsFlag (one_of (codes "chain") rows) true × IsFlag (one_of (codes "quiet") rows) style.quiet
    × IsFlag (one_of (codes "json") rows) style.as_json × IsFlag (one_of (codes "progress") rows) watched × IsLeast rows least × HasOneInput rows input
AsksAudit rows inspection = IsFlag (one_of (codes "chain") rows) false × IsFlag (one_of (codes "quiet") rows) false
    × IsFlag (one_of (codes "progress") rows) false × AsksTraces rows inspection

-- it is misused, though clap has nothing against it. More than one chain is named, or more than one trace of which calls are to overlap. Or
-- it is to be quiet of no chain, or to show how far it has come with none
abbrev pub IsMisuse : List Row → ErrorKind → Type 0
IsMisuse rows kind.TooManyValues = (IsFlag (one_of (codes "chain") rows) true ⊎ AsksOverlap rows) × HasSeveralFiles rows
IsMisuse rows kind.MissingRequiredArgument = IsFlag (one_of (codes "chain") rows) false
    × (IsFlag (one_of (codes "quiet") rows) true ⊎ IsFlag (one_of (codes "progress") rows) true)
IsMisuse rows _ = ⊥

-- an option was given with which no file is a test
abbrev pub HasOtherOption : List Row → Type 0
HasOtherOption rows = IsFlag (one_of (codes "json") rows) true ⊎ IsFlag (one_of (codes "chain") rows) true
    ⊎ IsFlag (one_of (codes "quiet") rows) true ⊎ IsFlag (one_of (codes "progress") rows) true ⊎ AsksOverlap rows

-- none was
abbrev pub HasNoOtherOption : List Row → Type 0
HasNoOtherOption rows = IsFlag (one_of (codes "json") rows) false × IsFlag (one_of (codes "chain") rows) false
    × IsFlag (one_of (codes "quiet") rows) false × IsFlag (one_of (codes "progress") rows) false × IsLeast rows 0

-- with --tap, for a test of each file that is named, and with no other option
abbrev pub AsksTests : List Row → Inspection → Type 0
AsksTests rows (Tests names) = HasNoOtherOption rows × (all_of (codes "file") rows ≡ Some (map (λ name. name.now) names.items))
    × All IsPlain (map (λ name. name.now) names.items)
AsksTests rows _ = ⊥

-- --tap is misused, though clap has nothing against it: there is another option, no file is named, or one has a name that no test can have
abbrev pub IsTestsMisuse : List Row → ErrorKind → Type 0
IsTestsMisuse rows kind.ArgumentConflict = HasOtherOption rows
IsTestsMisuse rows kind.MissingRequiredArgument = all_of (codes "file") rows ≡ None
IsTestsMisuse rows kind.ValueValidation = (names : List Text) × (all_of (codes "file") rows ≡ Some names) × (All IsPlain names → ⊥)
IsTestsMisuse rows _ = ⊥

-- what was given with `audit` asks for this, as tests or not
abbrev pub AsksAudits : List Row → Inspection → Type 0
AsksAudits rows inspection = (IsFlag (one_of (codes "tap") rows) false × AsksAudit rows inspection)
    ⊎ (IsFlag (one_of (codes "tap") rows) true × AsksTests rows inspection)

-- it is misused, as tests or not
abbrev pub IsAuditMisuse : List Row → ErrorKind → Type 0
IsAuditMisuse rows fault = (IsFlag (one_of (codes "tap") rows) false × IsMisuse rows fault)
    ⊎ (IsFlag (one_of (codes "tap") rows) true × IsTestsMisuse rows fault)

-- with `explain`: with --chain for an explanation of one chain, and --all says nothing then
abbrev pub AsksExplain : List Row → Inspection → Type 0
AsksExplain rows (One (Explain as_json with_dumps) input) =
    IsFlag (one_of (codes "chain") rows) false × IsFlag (one_of (codes "json") rows) as_json × IsFlag (one_of (codes "all") rows) with_dumps
    × (option_map (λ name. name.now) input ≡ input_of (first_of (codes "file") rows))
AsksExplain rows (One (ExplainChain as_json) input) =
    IsFlag (one_of (codes "chain") rows) true × IsFlag (one_of (codes "json") rows) as_json
    × (option_map (λ name. name.now) input ≡ input_of (first_of (codes "file") rows))
AsksExplain rows _ = ⊥

-- with `order`: for an order of the calls of one trace
abbrev pub AsksOrder : List Row → Inspection → Type 0
AsksOrder rows (One (Order as_trace steps) input) = IsFlag (one_of (codes "trace") rows) as_trace × IsNumberOf 32 (one_of (codes "steps") rows) steps
    × (option_map (λ name. name.now) input ≡ input_of (first_of (codes "file") rows))
AsksOrder rows _ = ⊥

-- with `resolve`: for where an address leads in a dump of one trace
abbrev pub AsksResolve : List Row → Inspection → Type 0
AsksResolve rows (One (Resolve address replica with_steps) input) = (unwrap_or (first_of (codes "address") rows) [] ≡ address.now)
    × IsReplica (one_of (codes "replica") rows) replica × IsFlag (one_of (codes "steps") rows) with_steps
    × (option_map (λ name. name.now) input ≡ input_of (first_of (codes "file") rows))
AsksResolve rows _ = ⊥

-- --start asks for the start of a chain, --end for its end
abbrev pub IsPoint : List Row → ChainPoint → Type 0
IsPoint rows Start = IsFlag (one_of (codes "start") rows) true × IsFlag (one_of (codes "end") rows) false
IsPoint rows End = IsFlag (one_of (codes "start") rows) false × IsFlag (one_of (codes "end") rows) true

-- with `pages`: with --chain for those at an end of a chain
abbrev pub AsksPages : List Row → Inspection → Type 0
AsksPages rows (One (Pages replica as_ranges) input) =
    IsFlag (one_of (codes "chain") rows) false × IsFlag (one_of (codes "start") rows) false × IsFlag (one_of (codes "end") rows) false
    × IsReplica (one_of (codes "replica") rows) replica × IsFlag (one_of (codes "ranges") rows) as_ranges
    × (option_map (λ name. name.now) input ≡ input_of (first_of (codes "file") rows))
AsksPages rows (One (PagesOfChain point as_ranges) input) =
    IsFlag (one_of (codes "chain") rows) true × IsPoint rows point × IsFlag (one_of (codes "ranges") rows) as_ranges
    × (option_map (λ name. name.now) input ≡ input_of (first_of (codes "file") rows))
AsksPages rows _ = ⊥

-- of a chain both ends are asked for, or none
abbrev pub IsPointMisuse : List Row → ErrorKind → Type 0
IsPointMisuse rows kind.ArgumentConflict = IsFlag (one_of (codes "start") rows) true × IsFlag (one_of (codes "end") rows) true
IsPointMisuse rows kind.MissingRequiredArgument = IsFlag (one_of (codes "start") rows) false × IsFlag (one_of (codes "end") rows) false
IsPointMisuse rows _ = ⊥

-- or an end, but of no chain
abbrev pub IsEndOfNone : List Row → ErrorKind → Type 0
IsEndOfNone rows kind.MissingRequiredArgument = IsFlag (one_of (codes "start") rows) true ⊎ IsFlag (one_of (codes "end") rows) true
IsEndOfNone rows _ = ⊥

-- `pages` is misused, though clap has nothing against it
abbrev pub IsPagesMisuse : List Row → ErrorKind → Type 0
IsPagesMisuse rows fault =
    (IsFlag (one_of (codes "chain") rows) true × IsPointMisuse rows fault) ⊎ (IsFlag (one_of (codes "chain") rows) false × IsEndOfNone rows fault)

-- a subcommand of this name asks for no inspection
abbrev pub IsOtherName : Text → Type 0
IsOtherName name = (name ≢ codes "audit") × (name ≢ codes "explain") × (name ≢ codes "order") × (name ≢ codes "resolve") × (name ≢ codes "pages")

-- so a subcommand is with what was given with it; or there is none, or one that asks for no inspection
abbrev pub IsMisused : Option (Text × List Row) → ErrorKind → Type 0
IsMisused None fault = fault ≡ kind.MissingSubcommand
IsMisused (Some given) fault = ((given.0 ≡ codes "audit") × IsAuditMisuse given.1 fault) ⊎ ((given.0 ≡ codes "pages") × IsPagesMisuse given.1 fault)
    ⊎ (IsOtherName given.0 × (fault ≡ kind.MissingSubcommand))

-- clap has this against the words of a program; or it has nothing against them, and they are misused in this way
abbrev pub IsRefusal : (Option (Text × List Row) → ErrorKind → Type 0) → App → List Text → Error → Type 0
IsRefusal Misused app words error =
    HasKind (fault_of app words) error ⊎ ((fault_of app words ≡ []) × Misused (subcommand_of app words) (kind_of error))

-- a subcommand and what was given with it ask for an inspection
abbrev pub AsksInspection : Text × List Row → Inspection → Type 0
AsksInspection given inspection = ((given.0 ≡ codes "audit") × AsksAudits given.1 inspection)
    ⊎ ((given.0 ≡ codes "explain") × AsksExplain given.1 inspection) ⊎ ((given.0 ≡ codes "order") × AsksOrder given.1 inspection)
    ⊎ ((given.0 ≡ codes "resolve") × AsksResolve given.1 inspection) ⊎ ((given.0 ≡ codes "pages") × AsksPages given.1 inspection)

-- where the words are not known: memory ran out, or one of them is no text, which is a fault of the command line
abbrev pub kinds_of_no_words : NoWords → Kinds
kinds_of_no_words Memory = []
kinds_of_no_words NotText = kind.ValueValidation ∷ []
