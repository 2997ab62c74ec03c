-- What the words of the command line ask for, as clap's definitions read words.
use Rattle.std.specs.Prelude.{◌≡◌, ◌≢◌, ◌≤◌, ◌⊎◌, ℕ, List, [], ◌∷◌, Option, Some, None, IfSome, Ok, codes, pos, true, false}
use Rattle.std.specs.Str.Parse.{ParsesUnsigned}
use Rattle.vs_types.specs.Depth.{levels}
use Rattle.clap.specs.Words.{App, Row, Rule, Text, new_app, new_rule, with_rule, with_subcommand}
use Rattle.clap.specs.Walk.{one_of}
use Rattle.clap.specs.declared.builder.value_parser.ValueParser.{ValueParser}
use Rattle.clap.specs.declared.builder.value_parser.ValueParser.TheVariants as parsers
use Rattle.clap.specs.declared.builder.action.ArgAction.TheVariants.{SetTrue}
use Rattle.clap.specs.declared.error.kind.ErrorKind.{ErrorKind}
use Rattle.audit_commands.specs.Words.{AsksInspection, IsFlag, IsMisused, with_inspections}
use Rattle.nrvs.specs.declared.runs.setup.Setup.{Setup}
use Rattle.nrvs.specs.declared.command.Command.{Command}
use Rattle.nrvs.specs.declared.command.Command.TheVariants.{Inspect, Simulate, Run, RunChain}

-- an option whose value is read so, and the default where it is not given
abbrev pub number_option : Text → ValueParser → Text → Rule
number_option id parser default = record (new_rule id) { long = Some id; parser = Some parser; defaults = default ∷ [] }

-- --levels NUMBER, 4 or 5, and 4 where it is not given
abbrev pub levels_option : Rule
levels_option = number_option (codes "levels") (parsers.Signed (pos 4) (pos 5)) (codes "4")

-- --replicas NUMBER, from 1 to 4
abbrev pub replicas_option : Rule
replicas_option = number_option (codes "replicas") (parsers.Signed (pos 1) (pos 4)) (codes "1")

-- --tables NUMBER, from 1 to 4,096
abbrev pub tables_option : Rule
tables_option = number_option (codes "tables") (parsers.Signed (pos 1) (pos 4096)) (codes "4096")

-- --trace, which has no value
abbrev pub trace_option : Rule
trace_option = record (new_rule (codes "trace")) { long = Some (codes "trace"); action = Some SetTrue }

-- the most turns of a call
abbrev pub turns_option : Rule
turns_option = number_option (codes "turns") (parsers.Signed (pos 1) (pos 4294967295)) (codes "100000")

-- --chain, which has no value
abbrev pub chain_option : Rule
chain_option = record (new_rule (codes "chain")) { long = Some (codes "chain"); action = Some SetTrue }

-- --segment NUMBER, from 1 to 65,536
abbrev pub segment_option : Rule
segment_option = number_option (codes "segment") (parsers.Signed (pos 1) (pos 65536)) (codes "65536")

-- the command `simulate`, with its options
abbrev pub simulate_app : App
simulate_app = with_rule (with_rule (with_rule (with_rule (new_app (codes "simulate")) levels_option) replicas_option) tables_option) trace_option

-- the command `run`, with its options
abbrev pub run_app : App
run_app =
    with_rule (with_rule (with_rule (with_rule (with_rule (with_rule (with_rule (new_app (codes "run")) levels_option) replicas_option) tables_option)
    turns_option) chain_option) segment_option) trace_option

-- the program, which has a version, and of which one of its subcommands is required
abbrev pub program_app : App
program_app = record (new_app (codes "nrvs")) {
  top = record (new_app (codes "nrvs")).top { has_version = true; subcommand_required = true };
}

-- the program with all its commands
abbrev pub command_line : App
command_line = with_subcommand (with_subcommand (with_inspections program_app) simulate_app.top) run_app.top

-- the number that a text is, or the default where it is none below 65,536 and within the limits, or there is none
abbrev pub IsNumber : ℕ → ℕ → ℕ → Option Text → ℕ → Type 0
IsNumber least most default None number = number ≡ default
IsNumber least most default (Some text) number = ParsesUnsigned {E = Unit {0}} 16 10 text (Ok number)
    ⊎ ((number ≡ default) × ((given : ℕ) → ParsesUnsigned {E = Unit {0}} 16 10 text (Ok given) → least ≤ given → given ≤ most → ⊥))

-- the number that a text is, or 100,000 where it is none from 1 to 4,294,967,295, or there is none
abbrev pub IsTurns : Option Text → ℕ → Type 0
IsTurns None number = number ≡ 100000
IsTurns (Some text) number = ParsesUnsigned {E = Unit {0}} 32 10 text (Ok number)
    ⊎ ((number ≡ 100000) × ((given : ℕ) → ParsesUnsigned {E = Unit {0}} 32 10 text (Ok given) → 1 ≤ given → ⊥))

-- the number that a text is, or 65,536 where it is none from 1 to 65,536, or there is none
abbrev pub IsSegmentSize : Option Text → ℕ → Type 0
IsSegmentSize None number = number ≡ 65536
IsSegmentSize (Some text) number = ParsesUnsigned {E = Unit {0}} 32 10 text (Ok number)
    ⊎ ((number ≡ 65536) × ((given : ℕ) → ParsesUnsigned {E = Unit {0}} 32 10 text (Ok given) → 1 ≤ given → given ≤ 65536 → ⊥))

-- what was given asks for this setup
pub record IsSetup (given : List Row) (setup : Setup) : Type 0 where
  pub depth : IsNumber 4 5 4 (one_of (codes "levels") given) (levels setup.depth)
  pub replicas : IsNumber 1 4 1 (one_of (codes "replicas") given) setup.replicas
  pub tables : IsNumber 1 4096 4096 (one_of (codes "tables") given) setup.tables

-- what was given with `run` asks for a run, or for one in segments
abbrev pub AsksRun : List Row → Command → Type 0
AsksRun given (Run setup turns as_trace) = IsSetup given setup × IsTurns (one_of (codes "turns") given) turns
    × IsFlag (one_of (codes "trace") given) as_trace × IsFlag (one_of (codes "chain") given) false
AsksRun given (RunChain setup chain) = IsSetup given setup × IsTurns (one_of (codes "turns") given) chain.turns
    × IsFlag (one_of (codes "trace") given) chain.as_trace × IsFlag (one_of (codes "chain") given) true
    × IsSegmentSize (one_of (codes "segment") given) chain.most
AsksRun given _ = ⊥

-- a subcommand and what was given with it ask for the command
abbrev pub Asks : Option (Text × List Row) → Command → Type 0
Asks None command = ⊥
Asks (Some given) (Inspect inspection) = AsksInspection given inspection
Asks (Some given) (Simulate setup as_trace) =
    (given.0 ≡ codes "simulate") × IsSetup given.1 setup × IsFlag (one_of (codes "trace") given.1) as_trace
Asks (Some given) command = (given.0 ≡ codes "run") × AsksRun given.1 command

-- so a subcommand is with what was given with it, or there is none; `simulate` and `run` take all that clap lets pass
abbrev pub IsMisusedHere : Option (Text × List Row) → ErrorKind → Type 0
IsMisusedHere given fault = IsMisused given fault × IfSome given (λ it. (it.0 ≢ codes "simulate") × (it.0 ≢ codes "run"))
