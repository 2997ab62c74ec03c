-- What a parse by clap says of the command that is asked for.
use Rattle.std.proofs.Common.{◌≡◌, ◌≢◌, ◌⊎◌, ℕ, Bool, List, [], Option, None, Some, inl, inr, sym, refl, subst, codes}
use Rattle.std.specs.Prelude.{IfSome, IsSomeAnd}
use Rattle.clap.specs.Words.{HasKind, Row, Text, kind_of}
use Rattle.clap.specs.Walk.{one_of}
use Rattle.clap.specs.declared.error.Error.{Error}
use Rattle.audit_commands.specs.Words.{AsksInspection, IsFlag, IsMisused}
use Rattle.audit_commands.specs.declared.inspection.Inspection.{Inspection}
use Rattle.nrvs.specs.declared.runs.setup.Setup.{Setup}
use Rattle.nrvs.specs.CommandLine.{Asks, AsksRun, IsMisusedHere, IsNumber, IsSetup}
use Rattle.nrvs.specs.declared.command.Command.{Command}
use Rattle.nrvs.specs.declared.command.Command.TheVariants.{Inspect, Run, RunChain, Simulate}

-- a misuse of none of the program's own commands
pub misused_here : (e : Error) (sub : Option (Text × List Row)) (name : Text) (rows : List Row) → sub ≡ Some (name, rows)
    → (name ≢ codes "simulate") × (name ≢ codes "run") → HasKind [] e ⊎ IsMisused sub (kind_of e) → HasKind [] e ⊎ IsMisusedHere sub (kind_of e)
misused_here e sub name rows is others (inl h) = inl h
misused_here e sub name rows is others (inr h) =
    inr (h, subst (λ (s : Option (Text × List Row)). IfSome s (λ it. (it.0 ≢ codes "simulate") × (it.0 ≢ codes "run"))) (sym is) others)

-- and of no command
pub none_here : (e : Error) (sub : Option (Text × List Row)) → sub ≡ None → HasKind [] e ⊎ IsMisused sub (kind_of e)
    → HasKind [] e ⊎ IsMisusedHere sub (kind_of e)
none_here e sub is (inl h) = inl h
none_here e sub is (inr h) =
    inr (h, subst (λ (s : Option (Text × List Row)). IfSome s (λ it. (it.0 ≢ codes "simulate") × (it.0 ≢ codes "run"))) (sym is) tt)

-- the same text has the same number
pub number_of : (least most default : ℕ) (t u : Option Text) (number : ℕ) → t ≡ u → IsNumber least most default t number → IsNumber least most default u number
number_of least most default t u number same h = subst (λ (text : Option Text). IsNumber least most default text number) same h

-- a subcommand that asks for an inspection
pub asks_known : (sub : Option (Text × List Row)) (inspection : Inspection) → IsSomeAnd sub (λ given. AsksInspection given inspection)
    → Asks sub (Inspect inspection)
asks_known None inspection asks = absurd asks
asks_known (Some given) inspection asks = asks

pub asks_simulate : (sub : Option (Text × List Row)) (rows : List Row) (setup : Setup) (as_trace : Bool) → sub ≡ Some (codes "simulate", rows)
    → IsSetup rows setup → IsFlag (one_of (codes "trace") rows) as_trace → Asks sub (Simulate setup as_trace)
asks_simulate sub rows setup as_trace is laid flag = subst (λ s. Asks s (Simulate setup as_trace)) (sym is) (refl, laid, flag)

pub asks_run : (sub : Option (Text × List Row)) (rows : List Row) (command : Command) → sub ≡ Some (codes "run", rows) → AsksRun rows command
    → Asks sub command
asks_run sub rows command is asks = subst (λ s. Asks s command) (sym is) (by_command command asks)
  where
    by_command : (command : Command) → AsksRun rows command → Asks (Some (codes "run", rows)) command
    by_command (Inspect inspection) asks = absurd asks
    by_command (Simulate setup as_trace) asks = absurd asks
    by_command (Run setup turns as_trace) asks = (refl, asks)
    by_command (RunChain setup chain) asks = (refl, asks)
