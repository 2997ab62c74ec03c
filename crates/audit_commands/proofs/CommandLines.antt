-- What a parse by clap says of the inspection that is asked for.
use Rattle.std.proofs.Common.{◌≡◌, ◌∙◌, ◌≤◌, ◌<◌, ◌⊎◌, ◌||◌, map, ℕ, Bool, true, false, List, [], Option, Some, None, Result, Ok, Err, ap, ap₂, inl}
use Rattle.std.proofs.Common.{arith, inr, sym, refl, subst, codes, option_map, unwrap_or}
use Rattle.std.proofs.Common.{Bor, Box, IfErr, IfOk}
use Rattle.std.specs.Prelude.{MatchBool}
use Rattle.std.specs.Result.{IsErrAnd}
use Rattle.std.specs.Box.{box_value}
use Rattle.std.specs.Str.Parse.{ParsesUnsigned}
use Rattle.clap.specs.Words.{AddsArg, App, HasKind, Kinds, ReadsOne, Row, Rule, Text, app_of, kind_of, rule_of, subcommand_rows, with_rule}
use Rattle.clap.specs.Walk.{one_of}
use Rattle.std.specs.List.{All}
use Rattle.std.proofs.lemmas.List.{get_or-map, length-map}
use Rattle.clap.specs.declared.builder.arg.Arg.{Arg}
use Rattle.clap.specs.declared.builder.command.Command.{Command}
use Rattle.clap.specs.declared.error.Error.{Error}
use Rattle.clap.specs.declared.error.kind.ErrorKind.{ErrorKind}
use Rattle.clap.specs.declared.error.kind.ErrorKind.TheVariants.{OutOfMemory}
use Rattle.clap.specs.declared.parser.matches.SubCommand.{SubCommand}
use Rattle.clap.specs.declared.parser.matches.ArgMatches.TheViews.{out-SubCommand}
use Rattle.audit_texts.specs.declared.chain.style.Style.{Style}
use Rattle.audit_commands.specs.Words.{AsksAudit, AsksTraces, HasNoOtherOption, HasOtherOption, HasSeveralFiles, IsAuditMisuse, IsFlag}
use Rattle.audit_commands.specs.Words.{IsLeast, IsLocal, IsMisuse, IsMisused, IsNumberOf, IsPagesMisuse, IsTestsMisuse}
use Rattle.audit_commands.specs.declared.inspection.Inspection.{Inspection}
use Rattle.audit_commands.specs.declared.inspection.Inspection.TheVariants.{One, Each, Tests}
use Rattle.audit_commands.specs.declared.task.Task.{Task}
use Rattle.audit_commands.specs.declared.task.Task.TheVariants.{Audit, Explain, Order, Resolve, Pages, AuditChain, ExplainChain, PagesOfChain}

-- what the options of a command come to so far, none of them for its subcommands
pub record IsSoFar (command : Command) (app : App) : Type 0 where
  pub app_is : app_of command ≡ app
  pub local : IsLocal command

pub so_far : {command : Command} {app : App} → app_of command ≡ app → IsLocal command → IsSoFar command app
so_far app_is local = record { app_is = app_is; local = local }

pub with_option : {old new : Command} {arg : Arg} {app : App} {rule : Rule} → AddsArg old arg new → IsSoFar old app → rule_of arg ≡ rule
    → arg.global ≡ false → IsSoFar new (with_rule app rule)
with_option adds so rule_is own = record {
  app_is = adds.shape own ∙ ap₂ with_rule so.app_is rule_is;
  local = adds.globals ∙ ap₂ (λ (a b : Bool). a || b) so.local own;
}

-- two facts of a command that there is
pub both : {T E : Type 0} (P Q : T → Type 0) (r : Result T E) → IfOk r P → IfOk r Q → IfOk r (λ x. P x × Q x)
both P Q (Ok x) p q = (p, q)
both P Q (Err e) p q = tt

-- the subcommand of a parse, by its name and its rows
pub entered : {Z : Type 0} (o : Option (Box SubCommand Z)) (name : Text) (rows : List Row)
    → Some name ≡ option_map (λ b. (out-SubCommand (box_value b)).name.now) o
    → Some rows ≡ option_map (λ p. p.1) (subcommand_rows o) → subcommand_rows o ≡ Some (name, rows)
entered None name rows n r = cc
entered (Some b) name rows n r = cc

-- there is none
pub not_entered : {Z : Type 0} (o : Option (Box SubCommand Z)) → None ≡ option_map (λ p. p.1) (subcommand_rows o) → subcommand_rows o ≡ None
not_entered None r = refl
not_entered (Some b) r = cc

-- an error that is passed on
pub same_error : {T : Type 0} (r : Result T Error) (e : Error) (kinds : Kinds) → IsErrAnd r (λ x. x ≡ e) → HasKind kinds e → IfErr r (HasKind kinds)
same_error (Ok x) e kinds same h = tt
same_error (Err x) e kinds same h = subst (HasKind kinds) (sym same) h

pub passed_on : {T : Type 0} (r : Result T Error) (e : Error) (P : Error → Type 0) → IsErrAnd r (λ x. x ≡ e) → P e → IfErr r P
passed_on (Ok x) e P same h = tt
passed_on (Err x) e P same h = subst P (sym same) h

-- an error of clap's, and no other
pub of_clap : {T : Type 0} (r : Result T Error) (kinds : Kinds) (P : Error → Type 0) → IfErr r (HasKind kinds) → IfErr r (λ e. HasKind kinds e ⊎ P e)
of_clap (Ok x) kinds P h = tt
of_clap (Err e) kinds P h = inl h

-- one of `audit`
pub of_audit : (e : Error) (name : Text) (rows : List Row) → name ≡ codes "audit" → (kind_of e ≡ OutOfMemory) ⊎ IsAuditMisuse rows (kind_of e)
    → HasKind [] e ⊎ IsMisused (Some (name, rows)) (kind_of e)
of_audit e name rows is (inl memory) = inl (inl memory)
of_audit e name rows is (inr misuse) = inr (inl (is, misuse))

-- and of `pages`
pub of_pages : (e : Error) (name : Text) (rows : List Row) → name ≡ codes "pages" → (kind_of e ≡ OutOfMemory) ⊎ IsPagesMisuse rows (kind_of e)
    → HasKind [] e ⊎ IsMisused (Some (name, rows)) (kind_of e)
of_pages e name rows is (inl memory) = inl (inl memory)
of_pages e name rows is (inr misuse) = inr (inr (inl (is, misuse)))

-- an error of a subcommand, where a parse gave that, and had nothing against the words
pub told_of : (Misuse : Option (Text × List Row) → ErrorKind → Type 0) (kinds : Kinds) (e : Error) (given sub : Option (Text × List Row))
    → given ≡ sub → kinds ≡ [] → HasKind [] e ⊎ Misuse given (kind_of e) → HasKind kinds e ⊎ ((kinds ≡ []) × Misuse sub (kind_of e))
told_of Misuse kinds e given sub same none (inl (inl memory)) = inl (inl memory)
told_of Misuse kinds e given sub same none (inl (inr nothing)) = absurd nothing
told_of Misuse kinds e given sub same none (inr h) = inr (none, subst (λ s. Misuse s (kind_of e)) same h)

-- the text of a value, or none
pub text_or_none : (o : Option (Bor (List ℕ))) (d : Bor (List ℕ)) (t : Option Text) → option_map (λ s. s.now) o ≡ t → d.now ≡ []
    → unwrap_or t [] ≡ (unwrap_or o d).now
text_or_none None d t e empty = ap (λ x. unwrap_or x []) (sym e) ∙ sym empty
text_or_none (Some s) d t e empty = ap (λ x. unwrap_or x []) (sym e)

-- the number of a value, or 0
pub number_read : {E : Type 0} (bits : ℕ) (gives : List ℕ → Result ℕ E → Type 0)
    → ((text : List ℕ) (r : Result ℕ E) → gives text r → ParsesUnsigned bits 10 text r)
    → (t : Option Text) (result : Option ℕ) → (t ≡ None → result ≡ None) → ((text : Text) → t ≡ Some text → ReadsOne gives text result)
    → IsNumberOf bits t (unwrap_or result 0)
number_read bits gives weaker None result none value = ap (λ r. unwrap_or r 0) (none refl)
number_read bits gives weaker (Some text) (Some n) none value = inl (weaker text (Ok n) (value text refl))
number_read bits gives weaker (Some text) None none value = let h = value text refl in inr (refl, weaker text (Err h.0) h.1)

-- the flag is that of a text that is the same
pub flag_of : (t u : Option Text) (flag : Bool) → t ≡ u → (t ≡ None → flag ≡ false) → (t ≡ Some (codes "true") → flag ≡ true)
    → (t ≡ Some (codes "false") → flag ≡ false) → IsFlag u flag
flag_of t u flag same absent set unset = record { none = λ e. absent (same ∙ e); yes = λ e. set (same ∙ e); no = λ e. unset (same ∙ e) }

-- a flag that is known
pub flag_is : {t : Option Text} {flag known : Bool} → IsFlag t flag → flag ≡ known → IsFlag t known
flag_is {t = t} is same = subst (IsFlag t) same is

-- ---- what was given with `audit`

-- no call is to overlap
pub none_asked : (least : ℕ) → least ≤ 0 → least ≡ 0
none_asked least few = omega arith

-- an audit of traces
pub asks_traces : (rows : List Row) (asked : Inspection) → IsFlag (one_of (codes "chain") rows) false → IsFlag (one_of (codes "quiet") rows) false
    → IsFlag (one_of (codes "progress") rows) false → AsksTraces rows asked → AsksAudit rows asked
asks_traces rows (One (Audit as_json least) input) chain quiet still asks = (chain, quiet, still, asks)
asks_traces rows (One (Explain as_json with_dumps) input) chain quiet still asks = absurd asks
asks_traces rows (One (Order as_trace steps) input) chain quiet still asks = absurd asks
asks_traces rows (One (Resolve word replica with_steps) input) chain quiet still asks = absurd asks
asks_traces rows (One (Pages replica as_ranges) input) chain quiet still asks = absurd asks
asks_traces rows (One (AuditChain style watched least) input) chain quiet still asks = absurd asks
asks_traces rows (One (ExplainChain as_json) input) chain quiet still asks = absurd asks
asks_traces rows (One (PagesOfChain point as_ranges) input) chain quiet still asks = absurd asks
asks_traces rows (Each as_json names) chain quiet still asks = (chain, quiet, still, asks)
asks_traces rows (Tests names) chain quiet still asks = absurd asks

-- of one chain
pub asks_chain : (rows : List Row) (task : Task) (input : Option (Bor (List ℕ))) (style : Style) (watched : Bool) (least : ℕ)
    → IsFlag (one_of (codes "chain") rows) true → IsFlag (one_of (codes "quiet") rows) style.quiet → IsFlag (one_of (codes "json") rows) style.as_json
    → IsFlag (one_of (codes "progress") rows) watched → IsLeast rows least → AsksTraces rows (One task input)
    → AsksAudit rows (One (AuditChain style watched least) input)
asks_chain rows (Audit own few) input style watched least chain still json shown asked asks = (chain, still, json, shown, asked, asks.2)
asks_chain rows (Explain as_json with_dumps) input style watched least chain still json shown asked asks = absurd asks
asks_chain rows (Order as_trace steps) input style watched least chain still json shown asked asks = absurd asks
asks_chain rows (Resolve word replica with_steps) input style watched least chain still json shown asked asks = absurd asks
asks_chain rows (Pages replica as_ranges) input style watched least chain still json shown asked asks = absurd asks
asks_chain rows (AuditChain own seen few) input style watched least chain still json shown asked asks = absurd asks
asks_chain rows (ExplainChain as_json) input style watched least chain still json shown asked asks = absurd asks
asks_chain rows (PagesOfChain point as_ranges) input style watched least chain still json shown asked asks = absurd asks

-- several files
pub several_files : (rows : List Row) (asked : Inspection) → AsksTraces rows asked
    → ((task : Task) (input : Option (Bor (List ℕ))) → asked ≡ One task input → ⊥) → HasSeveralFiles rows
several_files rows (One task input) asks none = absurd (none task input refl)
several_files rows (Each as_json names) asks none =
    (map (λ name. name.now) names.items, asks.2, subst (λ (n : ℕ). 2 ≤ n) (sym (length-map names.items (λ (name : Bor (List ℕ)). name.now))) asks.3)
several_files rows (Tests names) asks none = absurd asks

-- an option was given with which no file is a test, or none was
pub other_option : (rows : List Row) (json chain quiet progress : Bool) → IsFlag (one_of (codes "json") rows) json
    → IsFlag (one_of (codes "chain") rows) chain → IsFlag (one_of (codes "quiet") rows) quiet → IsFlag (one_of (codes "progress") rows) progress
    → IsLeast rows 0 → MatchBool ((json || chain) || (quiet || progress)) (HasOtherOption rows) (HasNoOtherOption rows)
other_option rows true chain quiet progress j c q p none = inl j
other_option rows false true quiet progress j c q p none = inr (inl c)
other_option rows false false true progress j c q p none = inr (inr (inl q))
other_option rows false false false true j c q p none = inr (inr (inr (inl p)))
other_option rows false false false false j c q p none = (j, c, q, p, none)

-- a misuse of tests, and of what isn't tests
pub misuse_of_tests : (rows : List Row) (fault : ErrorKind) → IsFlag (one_of (codes "tap") rows) true → (fault ≡ OutOfMemory) ⊎ IsTestsMisuse rows fault
    → (fault ≡ OutOfMemory) ⊎ IsAuditMisuse rows fault
misuse_of_tests rows fault tap (inl memory) = inl memory
misuse_of_tests rows fault tap (inr misuse) = inr (inr (tap, misuse))

pub misuse_of_others : (rows : List Row) (fault : ErrorKind) → IsFlag (one_of (codes "tap") rows) false → (fault ≡ OutOfMemory) ⊎ IsMisuse rows fault
    → (fault ≡ OutOfMemory) ⊎ IsAuditMisuse rows fault
misuse_of_others rows fault tap (inl memory) = inl memory
misuse_of_others rows fault tap (inr misuse) = inr (inl (tap, misuse))

-- what holds of each name, as a borrow has it
pub of_each : (P : Text → Type 0) (names : List (Bor (List ℕ))) → All P (map (λ (name : Bor (List ℕ)). name.now) names)
    → All (λ (name : Bor (List ℕ)). P name.now) names
of_each P names all k d below =
    subst P (get_or-map (λ (name : Bor (List ℕ)). name.now) names k d d.now below)
    (all k d.now (subst (λ (n : ℕ). k < n) (sym (length-map names (λ (name : Bor (List ℕ)). name.now))) below))
