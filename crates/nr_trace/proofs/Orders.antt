-- The updates, operations and spaces of a joined run.
use Rattle.std.proofs.Common.{◌≡◌, ℕ, ◌+◌, ◌<◌, List, ◌++◌, length, take, is_some, refl, ap, ap₂, sym, ◌∙◌}
use Rattle.std.proofs.lemmas.List.{take-map}
use Rattle.std.proofs.lemmas.List.Elements.{filter-append, filter_map-append}
use Rattle.vs_types.specs.Config.{Layout}
use Rattle.vs_types.specs.Space.{Space}
use Rattle.vs_types.specs.Step.{after_all}
use Rattle.vs_types.proofs.Afterwards.{after_all-append}
use Rattle.nr_trace.specs.Recording.{Recording}
use Rattle.nr_trace.specs.Calls.{operation_of}
use Rattle.nr_trace.specs.Orders.{updates, operations, space_from}
use Rattle.nr_trace.proofs.LawsOfLists.{In}
use Rattle.nr_trace.specs.Joined.{calls_behind, joined_traces}
use Rattle.nr_trace.proofs.Lists.{filter_same, filter-map, filter_map_same, given_of_mapped, given_of_kept, take_behind}
use Rattle.nr_trace.proofs.Parts.{operation_left, operation_right}

-- all these calls are of the run
abbrev pub AreOf : Recording → List ℕ → Type 0
AreOf trace calls = (call : ℕ) → In call calls → call < length trace.events

pub updates_left : (first second : Recording) (calls : List ℕ) → AreOf first calls → updates (joined_traces first second) calls ≡ updates first calls
updates_left first second calls own =
    filter_same (λ call. is_some (operation_of (joined_traces first second) call)) (λ call. is_some (operation_of first call)) calls
    (λ call i. ap is_some (operation_left first second call (own call i)))

pub updates_right : (first second : Recording) (calls : List ℕ)
    → updates (joined_traces first second) (calls_behind (length first.events) calls) ≡ calls_behind (length first.events) (updates second calls)
updates_right first second calls =
    filter-map (λ call. is_some (operation_of (joined_traces first second) call)) (λ (call : ℕ). length first.events + call) calls
    ∙ ap (calls_behind (length first.events))
    (filter_same (λ call. is_some (operation_of (joined_traces first second) (length first.events + call))) (λ call. is_some (operation_of second call)) calls
    (λ call i. ap is_some (operation_right first second call)))

pub updates_both : (first second : Recording) (before behind : List ℕ) → AreOf first before
    → updates (joined_traces first second) (before ++ calls_behind (length first.events) behind)
    ≡ updates first before ++ calls_behind (length first.events) (updates second behind)
updates_both first second before behind own =
    filter-append (λ call. is_some (operation_of (joined_traces first second) call)) before (calls_behind (length first.events) behind)
    ∙ ap₂ ◌++◌ (updates_left first second before own) (updates_right first second behind)

pub operations_left : (first second : Recording) (calls : List ℕ) → AreOf first calls → operations (joined_traces first second) calls ≡ operations first calls
operations_left first second calls own =
    filter_map_same (operation_of (joined_traces first second)) (operation_of first) calls (λ call i. operation_left first second call (own call i))

pub operations_both : (first second : Recording) (before behind : List ℕ) → AreOf first before
    → operations (joined_traces first second) (before ++ calls_behind (length first.events) behind) ≡ operations first before ++ operations second behind
operations_both first second before behind own =
    filter_map-append (operation_of (joined_traces first second)) before (calls_behind (length first.events) behind)
    ∙ ap₂ ◌++◌ (operations_left first second before own)
    (given_of_mapped (operation_of (joined_traces first second)) (λ (call : ℕ). length first.events + call) (operation_of second) behind
    (operation_right first second))

pub space_left : (start : Space) (first second : Recording) (calls : List ℕ) → AreOf first calls
    → space_from start (joined_traces first second) calls ≡ space_from start first calls
space_left start first second calls own = ap (after_all first.layout.depth first.layout.tables start) (operations_left first second calls own)

pub space_both : (start : Space) (first second : Recording) (before behind : List ℕ) → second.layout ≡ first.layout → AreOf first before
    → space_from start (joined_traces first second) (before ++ calls_behind (length first.events) behind)
    ≡ space_from (space_from start first before) second behind
space_both start first second before behind same own =
    ap (after_all first.layout.depth first.layout.tables start) (operations_both first second before behind own)
    ∙ after_all-append first.layout.depth first.layout.tables start (operations first before) (operations second behind)
    ∙ ap (λ (layout : Layout). after_all layout.depth layout.tables (space_from start first before) (operations second behind)) (sym same)

-- the updates among some calls leave the same space as these calls
pub space_of_updates : (start : Space) (trace : Recording) (calls : List ℕ) → space_from start trace (updates trace calls) ≡ space_from start trace calls
space_of_updates start trace calls = ap (after_all trace.layout.depth trace.layout.tables start) (given_of_kept (operation_of trace) calls)

-- so many updates more of both orders
pub taken_both : (first second : Recording) (before behind : List ℕ) (applied : ℕ) → AreOf first before → updates first before ≡ first.log
    → take (length first.log + applied) (updates (joined_traces first second) (before ++ calls_behind (length first.events) behind))
    ≡ first.log ++ calls_behind (length first.events) (take applied (updates second behind))
taken_both first second before behind applied own logged =
    ap (take (length first.log + applied))
    (updates_both first second before behind own ∙ ap (λ calls. calls ++ calls_behind (length first.events) (updates second behind)) logged)
    ∙ take_behind first.log (calls_behind (length first.events) (updates second behind)) (length first.log) applied refl
    ∙ ap (λ calls. first.log ++ calls) (take-map (λ (call : ℕ). length first.events + call) applied (updates second behind))
