-- Updates keep a space one of well-formed pages.
use Rattle.std.proofs.Common.{◌≡◌, ℕ, List, [], ◌∷◌, slice_get, Option, Some, None, refl, sym, ap, ◌∙◌, subst}
use Rattle.std.specs.Prelude.{option_and_then}
use Rattle.std.specs.List.{cons_option}
use Rattle.std.proofs.lemmas.Option.{get_or_from_slice_get, same_Some, slice_get_within}
use Rattle.vs_types.specs.Config.{Layout}
use Rattle.vs_types.specs.Operation.{IsAction}
use Rattle.vs_types.specs.Space.{Space, IsSpace}
use Rattle.vs_types.specs.Step.{step, after_all}
use Rattle.vs_types.specs.declared.requests.op.Action.{Action}
use Rattle.vs_types.specs.declared.requests.request.Query.TheVariants.{Update}
use Rattle.vs_types.proofs.Steps.{step_space}
use Rattle.nr_trace.specs.Recording.{Recording, IsEvent, IsRecording}
use Rattle.nr_trace.specs.Calls.{Invocation, made_by, request_in, operation_in, operation_of}
use Rattle.nr_trace.specs.Orders.{operations, space_from}
use Rattle.nr_trace.specs.declared.recordings.event.Event.{Event}
use Rattle.nr_trace.specs.declared.recordings.event.Event.TheVariants.{Call}
use Rattle.nr_trace.specs.declared.recordings.event.Asked.TheVariants.{Request}
use Rattle.nr_trace.specs.declared.formats.version.Version.{Version}

asked_fits : (version : Version) (layout : Layout) (event : Event) (action : Action) → IsEvent version layout event
    → option_and_then operation_in (option_and_then (λ (made : Invocation). request_in made.asked) (made_by event)) ≡ Some action → IsAction layout.depth action
asked_fits version layout (Call replica thread (Request (Update own))) action is e = subst (IsAction layout.depth) (same_Some own action e) is.2
asked_fits version layout _ action is e = absurd (cc)

module _ (trace : Recording) (in_range : IsRecording trace) where
  pub update_fits : (call : ℕ) (action : Action) → operation_of trace call ≡ Some action → IsAction trace.layout.depth action
  update_fits call action is = by_event (slice_get trace.events call) refl where
    told : (event : Option Event) → slice_get trace.events call ≡ event
        → option_and_then operation_in (option_and_then (λ (made : Invocation). request_in made.asked) (option_and_then made_by event)) ≡ Some action
    told event at =
        sym (ap (λ o. option_and_then operation_in (option_and_then (λ (made : Invocation). request_in made.asked) (option_and_then made_by o))) at) ∙ is

    by_event : (event : Option Event) → slice_get trace.events call ≡ event → IsAction trace.layout.depth action
    by_event None at = absurd (let none = told None at in cc)
    by_event (Some event) at =
        let lt = slice_get_within trace.events call event at in
        let fits = subst (IsEvent trace.version trace.layout) (get_or_from_slice_get trace.events call event event at) (in_range.events call event lt) in
        asked_fits trace.version trace.layout event action fits (told (Some event) at)

  stays : (calls : List ℕ) (space : Space) → IsSpace trace.layout.depth space
      → IsSpace trace.layout.depth (after_all trace.layout.depth trace.layout.tables space (operations trace calls))
  stays [] space is = is
  stays (call ∷ calls) space is =
      elim (operation_of trace call) as (λ o. operation_of trace call ≡ o
      → IsSpace trace.layout.depth (after_all trace.layout.depth trace.layout.tables space (cons_option o (operations trace calls)))) [
        | None ↦ λ e. stays calls space is
        | Some action ↦ λ e. stays calls (step trace.layout.depth trace.layout.tables space action).space
            (step_space trace.layout.tables is action (update_fits call action e))
      ] refl

  pub stays_space : (start : Space) → IsSpace trace.layout.depth start → (calls : List ℕ) → IsSpace trace.layout.depth (space_from start trace calls)
  stays_space start is calls = stays calls start is
