-- Maps and unmaps end how the addresses were found to look that they change.
use Rattle.std.proofs.Common.{◌≡◌, ◌≢◌, ℕ, ◌+◌, Bool, true, false, is_some, take, get_or, slice_get, Option, Some, None, refl, sym, ap, ◌∙◌, subst}
use Rattle.std.proofs.lemmas.Option.{slice_get-get_or}
use Rattle.std.specs.FinMap as finite
use Rattle.vs_types.specs.Operation.{IsAction}
use Rattle.vs_types.specs.Page.{covers}
use Rattle.vs_types.specs.Space.{Space, IsSpace, page_at}
use Rattle.vs_types.specs.Step.{step}
use Rattle.vs_types.specs.declared.addresses.depth.Depth.{Depth}
use Rattle.vs_types.specs.declared.requests.op.Action.{Action}
use Rattle.vs_types.specs.declared.requests.op.Action.TheVariants.{Map, Unmap, Protect}
use Rattle.vs_types.specs.declared.addresses.page.Page.{Page}
use Rattle.vs_types.specs.declared.addresses.page.Rights.{Rights}
use Rattle.vs_types.proofs.Spaces.{page_at_means}
use Rattle.vs_types.proofs.Steps.{map_cases, unmap_cases, step_space}
use Rattle.nr_trace.specs.Recording.{IsRecording, Recording}
use Rattle.nr_trace.specs.Calls.{operation_of}
use Rattle.nr_trace.specs.Laws.{HasCleanLog}
use Rattle.nr_trace.specs.Orders.{space_from}
use Rattle.nr_trace.proofs.LawsOfCalls.{placed_is_update, the_some}
use Rattle.nr_trace.proofs.LawsOfSteps.{space_next}
use Rattle.nr_touch.specs.Touches.{page_after, Ends}
use Rattle.nr_touch.specs.inside.Changes.{IsPageChange}
use Rattle.nr_touch.specs.declared.changes.change.Change.{Change}
use Rattle.nr_touch.proofs.StaysSpace.{stays_space, update_fits}
use Rattle.nr_touch.proofs.StepChanges.{added, gone}
use Rattle.nr_touch.proofs.cuts.Ended.{change_within, found_before}
use Rattle.nr_touch.proofs.cuts.Tails.{EachEnds}

-- where an address looks otherwise in the second space, this ends that it is found to look as in the first
abbrev EndsIn : Space → Space → ℕ → Type 0
EndsIn before after a = page_at before a ≢ page_at after a → Ends (page_at before a) (page_at before a) (page_at after a)

-- a change that takes away if a page was there
ends_of : {depth : Depth} {before after : Space} {c : Change} → IsPageChange depth before after c → c.takes ≡ c.was_mapped → (a : ℕ) → EndsIn before after a
ends_of {depth} {before} {after} {c} is same a differs = by_cover (covers c.page a) refl where
  by_page : covers c.page a ≡ true → (o : Option Page) → page_at before a ≡ o → Ends o (page_at before a) (page_at after a)
  by_page covered None at = differs
  by_page covered (Some page) at =
      (is.takes a covered).0 (same ∙ sym (found_before c) ∙ ap is_some (sym (is.was a covered) ∙ at))

  by_cover : (b : Bool) → covers c.page a ≡ b → Ends (page_at before a) (page_at before a) (page_at after a)
  by_cover true covered = by_page covered (page_at before a) refl
  by_cover false uncovered = absurd (differs (is.others a uncovered))

step_ends : (depth : Depth) (limit : ℕ) (space : Space) → IsSpace depth space → (a : ℕ) (action : Action) → IsAction depth action
    → ((base : ℕ) (rights : Rights) → action ≡ Protect base rights → ⊥) → EndsIn space (step depth limit space action).space a
step_ends depth limit space is a (Map page) good other =
    map_cases (λ s. IsSpace depth s.space → EndsIn space s.space a) depth limit space page (λ e t new. ends_of (added limit is page good e new) refl a)
    (λ base e new differs. absurd (differs refl)) (λ e t new differs. absurd (differs refl)) (step_space limit is (Map page) good)
step_ends depth limit space is a (Unmap base) good other =
    unmap_cases (λ s. EndsIn space s.space a) depth limit space base (λ e differs. absurd (differs refl))
    (λ page e begins. subst (λ (b : ℕ). EndsIn space (finite.remove space b) a) begins
    (ends_of (gone limit is page ((page_at_means is base page).0 e).0) refl a))
    (λ page e other differs. absurd (differs refl))
step_ends depth limit space is a (Protect base rights) good other = absurd (other base rights refl)

-- no call of the log is a protect
abbrev pub HasNoProtect : Recording → Type 0
HasNoProtect trace = (place call base : ℕ) (rights : Rights) → slice_get trace.log place ≡ Some call → operation_of trace call ≡ Some (Protect base rights) → ⊥

pub each_ends : (trace : Recording) → IsRecording trace → HasCleanLog trace → HasNoProtect trace → (start : Space) → IsSpace trace.layout.depth start
    → EachEnds start trace
each_ends trace in_range clean plain start is a place changes =
    subst (λ (after : Option Page). Ends (page_after start trace a place) (page_after start trace a place) after) (sym next)
    (step_ends trace.layout.depth trace.layout.tables (space_from start trace (take place trace.log))
    (stays_space trace in_range start is (take place trace.log)) a
    action.0 (update_fits trace in_range call action.0 action.1)
    (λ base rights protects. plain place call base rights placed (action.1 ∙ ap (λ (o : Action). Some o) protects))
    (λ same. changes (same ∙ sym next))) where
      call : ℕ
      call = get_or trace.log place 0

      placed : slice_get trace.log place ≡ Some call
      placed = slice_get-get_or trace.log place 0 (change_within start trace a place changes)

      action : (own : Action) × (operation_of trace call ≡ Some own)
      action = the_some (operation_of trace call) (placed_is_update trace place call clean placed)

      next : page_after start trace a (place + 1)
          ≡ page_at (step trace.layout.depth trace.layout.tables (space_from start trace (take place trace.log)) action.0).space a
      next = ap (λ (s : Space). page_at s a) (space_next start trace place call action.0 placed action.1)
