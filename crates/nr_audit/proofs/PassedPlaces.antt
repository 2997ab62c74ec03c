-- The places of the log that the calls of the recorded order pass, and the dumps that are compared at them.
use Rattle.std.proofs.Common.{Bor, nat_eq, IsTrue, ◌≡◌, ◌≢◌, ℕ, ◌+◌, ◌<◌, ◌≤◌, ◌⊎◌, inl, inr, true, false, cond, List, [], ◌∷◌, ◌++◌, length, take, drop}
use Rattle.std.proofs.Common.{slice_get, get_or}
use Rattle.std.proofs.Common.{Some, None, Option, refl, sym, ap, subst, ◌∙◌, arith}
use Rattle.std.specs.Prelude.{◌↔◌, is_some}
use Rattle.std.specs.Option.{option_copied}
use Rattle.std.proofs.Math.Seq.{take-length}
use Rattle.std.proofs.lemmas.Bool.{cases_eq, cond-true, cond-false, eq-eqb, eqb-true, false≢true, cases_Bool}
use Rattle.std.proofs.lemmas.List.{append-nil, append_assoc, length-take-le, take-append-drop, take_more}
use Rattle.std.proofs.lemmas.List.Elements.{filter-append}
use Rattle.std.proofs.lemmas.Option.{same_Some, slice_get_within, slice_get-get_or}
use Rattle.vs_types.specs.Space.{Space}
use Rattle.vs_types.specs.Step.{after_all}
use Rattle.vs_plain.specs.Plain.{BoundedSpace}
use Rattle.nr_dump.specs.declared.fault.DumpFault.{DumpFault}
use Rattle.nr_trace.specs.Recording.{Recording}
use Rattle.nr_trace.specs.Calls.{operation_of}
use Rattle.nr_trace.specs.Laws.{HasCleanLog}
use Rattle.nr_trace.specs.Orders.{operations, recorded_order, space_from, updates}
use Rattle.nr_trace.proofs.LawsOfCalls.{placed_is_update}
use Rattle.nr_trace.proofs.LawsOfOrder.{updates_of_order}
use Rattle.nr_audit.specs.Verdict.{space_of}
use Rattle.nr_audit.specs.inside.Dumps.{AreFound, HasPassed, HasReached}
use Rattle.nr_audit.proofs.AnswerFaults.{operations_of_updates}
use Rattle.nr_audit.proofs.ComparedDumps.{found_more}

-- ---- a call at a place

-- what is read at a place is the call there
pub placed_here : (log : List ℕ) (place call : ℕ) (o : Option (Bor ℕ)) (placed : Bor ℕ) → option_copied o ≡ slice_get log place → o ≡ Some placed
    → IsTrue (nat_eq placed.now call) ↔ (slice_get log place ≡ Some call)
placed_here log place call o placed read is =
    let there : slice_get log place ≡ Some placed.now = sym read ∙ ap option_copied is in (
      (λ test. there ∙ ap Some (eqb-true placed.now call test)),
      (λ e. eq-eqb placed.now call (same_Some placed.now call (sym there ∙ e))),
    )

pub placed_nowhere : (log : List ℕ) (place call : ℕ) (o : Option (Bor ℕ)) → option_copied o ≡ slice_get log place → o ≡ None
    → IsTrue false ↔ (slice_get log place ≡ Some call)
placed_nowhere log place call o read is =
    let there : slice_get log place ≡ None = sym read ∙ ap option_copied is in
    ((λ test. absurd (false≢true test)), (λ e. absurd (let both = sym there ∙ e in cc)))

-- ---- one call more

-- the updates with one call more
abbrev with_call : Recording → List ℕ → ℕ → List ℕ
with_call trace calls call = calls ++ cond (is_some (operation_of trace call)) (call ∷ []) []

updates_more : (trace : Recording) (order : List ℕ) (k : ℕ) → k < length order
    → updates trace (take (k + 1) order) ≡ with_call trace (updates trace (take k order)) (get_or order k 0)
updates_more trace order k within =
    ap (λ xs. updates trace xs) (take_more order k 0 within)
    ∙ filter-append (λ call. is_some (operation_of trace call)) (take k order) (get_or order k 0 ∷ [])

-- what is no update leaves the updates
other_stays : (trace : Recording) (order : List ℕ) (k : ℕ) → k < length order → is_some (operation_of trace (get_or order k 0)) ≡ false
    → updates trace (take (k + 1) order) ≡ updates trace (take k order)
other_stays trace order k within none =
    updates_more trace order k within
    ∙ ap (λ xs. updates trace (take k order) ++ xs) (cond-false (is_some (operation_of trace (get_or order k 0))) (get_or order k 0 ∷ []) [] none)
    ∙ append-nil (updates trace (take k order))

update_comes : (trace : Recording) (order : List ℕ) (k : ℕ) → k < length order → is_some (operation_of trace (get_or order k 0)) ≡ true
    → updates trace (take (k + 1) order) ≡ updates trace (take k order) ++ get_or order k 0 ∷ []
update_comes trace order k within some =
    updates_more trace order k within
    ∙ ap (λ xs. updates trace (take k order) ++ xs) (cond-true (is_some (operation_of trace (get_or order k 0))) (get_or order k 0 ∷ []) [] some)

-- what comes after the first places is at the next
at_seam : (xs ys : List ℕ) (call : ℕ) → slice_get (xs ++ (call ∷ ys)) (length xs) ≡ Some call
at_seam [] ys call = refl
at_seam (x ∷ xs) ys call = at_seam xs ys call

-- an update among the first calls is at the next place of the log
update_is_next : (trace : Recording) (k place : ℕ) → HasCleanLog trace → k < length (recorded_order trace) → place ≤ length trace.log
    → updates trace (take k (recorded_order trace)) ≡ take place trace.log
    → is_some (operation_of trace (get_or (recorded_order trace) k 0)) ≡ true
    → slice_get trace.log place ≡ Some (get_or (recorded_order trace) k 0)
update_is_next trace k place clean within low same some =
    let order = recorded_order trace in
    let call = get_or order k 0 in
    let rest = updates trace (drop (k + 1) order) in
    let first : updates trace (take (k + 1) order) ≡ take place trace.log ++ call ∷ [] =
    update_comes trace order k within some ∙ ap (λ xs. xs ++ call ∷ []) same in
    let whole : trace.log ≡ take place trace.log ++ (call ∷ rest) =
    sym (updates_of_order trace clean) ∙ ap (λ xs. updates trace xs) (sym (take-append-drop (k + 1) order))
    ∙ filter-append (λ call. is_some (operation_of trace call)) (take (k + 1) order) (drop (k + 1) order)
    ∙ ap (λ xs. xs ++ rest) first ∙ append_assoc (take place trace.log) (call ∷ []) rest in
    let long : length (take place trace.log) ≡ place = length-take-le place trace.log low in
    ap (λ xs. slice_get xs place) whole
    ∙ ap (λ n. slice_get (take place trace.log ++ (call ∷ rest)) n) (sym long)
    ∙ at_seam (take place trace.log) rest call

-- the space after some calls is that after the places that they passed
pub same_space : (start : Space) (trace : Recording) (k place : ℕ) → updates trace (take k (recorded_order trace)) ≡ take place trace.log
    → space_from start trace (take k (recorded_order trace)) ≡ space_from start trace (take place trace.log)
same_space start trace k place same =
    ap (λ xs. after_all trace.layout.depth trace.layout.tables start xs)
    (sym (operations_of_updates trace (take k (recorded_order trace))) ∙ ap (λ xs. operations trace xs) same)

-- ---- how far the calls have come

pub reached_nothing : (start : Space) (trace : Recording) (faults : List (Option DumpFault)) → AreFound start trace 0 faults → HasReached start trace 0 0 faults
reached_nothing start trace faults none = record { within = omega arith; passed = refl; found = none }

some_place : (log : List ℕ) (place call : ℕ) → (slice_get log place ≡ Some call) ⊎ (slice_get log place ≢ Some call)
some_place log place call = by_place (slice_get log place) where
  by_place : (o : Option ℕ) → (o ≡ Some call) ⊎ (o ≢ Some call)
  by_place None = inr (λ e. cc)
  by_place (Some other) = elim (cases_eq other call) [
    | inl same ↦ inl (ap Some same)
    | inr apart ↦ inr (λ e. apart (same_Some other call e))
  ]

module _ (start : Space) (trace : Recording) (clean : HasCleanLog trace) (k place : ℕ) (faults : List (Option DumpFault))
    (within : k < length (recorded_order trace)) (reached : HasReached start trace k place faults) where
  -- a call that is no update passes no place
  pub reached_other : is_some (operation_of trace (get_or (recorded_order trace) k 0)) ≡ false → HasReached start trace (k + 1) place faults
  reached_other none = record {
    within = reached.within;
    passed = other_stays trace (recorded_order trace) k within none ∙ reached.passed;
    found = reached.found;
  }

  pub reached_more : (next : ℕ) (space : BoundedSpace) (new : List (Option DumpFault))
      → space ≡ space_of trace.layout (space_from start trace (take k (recorded_order trace)))
      → HasPassed trace space place (get_or (recorded_order trace) k 0) next faults new → HasReached start trace (k + 1) next new
  reached_more next space new same passed = elim (some_place trace.log place (get_or (recorded_order trace) k 0)) [
    | inl here ↦
        let low = slice_get_within trace.log place (get_or (recorded_order trace) k 0) here in
        let some = placed_is_update trace place (get_or (recorded_order trace) k 0) clean here in
        let step = passed.placed here in
        let call_is : get_or trace.log place 0 ≡ get_or (recorded_order trace) k 0 =
        same_Some _ _ (sym (slice_get-get_or trace.log place 0 low) ∙ here) in
        subst (λ n. HasReached start trace (k + 1) n new) (sym step.0) record {
          within = omega arith;
          passed = update_comes trace (recorded_order trace) k within some ∙ ap (λ xs. xs ++ get_or (recorded_order trace) k 0 ∷ []) reached.passed
              ∙ ap (λ call. take place trace.log ++ call ∷ []) (sym call_is) ∙ sym (take_more trace.log place 0 low);
          found = found_more start trace space place faults new
              (same ∙ ap (λ s. space_of trace.layout s) (same_space start trace k place reached.passed)) reached.found step.1;
        }
    | inr apart ↦
        let step = passed.other apart in
        let none : is_some (operation_of trace (get_or (recorded_order trace) k 0)) ≡ false =
        elim (cases_Bool (is_some (operation_of trace (get_or (recorded_order trace) k 0)))) [
          | inl some ↦ absurd (apart (update_is_next trace k place clean within reached.within reached.passed some))
          | inr none ↦ none
        ] in
        subst (λ n. HasReached start trace (k + 1) n new) (sym step.0)
        (subst (λ xs. HasReached start trace (k + 1) place xs) (sym step.1) (reached_other none))
  ]

-- after all calls the whole log is passed
pub reached_all : (start : Space) (trace : Recording) (k place : ℕ) (faults : List (Option DumpFault)) → HasCleanLog trace
    → k ≡ length (recorded_order trace) → HasReached start trace k place faults → AreFound start trace (length trace.log) faults
reached_all start trace k place faults clean at_end reached =
    let whole : trace.log ≡ take place trace.log =
    sym (updates_of_order trace clean) ∙ ap (λ xs. updates trace xs) (sym (take-length (recorded_order trace)))
    ∙ ap (λ n. updates trace (take n (recorded_order trace))) (sym at_end) ∙ reached.passed in
    let long = length-take-le place trace.log reached.within in
    subst (λ n. AreFound start trace n faults) (sym long ∙ ap length (sym whole)) reached.found
