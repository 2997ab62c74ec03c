-- Lists of the values at the first numbers: entries of a log, answers, spaces.
use Rattle.std.proofs.Common.{◌≡◌, ℕ, zero, suc, ◌+◌, ◌<◌, ◌≤◌, nat_lt, Bool, true, false, ◌⊎◌, inl, inr, List, [], ◌∷◌, ◌++◌, length, map, take, refl, ap, sym, subst, ◌∙◌, arith}
use Rattle.std.proofs.lemmas.Bool.Decides.{nat_tests}
use Rattle.std.proofs.lemmas.List.{map-append, take_all}
use Rattle.std.proofs.lemmas.Option.{none-some}
use Rattle.vs_types.specs.Config.{Layout}
use Rattle.vs_types.specs.Space.{Space, no_pages}
use Rattle.vs_types.specs.Step.{after_all, step}
use Rattle.vs_types.specs.declared.log_entry.LogEntry.{LogEntry}
use Rattle.vs_types.specs.declared.requests.op.Action.{Action}
use Rattle.vs_types.proofs.Afterwards.{after_all-append}
use Rattle.nr_core.specs.inside.Reached.{At, space_at}
use Rattle.nr_core.proofs.reached.Places.{at_end, at_front, at_last, same_front}
use Rattle.nr_machine.specs.declared.words.Update.{Update}
use Rattle.nr_machine.specs.States.{Kind, answers_from, state_after}
use Rattle.nr_machine_runs.specs.History.{entries_to, values_to}
use Rattle.nr_machine_runs.specs.Recorded.{space_kind}
use Rattle.nr_machine_runs.proofs.Histories.{length-values_to}

pub value_at : {X : Type 0} (f : ℕ → X) (n i : ℕ) (x : X) → At (values_to f n) i x → (i < n) × (x ≡ f i)
value_at {X} f zero i x at = absurd (none-some x at)
value_at {X} f (suc n) i x at = by_side (at_last (values_to f n) (f n) i x at) (value_at f n i x) where
  by_side : At (values_to f n) i x ⊎ ((i ≡ length (values_to f n)) × (f n ≡ x)) → (At (values_to f n) i x → (i < n) × (x ≡ f i))
      → (i < suc n) × (x ≡ f i)
  by_side (inl old) so_far = let k = so_far old in let below = k.0 in (omega (arith, below), k.1)
  by_side (inr (last, same)) so_far =
      let long = length-values_to f n in
      let here : n ≡ i = omega (arith, last, long) in
      (omega (arith, here), sym same ∙ ap f here)

pub at_value : {X : Type 0} (f : ℕ → X) (n i : ℕ) → i < n → At (values_to f n) i (f i)
at_value {X} f zero i lt = absurd (omega (arith, lt))
at_value {X} f (suc n) i lt = by_test (nat_lt i n) refl (at_value f n i) where
  by_test : (b : Bool) → nat_lt i n ≡ b → (i < n → At (values_to f n) i (f i)) → At (values_to f (suc n)) i (f i)
  by_test true e so_far = at_front (values_to f n) (f n ∷ []) i (f i) (so_far (grind (arith, nat_tests, e)))
  by_test false e so_far =
      let past : n ≤ i = grind (arith, nat_tests, e) in
      let long = length-values_to f n in
      let last : length (values_to f n) ≡ i = omega (arith, past, lt, long) in
      let here : n ≡ i = omega (arith, past, lt) in
      subst (λ (k : ℕ). At (values_to f (suc n)) k (f i)) last
      (subst (λ (k : ℕ). At (values_to f n ++ f n ∷ []) (length (values_to f n)) (f k)) here (at_end (values_to f n) (f n)))

-- the answers to so many entries
pub answers_are : {S A : Type 0} (kind : Kind S A) (e : ℕ → Update) (first count : ℕ)
    → answers_from kind e first count ≡ values_to (λ i. kind.answer (state_after kind e (first + i)) (e (first + i))) count
answers_are {S} {A} kind e first zero = refl
answers_are {S} {A} kind e first (suc count) =
    ap (λ (xs : List A). xs ++ kind.answer (state_after kind e (first + count)) (e (first + count)) ∷ []) (answers_are kind e first count)

-- the state after so many entries is the space after their operations
spaces_are : (layout : Layout) (means : Update → LogEntry) (e : ℕ → Update) (n : ℕ)
    → state_after (space_kind layout means) e n
    ≡ after_all layout.depth layout.tables no_pages (map (λ (entry : LogEntry). entry.op) (entries_to means e n))
spaces_are layout means e zero = refl
spaces_are layout means e (suc n) =
    let op : LogEntry → Action = λ entry. entry.op in
    let before = entries_to means e n in
    ap (λ (space : Space). (step layout.depth layout.tables space (means (e n)).op).space) (spaces_are layout means e n)
    ∙ sym (after_all-append layout.depth layout.tables no_pages (map op before) ((means (e n)).op ∷ []))
    ∙ ap (after_all layout.depth layout.tables no_pages) (sym (map-append op before (means (e n) ∷ [])))

pub space_is : (layout : Layout) (means : Update → LogEntry) (e : ℕ → Update) (tail n : ℕ) → n ≤ tail
    → state_after (space_kind layout means) e n ≡ space_at layout (entries_to means e tail) n
space_is layout means e tail n le =
    let long = length-values_to (λ p. means (e p)) n in
    let front : take n (entries_to means e tail) ≡ take n (entries_to means e n) =
    same_front (entries_to means e n) (entries_to means e tail) n (λ i x at. in_longer i x (value_at (λ p. means (e p)) n i x at))
    (omega (arith, long)) in
    let whole : take n (entries_to means e n) ≡ entries_to means e n = take_all n (entries_to means e n) (omega (arith, long)) in
    spaces_are layout means e n
    ∙ ap (λ (entries : List LogEntry). after_all layout.depth layout.tables no_pages (map (λ (entry : LogEntry). entry.op) entries))
    (sym (front ∙ whole)) where
      in_longer : (i : ℕ) (x : LogEntry) → (i < n) × (x ≡ means (e i)) → At (entries_to means e tail) i x
      in_longer i x is = let below = is.0 in
          subst (λ (y : LogEntry). At (entries_to means e tail) i y) (sym is.1)
          (at_value (λ p. means (e p)) tail i (omega (arith, below, le)))
