-- A history grows by one event: what that is to the events and to the views.
use Rattle.std.proofs.Common.{◌≡◌, ◌≢◌, ℕ, zero, suc, ◌+◌, ◌<◌, Bool, true, false, List, [], ◌∷◌, ◌++◌, All, Contains, length, get_or, set, eqb, add-zero}
use Rattle.std.proofs.Common.{if◌then◌else◌, ⊎_elim, refl, ap, sym, subst, ◌∙◌, arith}
use Rattle.std.proofs.lemmas.List.{append-nil, append_assoc}
use Rattle.std.proofs.lemmas.List.Elements.{All-append}
use Rattle.std.proofs.lemmas.Bool.{eq-eqb, ne_eqb}
use mathlib.Core.Option.{some, some-ne-none}
use lib.ListN.{get_elem?}
use Rattle.atomic_table.proofs.Lists.{at_set}
use Rattle.vs_types.specs.declared.addresses.depth.Depth.{Depth}
use Rattle.nr_ring.specs.LogHistory.{Log, MayFollow, MayGoOn, log_after_event, log_after_events}
use Rattle.nr_ring.specs.View.{StartsWith, IsElse, HasSeenAdvances, made_from, made_by_pass}
use Rattle.nr_ring.specs.declared.ring.log_event.LogEvent.{LogEvent}
use Rattle.nr_ring.specs.declared.ring.view.View.{View}

pub goes_on_by : (depth : Depth) (log : Log) (events : List LogEvent) (event : LogEvent) → MayGoOn depth log events
    → MayFollow depth (log_after_events log events) event
    → MayGoOn depth log (events ++ event ∷ [])
goes_on_by depth log [] event may next = (next, tt)
goes_on_by depth log (e ∷ es) event may next = (may.0, goes_on_by depth (log_after_event log e) es event may.1 next)

pub after_one_more : (log : Log) (events : List LogEvent) (event : LogEvent)
    → log_after_events log (events ++ event ∷ []) ≡ log_after_event (log_after_events log events) event
after_one_more log [] event = refl
after_one_more log (e ∷ es) event = after_one_more (log_after_event log e) es event

pub whole : (events : List LogEvent) → StartsWith events events
whole events = ([], sym (append-nil events))

pub nothing_since : (replica : ℕ) (events : List LogEvent) → HasSeenAdvances replica events events
nothing_since replica events = ([], sym (append-nil events), λ k d lt. absurd (omega arith))

pub begins_still : (events seen : List LogEvent) (event : LogEvent) → StartsWith events seen → StartsWith (events ++ event ∷ []) seen
begins_still events seen event is = (is.0 ++ event ∷ [], ap (λ (l : List LogEvent). l ++ event ∷ []) is.1 ∙ append_assoc seen is.0 (event ∷ []))

one_else : (replica : ℕ) (event : LogEvent) → IsElse replica event → All (IsElse replica) (event ∷ [])
one_else replica event is zero d lt = is
one_else replica event is (suc k) d lt = absurd (omega arith)

pub advances_still : (replica : ℕ) (events seen : List LogEvent) (event : LogEvent) → HasSeenAdvances replica events seen → IsElse replica event
    → HasSeenAdvances replica (events ++ event ∷ []) seen
advances_still replica events seen event is no_advance = (
  is.0 ++ event ∷ [],
  ap (λ (l : List LogEvent). l ++ event ∷ []) is.1 ∙ append_assoc seen is.0 (event ∷ []),
  All-append (IsElse replica) is.0 (event ∷ []) is.2 (one_else replica event no_advance),
)

-- the numbers of a pass's events, with one more event by a maker
one_more_by : (number pass maker : ℕ) (b : Bool) → eqb maker pass ≡ b → made_from number pass (maker ∷ []) ≡ (if b then number ∷ [] else [])
one_more_by number pass maker true e = rw e refl
one_more_by number pass maker false e = rw e refl

first_and_rest : (number pass maker m : ℕ) (ms : List ℕ) (b : Bool) → eqb m pass ≡ b
    → made_from (number + 1) pass (ms ++ maker ∷ []) ≡ made_from (number + 1) pass ms ++ made_from (number + length (m ∷ ms)) pass (maker ∷ [])
    → made_from number pass ((m ∷ ms) ++ maker ∷ []) ≡ made_from number pass (m ∷ ms) ++ made_from (number + length (m ∷ ms)) pass (maker ∷ [])
first_and_rest number pass maker m ms true e rest = rw e (ap (λ (l : List ℕ). number ∷ l) rest)
first_and_rest number pass maker m ms false e rest = rw e rest

made_on : (number pass maker : ℕ) (makers : List ℕ)
    → made_from number pass (makers ++ maker ∷ []) ≡ made_from number pass makers ++ made_from (number + length makers) pass (maker ∷ [])
made_on number pass maker [] = ap (λ n. made_from n pass (maker ∷ [])) (sym (add-zero number))
made_on number pass maker (m ∷ ms) =
    let places : number + 1 + length ms ≡ number + length (m ∷ ms) = omega arith in
    first_and_rest number pass maker m ms (eqb m pass) refl
    (made_on (number + 1) pass maker ms ∙ ap (λ n. made_from (number + 1) pass ms ++ made_from n pass (maker ∷ [])) places)

pub made_by_it : (pass : ℕ) (makers : List ℕ) → made_by_pass pass (makers ++ pass ∷ []) ≡ made_by_pass pass makers ++ length makers ∷ []
made_by_it pass makers =
    made_on 0 pass pass makers
    ∙ ap (λ (l : List ℕ). made_by_pass pass makers ++ l)
    (one_more_by (0 + length makers) pass pass true (eq-eqb pass pass refl) ∙ ap (λ n. n ∷ []) (omega arith))

pub made_by_another : (pass maker : ℕ) (makers : List ℕ) → maker ≢ pass → made_by_pass pass (makers ++ maker ∷ []) ≡ made_by_pass pass makers
made_by_another pass maker makers other =
    made_on 0 pass maker makers
    ∙ ap (λ (l : List ℕ). made_by_pass pass makers ++ l) (one_more_by (0 + length makers) pass maker false (ne_eqb maker pass other))
    ∙ append-nil (made_by_pass pass makers)

-- where a view is changed but owns the same, each owner was one before
pub owned_before : (views : List View) (pass : ℕ) (v w : View) → get_elem? views pass ≡ some v → w.owns ≡ v.owns → (j : ℕ) (u : View) (replica : ℕ)
    → get_elem? (set views pass w) j ≡ some u → Contains u.owns replica
    → (u' : View) × (get_elem? views j ≡ some u') × Contains u'.owns replica
owned_before views pass v w at same j u replica there has =
    ⊎_elim
    (λ (t : (j ≡ pass) × (w ≡ u)).
    let P : List ℕ → Type 0 = λ owns. Contains owns replica in
    (v, ap (λ i. get_elem? views i) t.0 ∙ at, subst P (ap (λ (z : View). z.owns) (sym t.1) ∙ same) has))
    (λ (t : (j ≢ pass) × (get_elem? views j ≡ some u)). (u, t.1, has))
    (at_set views pass j w u there)

pub below_end : (views : List View) (pass : ℕ) (v : View) → get_elem? views pass ≡ some v → pass < length views
below_end [] pass v at = absurd (some-ne-none v (sym at))
below_end (u ∷ us) zero v at = omega arith
below_end (u ∷ us) (suc pass) v at = let rest = below_end us pass v at in omega arith

pub same_item : (xs : List ℕ) (k a b : ℕ) → k < length xs → get_or xs k a ≡ get_or xs k b
same_item [] k a b lt = absurd (omega arith)
same_item (x ∷ xs) zero a b lt = refl
same_item (x ∷ xs) (suc k) a b lt = same_item xs k a b (omega arith)

pub contains_item : (xs : List ℕ) (k d : ℕ) → k < length xs → Contains xs (get_or xs k d)
contains_item xs k d lt = (k, lt, same_item xs k (get_or xs k d) d lt)

-- what holds of the views holds still where one is changed to what is true
pub views_changed : (P : ℕ → View → Type 0) (views : List View) (pass : ℕ) (w : View) → P pass w
    → ((j : ℕ) (u : View) → j ≢ pass → get_elem? views j ≡ some u → P j u)
    → (j : ℕ) (u : View) → get_elem? (set views pass w) j ≡ some u → P j u
views_changed P views pass w here others j u there =
    ⊎_elim
    (λ (t : (j ≡ pass) × (w ≡ u)). let Q : View → Type 0 = λ z. P j z in let R : ℕ → Type 0 = λ i. P i w in subst Q t.1 (subst R (sym t.0) here))
    (λ (t : (j ≢ pass) × (get_elem? views j ≡ some u)). others j u t.0 t.1)
    (at_set views pass j w u there)
