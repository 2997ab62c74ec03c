-- Of what two passes have seen of one history, one begins with the other; and the codes of their values say which.
use Rattle.std.proofs.Common.{◌≡◌, ℕ, zero, suc, ◌+◌, ◌<◌, ◌≤◌, ◌⊎◌, List, [], ◌∷◌, ◌++◌, All, Option, drop, length, get_or, ⊎_elim, inl, inr, refl, ap, sym}
use Rattle.std.proofs.Common.{subst, ◌∙◌, arith}
use Rattle.std.specs.Prelude.{slice_index_or, slice_set}
use Rattle.std.proofs.lemmas.List.{append-nil, append_assoc, append_cancel_left}
use Rattle.std.proofs.lemmas.List.Elements.{All-cons}
use mathlib.Core.Option.{some}
use lib.ListN.{get_elem?}
use Rattle.version_cell.specs.Meetings.{HaveComeFurther, Recalls}
use Rattle.version_cell.specs.Passes.{CellPass}
use Rattle.vs_types.specs.declared.addresses.depth.Depth.{Depth}
use Rattle.nr_ring.specs.Calls.{Looks, joint_view}
use Rattle.nr_ring.specs.Laws.{FitsTheRing, HasSameTails}
use Rattle.nr_ring.specs.LogHistory.{IsLogHistory, log_after, new_log, tail}
use Rattle.nr_ring.specs.Rule.{IsKept}
use Rattle.nr_ring.specs.View.{HasSeenAdvances, IsElse, IsTrueOf, StartsWith, made_by_pass}
use Rattle.nr_ring.specs.Words.{last_ring, ring_before}
use Rattle.nr_ring.specs.declared.ring.log_event.LogEvent.{LogEvent}
use Rattle.nr_ring.specs.declared.cells.stored.Stored.{Stored}
use Rattle.nr_ring.specs.declared.ring.view.View.{View}
use Rattle.nr_ring.specs.inside.Codes.{code_in, code_of_log}
use Rattle.nr_ring.specs.inside.Held.{Remembers}
use Rattle.nr_ring.proofs.Codes.{event_raises, same_tails}
use Rattle.nr_ring.proofs.Histories.{as_many_locals, begins, goes_on_after, goes_on_before, history_fits}
use Rattle.nr_ring.proofs.Turns.{seeing, seeing_kept}
use Rattle.nr_ring.proofs.Views.{after_one_more, whole}

-- each event raises the code by one at least
code_up : (depth : Depth) (replicas : ℕ) (seen rest : List LogEvent) → replicas ≤ 4 → IsLogHistory depth replicas (seen ++ rest)
    → code_of_log (log_after replicas seen) + length rest ≤ code_of_log (log_after replicas (seen ++ rest))
code_up depth replicas seen [] few is = omega (arith, ap (λ (l : List LogEvent). code_of_log (log_after replicas l)) (append-nil seen))
code_up depth replicas seen (event ∷ rest) few is =
    let same : seen ++ event ∷ rest ≡ (seen ++ event ∷ []) ++ rest = sym (append_assoc seen (event ∷ []) rest) in
    let Is : List LogEvent → Type 0 = λ l. IsLogHistory depth replicas l in
    let all = subst Is same is in
    let next = code_up depth replicas (seen ++ event ∷ []) rest few all in
    let before : IsLogHistory depth replicas seen = goes_on_before depth (new_log replicas) seen (event ∷ rest) is in
    let after : IsLogHistory depth replicas (seen ++ event ∷ []) = goes_on_before depth (new_log replicas) (seen ++ event ∷ []) rest all in
    let may = (goes_on_after depth (new_log replicas) seen (event ∷ rest) is).0 in
    let one = after_one_more (new_log replicas) seen event in
    let raises = event_raises depth (log_after replicas seen) event (history_fits depth replicas seen before)
    (subst FitsTheRing one (history_fits depth replicas (seen ++ event ∷ []) after)) (omega (arith, as_many_locals depth replicas seen before, few)) may in
    omega (arith, next, raises, ap code_of_log one, ap (λ (l : List LogEvent). code_of_log (log_after replicas l)) same)

pub code_rises : (depth : Depth) (replicas : ℕ) (later earlier : List LogEvent) → replicas ≤ 4 → IsLogHistory depth replicas later
    → (b : StartsWith later earlier)
    → code_of_log (log_after replicas earlier) + length b.0 ≤ code_of_log (log_after replicas later)
code_rises depth replicas later earlier few is b =
    let Is : List LogEvent → Type 0 = λ l. IsLogHistory depth replicas l in
    omega (arith, code_up depth replicas earlier b.0 few (subst Is b.1 is), ap (λ (l : List LogEvent). code_of_log (log_after replicas l)) b.1)

either_begins : (a b r s : List LogEvent) → a ++ r ≡ b ++ s → StartsWith b a ⊎ StartsWith a b
either_begins [] b r s e = inl (b, refl)
either_begins (x ∷ xs) [] r s e = inr (x ∷ xs, refl)
either_begins (x ∷ xs) (y ∷ ys) r s e =
    let head : x ≡ y = ap (λ (l : List LogEvent). get_or l 0 x) e in
    let tail : xs ++ r ≡ ys ++ s = ap (drop 1) e in
    ⊎_elim
    (λ (t : StartsWith ys xs). inl (t.0, λ i. sym head i ∷ t.1 i))
    (λ (t : StartsWith xs ys). inr (t.0, λ i. head i ∷ t.1 i))
    (either_begins xs ys r s tail)

all_of_first : (P : LogEvent → Type 0) (xs ys : List LogEvent) → All P (xs ++ ys) → All P xs
all_of_first P [] ys all k d lt = absurd (omega arith)
all_of_first P (x ∷ xs) ys all zero d lt = all 0 d (omega arith)
all_of_first P (x ∷ xs) ys all (suc k) d lt = all_of_first P xs ys (λ j e le. all (suc j) e (omega arith)) k d (omega arith)

all_of_rest : (P : LogEvent → Type 0) (xs ys : List LogEvent) → All P (xs ++ ys) → All P ys
all_of_rest P [] ys all = all
all_of_rest P (x ∷ xs) ys all = all_of_rest P xs ys (λ k d lt. all (suc k) d (omega arith))

-- what is between the seen and the whole has no advance of a replica that the whole has none of since
pub between : (replica : ℕ) (whole middle seen : List LogEvent) → HasSeenAdvances replica whole seen → StartsWith whole middle → StartsWith middle seen
    → HasSeenAdvances replica whole middle × HasSeenAdvances replica middle seen
between replica whole middle seen all last first =
    let more : all.0 ≡ first.0 ++ last.0 = append_cancel_left seen all.0 (first.0 ++ last.0)
    (sym all.1 ∙ last.1 ∙ ap (λ (l : List LogEvent). l ++ last.0) first.1 ∙ append_assoc seen first.0 last.0) in
    let Each : List LogEvent → Type 0 = λ l. All (IsElse replica) l in
    let each = subst Each more all.2 in (
      (last.0, last.1, all_of_rest (IsElse replica) first.0 last.0 each),
      (first.0, first.1, all_of_first (IsElse replica) first.0 last.0 each),
    )

-- a pass that was given another's sees as much as one of the two, of which both were a beginning, and the value is that
sees : (depth : Depth) (replicas passes places pass : ℕ) (told other : View) (value x : Stored) (views : List View)
    → (kept : IsKept depth replicas passes places x views) → get_elem? views pass ≡ some (joint_view told other)
    → StartsWith x.history value.history → StartsWith value.history told.seen → StartsWith value.history other.seen → All (StartsWith told.seen) told.told
    → IsLogHistory depth replicas value.history → length value.rings ≡ tail (log_after replicas value.history)
    → All (λ ring. ring < passes) value.rings → tail (log_after replicas value.history) ≤ places
    → (w : View) × IsKept depth replicas passes places x (slice_set views pass w) × Looks depth replicas passes places value (joint_view told other) w
sees depth replicas passes places pass told other value x views kept at here mine its told_all is each below ends =
    let v : View = joint_view told other in
    let seen = value.history in
    let w : View = seeing seen v in
    let old : IsTrueOf x.history (made_by_pass pass kept.makers) v = kept.each_view pass v at in
    let own : (k d : ℕ) → k < length v.owns
    → HasSeenAdvances (slice_index_or v.owns k d) x.history seen × HasSeenAdvances (slice_index_or v.owns k d) seen told.seen =
    λ k d lt. between (slice_index_or v.owns k d) x.history seen told.seen (old.owns k d lt) here mine in (
      w,
      seeing_kept depth replicas passes places pass v seen x views kept at
          (record { seen = here; told = old.told; owns = λ k d lt. (own k d lt).0; mine = old.mine }),
      record {
        looked = record {
          is_history = is;
          seen = mine;
          told = All-cons (StartsWith seen) other.seen told.told its (λ k d lt. begins (slice_index_or told.told k d) told.seen seen (told_all k d lt) mine);
          advances = λ k d lt. (own k d lt).1;
          told_stays = refl;
          mine = refl;
          owns = refl;
          rights = refl;
        };
        found_is = refl;
        each_ring = each;
        rings_below = below;
        ends = ends;
      },
    )

no_items : (l : List LogEvent) → length l ≡ 0 → l ≡ []
no_items [] e = refl
no_items (x ∷ xs) e = absurd (omega arith)

-- where nothing goes on after a beginning, it is all
all_of : (events seen : List LogEvent) (b : StartsWith events seen) → length b.0 ≡ 0 → StartsWith seen events
all_of events seen b none =
    ([], sym (b.1 ∙ ap (λ (l : List LogEvent). seen ++ l) (no_items b.0 none) ∙ append-nil seen) ∙ sym (append-nil events))

-- the rings of entries are few
pub last_below : (n : ℕ) (rings : List ℕ) (k : ℕ) → 1 ≤ n → All (λ ring. ring < n) rings → ring_before rings k < n
last_below n rings zero one below = one
last_below n [] (suc k) one below = one
last_below n (r ∷ rings) (suc zero) one below = below 0 0 (omega arith)
last_below n (r ∷ rings) (suc (suc k)) one below = last_below n rings (suc k) one (λ i d lt. below (suc i) d (omega arith))

-- a code determines the tails and the last ring
pub codes_tell : (depth : Depth) (replicas : ℕ) (x y : Stored) → replicas ≤ 4 → IsLogHistory depth replicas x.history → IsLogHistory depth replicas y.history
    → last_ring x < 128 → last_ring y < 128 → code_in replicas x ≡ code_in replicas y
    → HasSameTails (log_after replicas x.history) (log_after replicas y.history) × (last_ring x ≡ last_ring y)
codes_tell depth replicas x y few is is' low low' same =
    let p = log_after replicas x.history in
    let q = log_after replicas y.history in
    let many = as_many_locals depth replicas x.history is in
    let many' = as_many_locals depth replicas y.history is' in
    let code : code_of_log p ≡ code_of_log q = omega (arith, same, low, low') in (
      same_tails p q (history_fits depth replicas x.history is) (history_fits depth replicas y.history is') (omega (arith, many, few))
          (omega (arith, many', few)) code,
      omega (arith, same, low, low'),
    )

module _ (depth : Depth) (replicas passes places : ℕ) where
  pub last_few : (own : Option ℕ) (mine : ℕ) (p : CellPass View Stored) → Remembers depth replicas passes places own mine p → last_ring p.value < 128
  last_few own mine p is =
      omega (arith, last_below passes p.value.rings (length p.value.rings) (omega (arith, is.ring_below)) is.rings_below, is.few_rings)

  known_history : (own : Option ℕ) (mine : ℕ) (p : CellPass View Stored) → Remembers depth replicas passes places own mine p
      → IsLogHistory depth replicas p.value.history
  known_history own mine p is = let Is : List LogEvent → Type 0 = λ l. IsLogHistory depth replicas l in subst Is (sym is.value_is) is.is_history

  known_rings : (own : Option ℕ) (mine : ℕ) (p : CellPass View Stored) → Remembers depth replicas passes places own mine p
      → length p.value.rings ≡ tail (log_after replicas p.value.history)
  known_rings own mine p is = is.each_ring ∙ ap (λ (l : List LogEvent). tail (log_after replicas l)) (sym is.value_is)

  known_end : (own : Option ℕ) (mine : ℕ) (p : CellPass View Stored) → Remembers depth replicas passes places own mine p
      → tail (log_after replicas p.value.history) ≤ places
  known_end own mine p is = omega (arith, is.ends, ap (λ (l : List LogEvent). tail (log_after replicas l)) is.value_is)

  pub meeting_recalls : (pass : ℕ) (own its : Option ℕ) (mine theirs : ℕ) (told other : CellPass View Stored) (given : View) (value : Stored)
      → Remembers depth replicas passes places own mine told → Remembers depth replicas passes places its theirs other → given.seen ≡ other.view.seen
      → HaveComeFurther (code_in replicas) told.value other.value value
      → Recalls (IsKept depth replicas passes places) pass (joint_view told.view given) value
      (λ before x found after. Looks depth replicas passes places found before after)
  meeting_recalls pass own its mine theirs told other given value is they same further x views kept at =
      let old : IsTrueOf x.history (made_by_pass pass kept.makers) (joint_view told.view given) = kept.each_view pass (joint_view told.view given) at in
      let Now : List LogEvent → Type 0 = λ l. StartsWith x.history l in
      let first = told.value.history in
      let second = other.value.history in
      let given_is : given.seen ≡ second = same ∙ sym they.value_is in
      let hers : StartsWith x.history second = subst Now given_is (old.told 0 [] (omega arith)) in
      let my : StartsWith x.history first = subst Now (sym is.value_is) old.seen in
      let Found : Stored → Type 0 = λ z. (w : View) × IsKept depth replicas passes places x (slice_set views pass w)
      × Looks depth replicas passes places z (joint_view told.view given) w in
      let as_told : StartsWith first second → Found told.value =
      λ after. sees depth replicas passes places pass told.view given told.value x views kept at my
      (subst (λ (l : List LogEvent). StartsWith first l) is.value_is (whole first))
      (subst (λ (l : List LogEvent). StartsWith first l) (sym given_is) after) is.told (known_history own mine told is)
      (known_rings own mine told is) is.rings_below (known_end own mine told is) in
      let as_other : StartsWith second first → Found other.value =
      λ after. sees depth replicas passes places pass told.view given other.value x views kept at hers
      (subst (λ (l : List LogEvent). StartsWith second l) is.value_is after)
      (subst (λ (l : List LogEvent). StartsWith second l) (sym given_is) (whole second)) is.told (known_history its theirs other they)
      (known_rings its theirs other they) they.rings_below (known_end its theirs other they) in
      let order = either_begins first second my.0 hers.0 (sym my.1 ∙ hers.1) in
      let few = last_few own mine told is in
      let few' = last_few its theirs other they in
      let up = λ (o : StartsWith first second). code_rises depth replicas first second is.few (known_history own mine told is) o in
      let up' = λ (o : StartsWith second first). code_rises depth replicas second first is.few (known_history its theirs other they) o in
      ⊎_elim
      (λ (t : (code_in replicas told.value < code_in replicas other.value) × (value ≡ other.value)).
      let lt = t.0 in
      subst Found (sym t.1)
      (⊎_elim
      (λ (o : StartsWith second first). as_other o)
      (λ (o : StartsWith first second). as_other (all_of first second o (omega (arith, lt, few, few', up o))))
      order))
      (λ (t : (code_in replicas other.value ≤ code_in replicas told.value) × (value ≡ told.value)).
      let le = t.0 in
      subst Found (sym t.1)
      (⊎_elim
      (λ (o : StartsWith second first). as_told (all_of second first o (omega (arith, le, few, few', up' o))))
      (λ (o : StartsWith first second). as_told o)
      order))
      further
