-- What a pass holds beside its view: at the start, after a look, after a split.
use Rattle.std.proofs.Common.{◌≡◌, ℕ, zero, suc, ◌+◌, ◌-◌, ◌*◌, ◌<◌, ◌≤◌, List, [], ◌∷◌, All, Contains, Option, None, Some, take, drop, length}
use Rattle.std.proofs.Common.{refl, ap, sym, subst, ◌∙◌, arith}
use Rattle.std.specs.List.{range_with_len}
use Rattle.std.proofs.lemmas.List.FromFn.{get_or-range_with_len, length-range_with_len}
use Rattle.version_cell.specs.Passes.{CellPass}
use Rattle.vs_types.specs.declared.addresses.depth.Depth.{Depth}
use Rattle.nr_ring.specs.LogHistory.{log_after, tail}
use Rattle.nr_ring.specs.View.{StartsWith}
use Rattle.nr_ring.specs.Calls.{Looks, IsCut}
use Rattle.nr_ring.specs.declared.ring.log_event.LogEvent.{LogEvent}
use Rattle.nr_ring.specs.declared.cells.stored.Stored.{Stored}
use Rattle.nr_ring.specs.declared.ring.view.View.{View}
use Rattle.nr_ring.specs.inside.Held.{IsBelow, Remembers, left_from, new_view, nothing_stored, owned, rest_of}

pub longer : (after before : List LogEvent) → StartsWith after before → length before ≤ length after
longer after before begins = omega (arith, ap (λ (l : List LogEvent). length l) begins.1, Rattle.std.proofs.Common.length-append before begins.0)

-- what a pass was given stays what it was
told_before : (after before : View) → after.told ≡ before.told → All (StartsWith after.seen) before.told → All (StartsWith after.seen) after.told
told_before after before same told = let P : List (List LogEvent) → Type 0 = λ l. All (StartsWith after.seen) l in subst P (sym same) told

-- a pass remembers what it did where it knows as much, and its ring is where it was
pub remembers_still : (depth : Depth) (replicas passes places : ℕ) (replica : Option ℕ) (ring : ℕ) (p q : CellPass View Stored)
    → Remembers depth replicas passes places replica ring p → q.view ≡ p.view → q.value ≡ p.value → q.from ≡ p.from → length q.own ≡ length p.own
    → Remembers depth replicas passes places replica ring q
remembers_still depth replicas passes places replica ring p q is view value from own =
    let Is : View × Stored → Type 0 = λ z.
    Remembers depth replicas passes places replica ring
    (record { cell = p.cell; number = p.number; view = z.0; value = z.1; fresh = p.fresh; from = p.from; own = p.own }) in
    let at : Is (q.view, q.value) = subst Is (λ i. (sym view i, sym value i)) is in
    record {
      few = is.few;
      few_rings = is.few_rings;
      is_history = at.is_history;
      value_is = at.value_is;
      each_ring = at.each_ring;
      rings_below = at.rings_below;
      ends = at.ends;
      from_is = from ∙ is.from_is;
      own_long = own ∙ is.own_long;
      ring_below = is.ring_below;
      owns = at.owns;
      owned_below = is.owned_below;
      rights = at.rights;
      mine = at.mine;
      told = at.told;
    }

-- nor does a look change that, from a view by which it owns and has made the same
pub look_remembers_from : (depth : Depth) (replicas passes places : ℕ) (replica : Option ℕ) (ring : ℕ) (p q : CellPass View Stored) (before : View)
    → Remembers depth replicas passes places replica ring p → before.owns ≡ p.view.owns → before.rights ≡ p.view.rights → before.mine ≡ p.view.mine
    → StartsWith q.view.seen p.view.seen → q.from ≡ p.from → q.own ≡ p.own → Looks depth replicas passes places q.value before q.view
    → Remembers depth replicas passes places replica ring q
look_remembers_from depth replicas passes places replica ring p q before is owns rights mine begins from own looks = record {
  few = is.few;
  few_rings = is.few_rings;
  is_history = looks.looked.is_history;
  value_is = looks.found_is;
  each_ring = looks.each_ring ∙ ap (λ (l : List LogEvent). tail (log_after replicas l)) looks.found_is;
  rings_below = looks.rings_below;
  ends = omega (arith, looks.ends, ap (λ (l : List LogEvent). tail (log_after replicas l)) looks.found_is);
  from_is = from ∙ is.from_is;
  own_long = ap (λ (l : List ℕ). length l) own ∙ is.own_long;
  ring_below = is.ring_below;
  owns = looks.looked.owns ∙ owns ∙ is.owns;
  owned_below = is.owned_below;
  rights = looks.looked.rights ∙ rights ∙ is.rights;
  mine =
      let P : List ℕ → Type 0 = λ l. All (λ number. number < length q.view.seen) l in
      let more = longer q.view.seen p.view.seen begins in
      subst P (sym (looks.looked.mine ∙ mine)) (λ k d lt. omega (arith, is.mine k d lt, more));
  told = told_before q.view before looks.looked.told_stays looks.looked.told;
}

pub look_remembers : (depth : Depth) (replicas passes places : ℕ) (replica : Option ℕ) (ring : ℕ) (p q : CellPass View Stored)
    → Remembers depth replicas passes places replica ring p → q.from ≡ p.from → q.own ≡ p.own → Looks depth replicas passes places q.value p.view q.view
    → Remembers depth replicas passes places replica ring q
look_remembers depth replicas passes places replica ring p q is from own looks =
    look_remembers_from depth replicas passes places replica ring p q p.view is refl refl refl looks.looked.seen from own looks

pub new_remembers : (depth : Depth) (replicas passes places : ℕ) (replica : Option ℕ) (ring : ℕ) (p : CellPass View Stored) → replicas ≤ 4 → passes ≤ 128
    → IsBelow replicas replica → ring < passes → p.view ≡ new_view (owned replica) 1 → p.value ≡ nothing_stored → p.from ≡ 32 * ring → length p.own ≡ 32
    → Remembers depth replicas passes places replica ring p
new_remembers depth replicas passes places replica ring p few few_rings below low view value from own =
    let start : CellPass View Stored =
    record { cell = p.cell; number = p.number; view = new_view (owned replica) 1; value = nothing_stored; fresh = p.fresh; from = p.from; own = p.own } in
    let first : Remembers depth replicas passes places replica ring start = record {
      few = few;
      few_rings = few_rings;
      is_history = tt;
      value_is = refl;
      each_ring = refl;
      rings_below = λ k d lt. absurd (omega arith);
      ends = omega arith;
      from_is = from;
      own_long = own;
      ring_below = low;
      owns = refl;
      owned_below = below;
      rights = refl;
      mine = λ k d lt. absurd (omega arith);
      told = λ k d lt. absurd (omega arith);
    } in
    remembers_still depth replicas passes places replica ring start p first view value refl refl

-- the first pass gives away the first of the replicas that it owns
above : (a n replica : ℕ) → Contains (range_with_len a n) replica → a ≤ replica
above a n replica has =
    let below : has.0 < n = omega (arith, has.1, length-range_with_len a n) in
    omega (arith, get_or-range_with_len a n has.0 replica below, has.2)

only : (a replica : ℕ) → Contains (a ∷ []) replica → a ≡ replica
only a replica (zero, lt, e) = e
only a replica (suc k, lt, e) = absurd (omega arith)

pub cut_first : (a n : ℕ) → IsCut (range_with_len a n) (drop 1 (range_with_len a n)) (take 1 (range_with_len a n))
cut_first a zero = record { kept_of = λ r has. has; given_of = λ r has. has; apart = λ r has _. absurd (omega (arith, has.1)) }
cut_first a (suc n) = record {
  kept_of = λ r has. (suc has.0, omega (arith, has.1), has.2);
  given_of = λ r has. (0, omega arith, only a r has);
  apart = λ r kept given. absurd (omega (arith, above (a + 1) n r kept, only a r given));
}

pub cut_owned : (replicas : ℕ) (replica : Option ℕ)
    → IsCut (left_from replicas replica) (drop 1 (left_from replicas replica)) (take 1 (left_from replicas replica))
cut_owned replicas None = cut_first 0 0
cut_owned replicas (Some r) = cut_first r (replicas - r)

pub gives_first : (replicas : ℕ) (replica : Option ℕ) → IsBelow replicas replica → take 1 (left_from replicas replica) ≡ owned replica
gives_first replicas None below = refl
gives_first replicas (Some r) below = let e : replicas - r ≡ suc (replicas - (r + 1)) = omega (arith, below r refl) in ap (λ n. take 1 (range_with_len r n)) e

pub keeps_rest : (replicas : ℕ) (replica : Option ℕ) → IsBelow replicas replica → drop 1 (left_from replicas replica) ≡ rest_of replicas replica
keeps_rest replicas None below = refl
keeps_rest replicas (Some r) below = let e : replicas - r ≡ suc (replicas - (r + 1)) = omega (arith, below r refl) in ap (λ n. drop 1 (range_with_len r n)) e
