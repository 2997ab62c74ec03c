-- A way that ends in a table of level 1 is one that a planner has gone.
use Rattle.std.proofs.Common.{◌≡◌, ◌≢◌, ℕ, zero, suc, ◌<◌, ◌≤◌, List, [], ◌∷◌, Some, ⊎_elim, refl, sym, ap, subst, ◌∙◌, arith}
use Rattle.std.specs.Prelude.{slice_index, unwrap_or}
use Rattle.std.proofs.lemmas.Bool.{cases_eq}
use Rattle.vs_types.specs.Depth.{index_at, levels}
use Rattle.vs_types.specs.declared.addresses.depth.Depth.{Depth}
use Rattle.vs_types.specs.declared.addresses.depth.Depth.TheVariants.{Four, Five}
use Rattle.vs_types.specs.declared.addresses.page.Rights.{Rights}
use Rattle.vs_types.specs.declared.entries.entry.Meaning.TheVariants as entry
use Rattle.vs_walk.specs.Memory.{Memory}
use Rattle.vs_space.specs.Held.{word_at}
use Rattle.vs_space.specs.Path.{table_at}
use Rattle.vs_space.proofs.Paths.{words_found}
use Rattle.vs_space.proofs.Prunes.{word_in}
use Rattle.vs_plan.specs.declared.plans.planner.Phase.TheVariants as phases
use Rattle.vs_plan.specs.declared.plans.planner.Planner.{Planner}
use Rattle.vs_plan.specs.declared.plans.request.Request.{Request}
use Rattle.vs_plan.specs.declared.plans.request.Request.TheVariants.{Unmap}
use Rattle.vs_plan.specs.declared.plans.target.Target.{Target}
use Rattle.vs_plan.specs.Request.{IsRequest, address_of, lowest_of}
use Rattle.vs_plan.specs.Shown.{HasOtherWord, IsTableMet}
use Rattle.vs_plan.specs.Target.{highest_link}
use Rattle.vs_plan.specs.Way.{IsWay, Begins, Leads}
use Rattle.vs_plan.specs.inside.Ended.{HasEnded, IsAtEnd}
use Rattle.vs_plan.proofs.Ways.{way_table}
use Rattle.nrvs_plan_c.specs.declared.end.End.{End}
use Rattle.vs_types.specs.Bits.{rights_at}
use Rattle.nrvs_plan_c.specs.inside.End.{IsEndOf}

pub four_levels : (depth : Depth) → 4 ≤ levels depth
four_levels Four = omega arith
four_levels Five = omega arith

pub five_levels : (depth : Depth) → levels depth ≤ 5
five_levels Four = omega arith
five_levels Five = omega arith

-- ---- numbers by level, in a list

abbrev six : (ℕ → ℕ) → List ℕ
six f = f 0 ∷ f 1 ∷ f 2 ∷ f 3 ∷ f 4 ∷ f 5 ∷ []

six_is : (f : ℕ → ℕ) (level : ℕ) → level ≤ 5 → slice_index (six f) level ≡ f level
six_is f zero le = refl
six_is f (suc zero) le = refl
six_is f (suc (suc zero)) le = refl
six_is f (suc (suc (suc zero))) le = refl
six_is f (suc (suc (suc (suc zero)))) le = refl
six_is f (suc (suc (suc (suc (suc zero))))) le = refl
six_is f (suc (suc (suc (suc (suc (suc level)))))) le = absurd (omega (arith, le))

-- ---- the tables on a way, and the words of their entries

abbrev number_on : Depth → Memory → ℕ → ℕ → ℕ → ℕ
number_on depth memory root address level = unwrap_or (table_at (levels depth) memory root level address) 0

abbrev word_on : Depth → Memory → ℕ → ℕ → ℕ → ℕ
word_on depth memory root address level = unwrap_or (word_at memory (number_on depth memory root address level) (index_at level address)) 0

module _ {depth : Depth} {memory : Memory} {root address : ℕ} where
  met_at : (level number : ℕ) (rights : Rights) → IsWay depth memory root address level number rights → (word : ℕ)
      → word_at memory number (index_at level address) ≡ Some word → (k : ℕ) → level ≤ k → k ≤ levels depth
      → (n : ℕ) × (w : ℕ) × IsTableMet depth memory root address k n w
  met_at level number rights Begins word there k from to =
      let same : k ≡ levels depth = omega (arith, from, to) in
      (root, word, subst (λ l. IsTableMet depth memory root address l root word) (sym same) (record { rights = rights; way = Begins; word_is = there }))
  met_at level number rights (Leads l p next above own way found) word there k from to = ⊎_elim
      (λ (same : k ≡ l). (
        next,
        word,
        subst (λ j. IsTableMet depth memory root address j next word) (sym same)
            (record { rights = rights; way = Leads l p next above own way found; word_is = there }),
      ))
      (λ (other : k ≢ l).
      let words = words_found (suc l) memory p address (entry.Table next own) found in
      met_at (suc l) p above way (slice_index words.0 (index_at (suc l) address)) (word_in memory p (index_at (suc l) address) words.0 words.1) k
      (omega (arith, from, other)) to)
      (cases_eq k l)

  module _ {level number word : ℕ} {rights : Rights} (way : IsWay depth memory root address level number rights)
      (there : word_at memory number (index_at level address) ≡ Some word) where
    met_on : (k : ℕ) → level ≤ k → k ≤ levels depth
        → IsTableMet depth memory root address k (number_on depth memory root address k) (word_on depth memory root address k)
    met_on k from to =
        let at = met_at level number rights way word there k from to in
        let met = at.2 in
        let number_is : number_on depth memory root address k ≡ at.0 = ap (λ o. unwrap_or o 0) (way_table k at.0 met.rights met.way) in
        let word_is : word_on depth memory root address k ≡ at.1 =
        ap (λ n. unwrap_or (word_at memory n (index_at k address)) 0) number_is ∙ ap (λ o. unwrap_or o 0) met.word_is in
        subst (λ n. IsTableMet depth memory root address k n (word_on depth memory root address k)) (sym number_is)
        (subst (IsTableMet depth memory root address k at.0) (sym word_is) met)

    number_here : number_on depth memory root address level ≡ number
    number_here = ap (λ o. unwrap_or o 0) (way_table level number rights way)

    word_here : word_on depth memory root address level ≡ word
    word_here = ap (λ n. unwrap_or (word_at memory n (index_at level address)) 0) number_here ∙ ap (λ o. unwrap_or o 0) there

-- ---- the planner at the end

abbrev pub gone : Target → Request → Memory → End → ℕ → Planner
gone target request memory end stop = record {
  target = target;
  request = request;
  phase = phases.Descent;
  level = 1;
  number = end.number;
  rights = rights_at end.allowed;
  numbers = six (number_on target.depth memory target.root (address_of request));
  words = six (word_on target.depth memory target.root (address_of request));
  stop = stop;
  base = 0;
  height = 0;
  below = 0;
  stores = record { items = [] };
}

module _ (target : Target) (request : Request) (memory : Memory) (end : End) (stop : ℕ) (lowest : lowest_of request ≡ 1) (low : stop ≤ 1) where
  pub at_end : IsRequest target request → IsAtEnd (gone target request memory end stop)
  at_end good = record {
    request = good;
    some = omega arith;
    few = omega (arith, four_levels target.depth);
    lowest = omega (arith, lowest);
    stop = omega (arith, four_levels target.depth, low);
  }

  pub has_ended : IsEndOf target memory (address_of request) end → stop ≤ highest_link target
      → ((base : ℕ) → request ≡ Unmap base → stop < highest_link target
      → (1 ≤ stop) × HasOtherWord memory end.number (index_at 1 (address_of request)))
      → HasEnded memory (gone target request memory end stop) end.word
  has_ended is highest busy = record {
    way = is.way;
    word_is = is.word;
    last = word_here is.way is.word;
    ends = λ deep. absurd (omega (arith, deep, lowest));
    met = record {
      tables = λ level from to.
          let le : level ≤ 5 = omega (arith, to, five_levels target.depth) in
          subst (λ n. IsTableMet target.depth memory target.root (address_of request) level n
          (slice_index (six (word_on target.depth memory target.root (address_of request))) level))
          (sym (six_is (number_on target.depth memory target.root (address_of request)) level le))
          (subst (IsTableMet target.depth memory target.root (address_of request) level (number_on target.depth memory target.root (address_of request) level))
          (sym (six_is (word_on target.depth memory target.root (address_of request)) level le))
          (met_on is.way is.word level from to));
      alone = λ level from below. absurd (omega (arith, from, below, low));
      stop = highest;
      busy = λ base eq below.
          let other = busy base eq below in
          let one : stop ≡ 1 = omega (arith, other.0, low) in (
            other.0,
            subst (λ k. HasOtherWord memory (slice_index (six (number_on target.depth memory target.root (address_of request))) k)
                (index_at k (address_of request))) (sym one)
                (subst (λ n. HasOtherWord memory n (index_at 1 (address_of request))) (sym (number_here is.way is.word)) other.1),
          );
    };
  }
