-- What is met on the way down.
use Rattle.std.proofs.Common.{◌≡◌, ◌≢◌, ℕ, ◌+◌, ◌-◌, ◌<◌, ◌≤◌, ◌⊎◌, List, length, Some, None, ⊎_elim, sym, ap, subst, ◌∙◌, arith}
use Rattle.std.specs.Prelude.{slice_index, slice_set}
use Rattle.std.proofs.lemmas.Bool.{cases_eq, cases_lt}
use Rattle.std.proofs.lemmas.List.{get_or-set_same, get_or-set_other}
use Rattle.std.specs.FinMap as finite
use Rattle.vs_types.specs.Depth.{index_at}
use Rattle.vs_types.specs.Entry.{meaning}
use Rattle.vs_types.specs.Page.{intersection}
use Rattle.vs_types.specs.declared.addresses.page.Rights.{Rights}
use Rattle.vs_types.specs.declared.entries.entry.Meaning.TheVariants as entry
use Rattle.vs_walk.specs.Memory.{Memory}
use Rattle.vs_space.specs.Held.{word_at}
use Rattle.vs_space.specs.Path.{table_in}
use Rattle.vs_space.proofs.Prunes.{word_in}
use Rattle.vs_plan.specs.declared.plans.planner.Phase.TheVariants as phases
use Rattle.vs_plan.specs.declared.plans.planner.Planner.{Planner}
use Rattle.vs_plan.specs.declared.plans.request.Request.TheVariants.{Unmap}
use Rattle.vs_plan.specs.Request.{address_of, lowest_of}
use Rattle.vs_plan.specs.Shown.{IsTableMet, HasOneWord, HasOtherWord, HasMet, IsDescended, IsShown, IsShownIn}
use Rattle.vs_plan.specs.Answered.{LeadsBeyond}
use Rattle.vs_plan.specs.Target.{frames_end, highest_link}
use Rattle.vs_plan.specs.Way.{IsWay}
use Rattle.vs_plan.specs.inside.Ended.{HasEnded}
use Rattle.vs_plan.proofs.Parts.{leads_beyond}
use Rattle.vs_plan.proofs.Stored.{found_word}
use Rattle.vs_plan.proofs.Ways.{way_on}

module _ {memory : Memory} {p : Planner} {words : List ℕ} {index stop taken : ℕ} (read : taken ≡ slice_index words index) (met : HasMet memory p (p.level + 1))
    (way : IsWay p.target.depth memory p.target.root (address_of p.request) p.level p.number p.rights) (there : finite.get memory p.number ≡ Some words)
    (is_index : index ≡ index_at p.level (address_of p.request)) (at_most : stop ≤ p.stop)
    (alone : ((stop ≡ p.level) × ((base : ℕ) → p.request ≡ Unmap base → p.level < p.stop → (i : ℕ) × (i ≢ index) × (slice_index words i ≢ 0)))
    ⊎ ((stop ≡ p.stop) × (p.level < p.stop → (i : ℕ) → i < 512 → i ≢ index → slice_index words i ≡ 0)))
    (numbers_room : p.level < length p.numbers) (words_room : p.level < length p.words) where
  abbrev after : Planner
  after = record p { numbers = slice_set p.numbers p.level p.number; words = slice_set p.words p.level taken; stop = stop }

  number_here : slice_index after.numbers p.level ≡ p.number
  number_here = get_or-set_same p.numbers p.level p.number 0 numbers_room

  word_here : slice_index after.words p.level ≡ slice_index words index
  word_here = get_or-set_same p.words p.level taken 0 words_room ∙ read

  number_above : (j : ℕ) → j ≢ p.level → slice_index after.numbers j ≡ slice_index p.numbers j
  number_above j other = get_or-set_other p.numbers p.level j p.number 0 other

  word_above : (j : ℕ) → j ≢ p.level → slice_index after.words j ≡ slice_index p.words j
  word_above j other = get_or-set_other p.words p.level j taken 0 other

  abbrev Met : ℕ → ℕ → ℕ → Type 0
  Met level number word = IsTableMet p.target.depth memory p.target.root (address_of p.request) level number word

  met_here : Met p.level p.number (slice_index words index)
  met_here = record {
    rights = p.rights;
    way = way;
    word_is = subst (λ i. word_at memory p.number i ≡ Some (slice_index words index)) is_index (word_in memory p.number index words there);
  }

  other_word : (i : ℕ) × (i ≢ index) × (slice_index words i ≢ 0) → HasOtherWord memory p.number (index_at p.level (address_of p.request))
  other_word o = record {
    other = o.0;
    apart = λ e. o.1 (e ∙ sym is_index);
    word = slice_index words o.0;
    there = word_in memory p.number o.0 words there;
    some = o.2;
  }

  below_stop : (base : ℕ) → p.request ≡ Unmap base → stop < highest_link p.target → stop ≡ p.level → p.level < p.stop
  below_stop base is low here = ⊎_elim
      (λ (lt : p.level < p.stop). lt)
      (λ (le : p.stop ≤ p.level).
      let same : p.stop ≡ stop = omega (arith, at_most, le, here) in
      let before = (met.busy base is (omega (arith, same, low))).0 in
      absurd (omega arith))
      (cases_lt p.level p.stop)

  pub met_more : HasMet memory after p.level
  met_more = record {
    tables = λ level from to. ⊎_elim
        (λ (same : level ≡ p.level). subst (λ l. Met l (slice_index after.numbers l) (slice_index after.words l)) (sym same)
        (subst (λ n. Met p.level n (slice_index after.words p.level)) (sym number_here) (subst (Met p.level p.number) (sym word_here) met_here)))
        (λ (other : level ≢ p.level).
        subst (λ n. Met level n (slice_index after.words level)) (sym (number_above level other))
        (subst (Met level (slice_index p.numbers level)) (sym (word_above level other)) (met.tables level (omega arith) to)))
        (cases_eq level p.level);
    alone = λ level from low. ⊎_elim
        (λ here. absurd (omega (arith, here.0, from, low)))
        (λ still. ⊎_elim
        (λ (same : level ≡ p.level). subst (λ l. HasOneWord memory (slice_index after.numbers l) (index_at l (address_of p.request))) (sym same)
        (subst (λ n. HasOneWord memory n (index_at p.level (address_of p.request))) (sym number_here)
        (λ i lt other. word_in memory p.number i words there
        ∙ ap Some (still.1 (omega (arith, still.0, low, same)) i lt (λ e. other (e ∙ is_index))))))
        (λ (other : level ≢ p.level).
        subst (λ n. HasOneWord memory n (index_at level (address_of p.request))) (sym (number_above level other))
        (met.alone level (omega arith) (omega (arith, still.0, low))))
        (cases_eq level p.level))
        alone;
    stop = omega (arith, at_most, met.stop);
    busy = λ base is low. ⊎_elim
        (λ here. (
          omega (arith, here.0),
          subst (λ l. HasOtherWord memory (slice_index after.numbers l) (index_at l (address_of p.request))) (sym here.0)
              (subst (λ n. HasOtherWord memory n (index_at p.level (address_of p.request))) (sym number_here)
              (other_word (here.1 base is (below_stop base is low here.0)))),
        ))
        (λ still.
        let before = met.busy base is (omega (arith, still.0, low)) in (
          omega (arith, before.0, still.0),
          subst (λ l. HasOtherWord memory (slice_index after.numbers l) (index_at l (address_of p.request))) (sym still.0)
              (subst (λ n. HasOtherWord memory n (index_at p.stop (address_of p.request)))
              (sym (number_above p.stop (λ e. omega (arith, before.0, e)))) before.1),
        ))
        alone;
  }

  -- ---- the way goes on, or ends

  word_there : word_at memory p.number (index_at p.level (address_of p.request)) ≡ Some taken
  word_there = met_here.word_is ∙ ap Some (sym read)

  pub goes_on : {next : ℕ} {own rights : Rights} → 1 ≤ p.level → meaning p.level taken ≡ entry.Table next own → rights ≡ intersection p.rights own
      → IsDescended memory (record after { level = p.level - 1; number = next; rights = rights })
  goes_on {next} {own} {rights} some says are = record {
    way = subst (IsWay p.target.depth memory p.target.root (address_of p.request) (p.level - 1) next) (sym are)
        (way_on way some (found_word p.level memory p.number (address_of p.request) taken word_there ∙ ap Some says));
    met = subst (HasMet memory (record after { level = p.level - 1; number = next; rights = rights })) (let e : p.level ≡ p.level - 1 + 1 = omega arith in e)
        (record { tables = met_more.tables; alone = met_more.alone; stop = met_more.stop; busy = met_more.busy });
  }

  pub shown_on : {next : ℕ} {own rights : Rights} → 1 ≤ p.level → meaning p.level taken ≡ entry.Table next own → rights ≡ intersection p.rights own
      → p.phase ≡ phases.Descent → IsShown memory (record after { level = p.level - 1; number = next; rights = rights })
  shown_on {next} {own} {rights} some says are is =
      subst (λ phase. IsShownIn phase memory (record after { level = p.level - 1; number = next; rights = rights })) (sym is) (goes_on some says are)

  pub ends_at : (lowest_of p.request < p.level → table_in (Some (meaning p.level taken)) ≡ None) → HasEnded memory after taken
  ends_at ends = record { way = way; word_is = word_there; last = word_here ∙ sym read; ends = ends; met = met_more }

  -- the word links to a frame beyond the physical addresses
  pub goes_beyond : {next : ℕ} {own : Rights} → 1 ≤ p.level → meaning p.level taken ≡ entry.Table next own → frames_end p.target ≤ next
      → LeadsBeyond p.target memory p.number index
  goes_beyond {next} {own} some says far = leads_beyond p.target (address_of p.request) p.level p.number p.rights some way
      (found_word p.level memory p.number (address_of p.request) taken word_there ∙ ap Some says) is_index far
