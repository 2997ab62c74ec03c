-- The bits that a plan answers, once one of its stores found other flags, are those of the page's entry with them.
use Rattle.std.proofs.Common.{◌≡◌, ◌≢◌, ℕ, zero, suc, List, [], ◌∷◌, Some, None, true, cond, Bool, ◌⊎◌, ⊎_elim, refl, sym, ap, subst, ◌∙◌, arith}
use Rattle.std.proofs.lemmas.Bool.{eq-eqb}
use Rattle.std.proofs.lemmas.Option.{same_Some}
use Rattle.vs_types.specs.Depth.{levels, index_at}
use Rattle.vs_types.specs.Laws.{changes}
use Rattle.vs_types.specs.Space.{Space, page_at}
use Rattle.vs_types.specs.Step.{Stepped, look_in_page}
use Rattle.vs_types.specs.declared.requests.answer.Answer.{Answer}
use Rattle.vs_types.specs.declared.requests.answer.Answer.TheVariants as answers
use Rattle.vs_types.specs.declared.addresses.page.Page.{Page}
use Rattle.vs_types.specs.declared.addresses.page.Size.{Size}
use Rattle.vs_types.proofs.Steps.{unmap_cases, protect_cases}
use Rattle.vs_walk.specs.Memory.{Memory}
use Rattle.vs_space.specs.Flags.{AreSameButFlags}
use Rattle.vs_space.specs.Held.{word_at}
use Rattle.vs_space.specs.Path.{table_at}
use Rattle.vs_plan.specs.declared.plans.plan.Reply.TheVariants as replies
use Rattle.vs_plan.specs.declared.plans.request.Request.{Request}
use Rattle.vs_plan.specs.declared.plans.request.Request.TheVariants.{Map, Unmap, Protect, Ask, Prune}
use Rattle.vs_plan.specs.declared.plans.target.Target.{Target}
use Rattle.vs_plan.specs.Again.{bits_again, told_again}
use Rattle.vs_types.specs.Bits.{HasFlagsSet, bits_in, flags_into}
use Rattle.vs_plan.specs.Request.{stepped, address_of}
use Rattle.vs_plan.specs.Right.{IsEntryOf, IsTold}
use Rattle.vs_plan.proofs.Changing.{change_not_done}
use Rattle.vs_plan.proofs.FlaggedEntries.{entry_flags}
use Rattle.vs_plan.proofs.OtherFlags.{bits_after}
use Rattle.vs_plan.proofs.PlansSuffice.{entry_lowest, entry_sizes}

-- ---- a page has one entry

entries_same : (target : Target) (m : Memory) (base : ℕ) (size other : Size) (word second : ℕ) → IsEntryOf target m base size word
    → IsEntryOf target m base other second → word ≡ second
entries_same target m base size other word second a b =
    let up = entry_lowest target m base size word a b.number b.level b.reached in
    let down = entry_lowest target m base other second b a.number a.level a.reached in
    let level : a.level ≡ b.level = omega arith in
    let number : a.number ≡ b.number = same_Some a.number b.number (sym a.reached
    ∙ ap (λ l. table_at (levels target.depth) m target.root l base) level ∙ b.reached) in
    same_Some word second (sym a.word_is ∙ ap (λ n. word_at m n (index_at a.level base)) number
    ∙ ap (λ l. word_at m b.number (index_at l base)) level ∙ b.word_is)

-- ---- where it changes

module _ (target : Target) {old new : Memory} (same : AreSameButFlags old new) (base : ℕ) where
  -- the entry whose bits are answered is that of the first store
  told_entry : {size first second : Size} {word before now bits next : ℕ} → IsEntryOf target old base size word → IsEntryOf target old base first before
      → IsEntryOf target new base second now → bits ≡ bits_in size word → ((z : Size) → bits ≡ bits_in z before → next ≡ bits_in z now)
      → (found : ℕ) × IsEntryOf target new base size found × (next ≡ bits_in size found)
  told_entry {size} {first} {second} {word} {before} {now} {bits} {next} told was is bits_are moves =
      let word_is : word ≡ before = entries_same target old base size first word before told was in
      let moved = entry_flags same target base word size told in
      let size_is : size ≡ second = entry_sizes target new base size second moved.0 now moved.1 is in (
        now,
        subst (λ (z : Size). IsEntryOf target new base z now) (sym size_is) is,
        moves size (bits_are ∙ ap (bits_in size) word_is),
      )

  -- by the answer, where it isn't that of a map
  pub told_moved : (answer : Answer) {first second : Size} {before now bits next : ℕ} → changes answer ≡ true → (answer ≡ answers.Done → ⊥)
      → IsEntryOf target old base first before → IsEntryOf target new base second now
      → ((z : Size) → bits ≡ bits_in z before → next ≡ bits_in z now)
      → IsTold target old base bits (replies.Answer answer) → IsTold target new base next (replies.Answer answer)
  told_moved answers.Done changed other was is moves told = absurd (other refl)
  told_moved (answers.Removed phys size rights) changed other was is moves told = told_entry told.1 was is told.2 moves
  told_moved (answers.Changed rights) changed other was is moves told =
      let now = told_entry told.2 was is told.3 moves in
      (told.0, now.0, now.1, now.2)
  told_moved _ changed other was is moves told = absurd (cc)

-- ---- the bits

pub bits_moved : (index : ℕ) (unlinked : List ℕ) (word new bits before now : ℕ) → (unlinked ≡ []) ⊎ (new ≡ 0)
    → (index ≡ 0 → (now ≡ word) × HasFlagsSet before word) → (index ≢ 0 → now ≡ before) → (z : Size) → bits ≡ bits_in z before
    → bits_again index unlinked word new bits ≡ bits_in z now
bits_moved zero [] word new bits before now plain here past z is =
    let at = here refl in ap (flags_into word) is ∙ bits_after z word before at.1 ∙ ap (bits_in z) (sym at.0)
bits_moved zero (number ∷ numbers) word new bits before now plain here past z is =
    let at = here refl in
    let none : new ≡ 0 = ⊎_elim (λ clear. absurd (cc)) (λ e. e) plain in
    ap (λ (b : Bool). cond b (flags_into word bits) bits) (eq-eqb new 0 none)
    ∙ ap (flags_into word) is ∙ bits_after z word before at.1 ∙ ap (bits_in z) (sym at.0)
bits_moved (suc index) unlinked word new bits before now plain here past z is = is ∙ ap (bits_in z) (sym (past (λ e. omega arith)))

-- where it isn't answered that it is done, the bits are those that were found
pub told_stays : (answer : Answer) → (answer ≡ answers.Done → ⊥) → (found bits : ℕ) → told_again (replies.Answer answer) found bits ≡ found
told_stays answers.Done other found bits = absurd (other refl)
told_stays _ other found bits = refl

-- ---- no request but a map and a prune is answered that it is done

pub never_done : (target : Target) (space : Space) (request : Request) → ((page : Page) (bits : ℕ) → request ≢ Map page bits)
    → ((address : ℕ) → request ≢ Prune address) → (stepped target.depth space request).answer ≡ answers.Done → ⊥
never_done target space (Map page bits) other no_prune done = other page bits refl
never_done target space (Unmap base) other no_prune done =
    unmap_cases (λ (s : Stepped). s.answer ≡ answers.Done → ⊥) target.depth 0 space base (λ e d. cc) (λ page e same d. cc) (λ page e apart d. cc) done
never_done target space (Protect base rights) other no_prune done =
    protect_cases (λ (s : Stepped). s.answer ≡ answers.Done → ⊥) target.depth 0 space base rights (λ e d. cc) (λ page e same d. cc) (λ page e apart d. cc) done
never_done target space (Ask address) other no_prune done =
    elim (page_at space address) as (λ o. look_in_page address o ≡ answers.Done → ⊥) [ None ↦ λ d. cc | Some page ↦ λ d. cc ] done
never_done target space (Prune address) other no_prune done = no_prune address refl
never_done target space request other no_prune done = change_not_done space (address_of request) _ (page_at space (address_of request)) done
