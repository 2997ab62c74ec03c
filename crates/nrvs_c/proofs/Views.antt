-- A walk through all frames that are lent goes as one through those in use, where that one lacks no frame.
use Rattle.std.proofs.Common.{◌≡◌, ◌≢◌, ◌⊎◌, ℕ, zero, suc, ◌+◌, ◌-◌, ◌<◌, cond, ltb, List, [], length, get_or, take, Option, Some, None, inl, inr, refl, sym}
use Rattle.std.proofs.Common.{ap, ◌∙◌, subst, arith}
use Rattle.std.specs.Prelude.{IsSome, slice_index}
use Rattle.std.specs.List.{slice_get}
use Rattle.std.proofs.lemmas.Bool.{lt-ltb, le-ltb, cases_lt}
use Rattle.std.proofs.lemmas.Option.{slice_get-get_or, slice_get_past}
use Rattle.std.specs.FinMap as finite
use Rattle.vs_types.specs.Depth.{levels, index_at, IsCanonical}
use Rattle.vs_types.specs.Entry.{meaning, all_rights}
use Rattle.vs_types.specs.Page.{intersection}
use Rattle.vs_types.specs.Space.{Space, page_at, table_count}
use Rattle.vs_types.specs.Step.{look, look_in_page}
use Rattle.vs_types.specs.declared.requests.answer.Answer.{Answer}
use Rattle.vs_types.specs.declared.requests.answer.Answer.TheVariants as answers
use Rattle.vs_types.specs.declared.entries.entry.Meaning.{Meaning}
use Rattle.vs_types.specs.declared.entries.entry.Meaning.TheVariants as entry
use Rattle.vs_types.specs.declared.addresses.page.Page.{Page}
use Rattle.vs_types.specs.declared.addresses.page.Rights.{Rights}
use Rattle.vs_arena.specs.Store.{Store}
use Rattle.vs_arena.specs.Lent.{frames_in}
use Rattle.vs_arena.specs.LentMarks.{uses_of_first}
use Rattle.vs_arena.specs.declared.mark.FrameMark.{FrameMark}
use Rattle.vs_arena.proofs.Marked.{get-all_below}
use Rattle.vs_arena.proofs.MarkedFrames.{IsMarked-from_use}
use Rattle.vs_arena.proofs.LentArenas.{was_lent, words_at, used_count}
use Rattle.vs_walk.specs.Memory.{Memory}
use Rattle.vs_walk.specs.Walk.{walk, walk_from, walk_words, walk_entry, as_walk}
use Rattle.vs_walk.specs.declared.walk.Walk.{Walk}
use Rattle.vs_walk.specs.declared.walk.Walk.TheVariants.{NotMapped, Reserved, Missing, Mapped}
use Rattle.vs_space.specs.Held.{numbered}
use Rattle.vs_space.specs.Table.{IsTableOf}
use Rattle.vs_space.proofs.Numbered.{get_numbered, get_below_base, named, len_numbered}
use Rattle.vs_space.proofs.Protects.{space_of}
use Rattle.nrvs_c.specs.Table.{IsOpen, depth_in, lent_table}
use Rattle.nrvs_c.specs.declared.table.Table.{Table}
use Rattle.nrvs_c.specs.inside.View.{lent_memory}

-- ---- walks

abbrev pub AreAmong : Memory → Memory → Type 0
AreAmong memory more = (number : ℕ) (words : List ℕ) → finite.get memory number ≡ Some words → finite.get more number ≡ Some words

entry_same : (level : ℕ) (rights : Rights) (address : ℕ) (below further : ℕ → Rights → Walk)
    → ((next : ℕ) (own : Rights) → below next own ≢ Missing → further next own ≡ below next own) → (at : Meaning)
    → walk_entry level rights address below at ≢ Missing → walk_entry level rights address further at ≡ walk_entry level rights address below at
entry_same level rights address below further same (entry.Table next own) none = same next (intersection rights own) none
entry_same level rights address below further same _ none = refl

words_same : (some more : Option (List ℕ)) (go further : List ℕ → Walk) → ((words : List ℕ) → some ≡ Some words → more ≡ Some words)
    → ((words : List ℕ) → go words ≢ Missing → further words ≡ go words) → walk_words some go ≢ Missing → walk_words more further ≡ walk_words some go
words_same None more go further among same none = absurd (none refl)
words_same (Some words) more go further among same none = ap (λ (o : Option (List ℕ)). walk_words o further) (among words refl) ∙ same words none

from_same : (memory more : Memory) → AreAmong memory more → (level number : ℕ) (rights : Rights) (address : ℕ)
    → walk_from memory level number rights address ≢ Missing → walk_from more level number rights address ≡ walk_from memory level number rights address
unfolding walk_from
from_same memory more among zero number rights address none = refl
from_same memory more among (suc level) number rights address none =
    words_same (finite.get memory number) (finite.get more number) _ _ (among number)
    (λ words. entry_same (suc level) rights address _ _ (λ next own. from_same memory more among level next own address)
    (meaning (suc level) (slice_index words (index_at (suc level) address)))) none

-- ---- what is answered

abbrev pub answer_of : Walk → Answer
answer_of (Mapped phys size rights) = answers.Mapped phys size rights
answer_of _ = answers.NotMapped

pub not_mapped : (end : Walk) → (end ≡ NotMapped) ⊎ ((end ≡ Reserved) ⊎ (end ≡ Missing)) → answer_of end ≡ answers.NotMapped
not_mapped end (inl e) = ap answer_of e
not_mapped end (inr (inl e)) = ap answer_of e
not_mapped end (inr (inr e)) = ap answer_of e

answer_looked : (address : ℕ) (at : Option Page) → answer_of (as_walk (look_in_page address at)) ≡ look_in_page address at
answer_looked address None = refl
answer_looked address (Some page) = refl

looked_walks : (address : ℕ) (at : Option Page) → as_walk (look_in_page address at) ≢ Missing
looked_walks address None = λ e. cc
looked_walks address (Some page) = λ e. cc

-- ---- the memory lent

get_lent : (base : ℕ) (words : List (List ℕ)) (index : ℕ) → finite.get (lent_memory base words) (base + index) ≡ slice_get words index
get_lent base words index = get_numbered base _ index ∙ get-all_below (length words) (slice_get words) index
    ∙ elim (cases_lt index (length words)) as (λ _. cond (ltb index (length words)) (slice_get words index) None ≡ slice_get words index) [
      | inl lt ↦ ap (λ b. cond b (slice_get words index) None) (lt-ltb index (length words) lt)
      | inr le ↦ ap (λ b. cond b (slice_get words index) None) (le-ltb index (length words) le) ∙ sym (slice_get_past words index le)
    ]

-- what there is at a number
pub lent_from : (base : ℕ) (words : List (List ℕ)) (number index : ℕ) → base + index ≡ number
    → finite.get (lent_memory base words) number ≡ slice_get words index
lent_from base words number index at = subst (λ n. finite.get (lent_memory base words) n ≡ slice_get words index) at (get_lent base words index)

pub lent_below : (base : ℕ) (words : List (List ℕ)) (number : ℕ) → number < base → finite.get (lent_memory base words) number ≡ None
lent_below base words number low = get_below_base base _ number low

module _ (handle : Table) (words : List (List ℕ)) (marks : List FrameMark) (is_open : IsOpen handle words marks) where
  abbrev in_use : Store
  in_use = frames_in handle.taken marks words

  among : AreAmong (numbered handle.base in_use) (lent_memory handle.base words)
  among number own got =
      let used = named handle.base in_use number (subst IsSome (sym got) refl) in
      let is_marked = IsMarked-from_use (uses_of_first handle.taken marks) (take handle.taken words) used.0 used.2 in
      let there : finite.get (numbered handle.base in_use) number ≡ Some (get_or words used.0 []) =
      subst (λ n. finite.get (numbered handle.base in_use) n ≡ Some (get_or words used.0 [])) used.1
      (get_numbered handle.base in_use used.0 ∙ is_marked.got ∙ ap (λ (own : List ℕ). Some own) (words_at is_open.laid_out is_marked)) in
      lent_from handle.base words number used.0 used.1 ∙ slice_get-get_or words used.0 [] (was_lent is_open.laid_out is_marked) ∙ sym there ∙ got

  pub answered : {space : Space} (address : ℕ) (end : Walk) → IsCanonical (depth_in handle) address → IsTableOf (lent_table [] handle words marks) space
      → end ≡ walk (depth_in handle) (lent_memory handle.base words) handle.root address → answer_of end ≡ look space address
  answered {space} address end canonical of is =
      let walked = of.translates address canonical in
      let none : walk (depth_in handle) (numbered handle.base in_use) handle.root address ≢ Missing =
      λ missing. looked_walks address (page_at space address) (sym walked ∙ missing) in
      let same = from_same (numbered handle.base in_use) (lent_memory handle.base words) among (levels (depth_in handle)) handle.root all_rights address none in
      ap answer_of (is ∙ same ∙ walked) ∙ answer_looked address (page_at space address)

  pub counted : {space : Space} → IsTableOf (lent_table [] handle words marks) space → handle.taken - handle.given ≡ table_count (depth_in handle) space
  counted {space} of =
      let tables = (space_of is_open.keeps.table of).counted in
      let frames = len_numbered handle.base in_use in
      let used = used_count is_open.laid_out in
      omega (arith, tables, frames, used)
