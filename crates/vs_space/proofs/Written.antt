-- Words stay written as entries of their tables' levels.
use Rattle.std.proofs.Common.{◌≡◌, ◌≢◌, ℕ, zero, suc, ◌%◌, ◌<◌, ◌≤◌, Bool, List, [], Option, Some, ⊎_elim, refl, sym, ap, subst, ◌∙◌, arith}
use Rattle.std.specs.Prelude.{IsSome, option_map, unwrap_or, slice_index, slice_set}
use Rattle.std.proofs.lemmas.Bool.{cases_eq}
use Rattle.std.proofs.lemmas.List.{get_or-set_same, get_or-set_other}
use Rattle.std.specs.FinMap as finite
use Rattle.std.proofs.lemmas.Option.{same_Some}
use Rattle.vs_types.specs.Depth.{index_at}
use Rattle.vs_types.specs.Entry.{meaning, size_at, table_word, leaf_word}
use Rattle.vs_types.specs.Page.{level_of}
use Rattle.vs_types.specs.declared.addresses.page.Rights.{Rights}
use Rattle.vs_types.specs.declared.addresses.page.Size.{Size}
use Rattle.vs_types.specs.declared.addresses.page.Size.TheVariants.{K4}
use Rattle.vs_types.specs.declared.entries.entry.Meaning.{Meaning}
use Rattle.vs_types.specs.declared.entries.entry.Meaning.TheVariants as entry
use Rattle.vs_arena.specs.Store.{zeros}
use Rattle.vs_walk.specs.Memory.{Memory, AreWhole}
use Rattle.vs_walk.specs.Walk.{all_rights}
use Rattle.vs_space.specs.Held.{word_at, with_word}
use Rattle.vs_space.specs.Path.{table_at, entry_in, HasPresent}
use Rattle.vs_space.specs.Tree.{IsTree, IsReached, AreWritten}
use Rattle.vs_types.specs.Bits.{IsWritten, flags_in, word_for}
use Rattle.vs_space.proofs.Writes.{IsTreeAt, used_at, after_write, words_in, get_written, get_written_other}
use Rattle.vs_space.proofs.Links.{zeros_are}

-- ---- words that are written

pub written_zero : (level : ℕ) → IsWritten level 0
written_zero level = record { is = refl }

-- a word that is written, by what it says
pub written_for : {level word : ℕ} {e : Meaning} → IsWritten level word → meaning level word ≡ e → word ≡ word_for level e (flags_in word)
written_for {level} {word} written says = written.is ∙ ap (λ e. word_for level e (flags_in word)) says

written_as : (level word : ℕ) (e : Meaning) → meaning level word ≡ e → word ≡ word_for level e (flags_in word) → IsWritten level word
written_as level word e says is = record { is = is ∙ ap (λ e. word_for level e (flags_in word)) (sym says) }

-- the words that are written have neither flag
pub no_flags_table : (word number : ℕ) → word ≡ table_word number → flags_in word ≡ 0
no_flags_table word number is = omega (arith, is)

pub no_flags_leaf : (size : Size) (phys : ℕ) (w u x : Bool) → phys % 4096 ≡ 0 → flags_in (leaf_word size phys (record { write = w; user = u; exec = x })) ≡ 0
no_flags_leaf K4 phys w u x aligned = grind arith
no_flags_leaf _ phys w u x aligned = grind arith

-- a page is aligned at least to frames
pub leaf_aligned : (level word phys : ℕ) (own : Rights) → 1 ≤ level → meaning level word ≡ entry.Leaf phys own → phys % 4096 ≡ 0
leaf_aligned zero word phys own some says = absurd (omega (arith, some))
leaf_aligned (suc (suc (suc zero))) word phys own some says = grind arith
leaf_aligned _ word phys own some says = grind arith

pub written_table : (level word number : ℕ) → meaning level word ≡ entry.Table number all_rights → word ≡ table_word number → IsWritten level word
written_table level word number says is = written_as level word (entry.Table number all_rights) says (omega (arith, is, no_flags_table word number is))

pub written_leaf : (level word phys : ℕ) (rights : Rights) → 1 ≤ level → meaning level word ≡ entry.Leaf phys rights
    → word ≡ leaf_word (size_at level) phys rights → IsWritten level word
written_leaf level word phys rights some says is =
    let none : flags_in word ≡ 0 = ap flags_in is
    ∙ no_flags_leaf (size_at level) phys rights.write rights.user rights.exec (leaf_aligned level word phys rights some says) in
    written_as level word (entry.Leaf phys rights) says (omega (arith, is, none))

pub size_same : (size : Size) → size_at (level_of size) ≡ size
size_same K4 = refl
size_same _ = refl

pub leaf_at_level : (size : Size) (word phys : ℕ) (rights : Rights) → word ≡ leaf_word size phys rights → word ≡ leaf_word (size_at (level_of size)) phys rights
leaf_at_level size word phys rights is = is ∙ ap (λ z. leaf_word z phys rights) (sym (size_same size))

-- ---- the words of a frame

pub word_of : (m : Memory) (n i : ℕ) (o : Option (List ℕ)) → finite.get m n ≡ o → word_at m n i ≡ option_map (λ words. slice_index words i) o
unfolding word_at
word_of m n i o got = ap (option_map (λ (words : List ℕ). slice_index words i)) got

pub word_alike : (m m' : Memory) (n i : ℕ) → finite.get m' n ≡ finite.get m n → word_at m' n i ≡ word_at m n i
word_alike m m' n i e = word_of m' n i (finite.get m n) e ∙ sym (word_of m n i (finite.get m n) refl)

-- frames that are the same have the same words
pub written_alike : (level : ℕ) (m m' : Memory) (n : ℕ) → finite.get m' n ≡ finite.get m n → AreWritten level m n → AreWritten level m' n
written_alike level m m' n e are = λ i word got. are i word (sym (word_alike m m' n i e) ∙ got)

pub written_clear : (level : ℕ) (m : Memory) (n : ℕ) → finite.get m n ≡ Some zeros → AreWritten level m n
written_clear level m n clear = λ i word got.
    let zero_here : word ≡ 0 = same_Some word 0 (sym got ∙ word_of m n i (Some zeros) clear ∙ ap Some (zeros_are i)) in
    subst (IsWritten level) (sym zero_here) (written_zero level)

-- a frame stays written when a word that is written is put in
pub written_set : (level : ℕ) (m : Memory) (n i w : ℕ) → AreWhole m → IsSome (finite.get m n) → i < 512 → IsWritten level w → AreWritten level m n
    → AreWritten level (with_word m n i w) n
written_set level m n i w whole used low is are = λ j word got. ⊎_elim
    (λ (same : j ≡ i).
    let here : word ≡ w = same_Some word w (sym got ∙ word_of (with_word m n i w) n j _ (get_written m n i w)
    ∙ ap (λ x. Some (slice_index (slice_set (unwrap_or (finite.get m n) []) i w) x)) same
    ∙ ap Some (get_or-set_same (unwrap_or (finite.get m n) []) i w 0 (omega (arith, whole n _ (words_in m n used))))) in
    subst (IsWritten level) (sym here) is)
    (λ (other : j ≢ i). are j word
    (word_of m n j _ (words_in m n used) ∙ ap Some (sym (get_or-set_other (unwrap_or (finite.get m n) []) i j w 0 other))
    ∙ sym (word_of (with_word m n i w) n j _ (get_written m n i w)) ∙ got))
    (cases_eq j i)

-- ---- the entry for an address a is written in the table of a level on its path

pub written_on : {top : ℕ} {m : Memory} {root level a n : ℕ} (here : IsTreeAt top m root level a n) (w : ℕ) → IsWritten level w
    → (j b q : ℕ) → table_at top m root j b ≡ Some q → AreWritten j m q → AreWritten j (after_write here w) q
written_on {m = m} {level = level} {a = a} {n = n} here w is j b q reached are = ⊎_elim
    (λ (same : q ≡ n).
    let one : j ≡ level = (here.tree.once j level b a n (reached ∙ ap Some same) here.at).0 in
    let own : AreWritten level m n = subst (λ x. AreWritten level m x) same (subst (λ l. AreWritten l m q) one are) in
    let after = written_set level m n (index_at level a) w here.whole (used_at here) (omega arith) is own in
    subst (λ l. AreWritten l (after_write here w) q) (sym one) (subst (λ x. AreWritten level (after_write here w) x) (sym same) after))
    (λ (other : q ≢ n). written_alike j m _ q (get_written_other m n (index_at level a) w q other) are)
    (cases_eq q n)

-- the words of a table that is reached are as written at its level
pub written_at : {top : ℕ} {m : Memory} {root : ℕ} → IsTree top m root → IsReached top m root → (level a n : ℕ) → table_at top m root level a ≡ Some n
    → AreWritten level m n
written_at {m = m} tree is level a n at =
    let own = is.path n (tree.in_use level a n at) in
    subst (λ l. AreWritten l m n) (tree.once own.0 level own.1 a n own.2 at).0 own.3

pub entry_other : (level : ℕ) (m : Memory) (n i : ℕ) (words : List ℕ) → finite.get m n ≡ Some words → AreWritten level m n → i < 512 → slice_index words i ≢ 0
    → HasPresent level m n
unfolding entry_in
entry_other level m n i words got are low other =
    let here = word_of m n i (Some words) got in
    record {
      index = i;
      within = low;
      present = λ absent.
          let says : meaning level (slice_index words i) ≡ entry.Absent = same_Some _ _ (ap (option_map (meaning level)) (sym here) ∙ absent) in
          other (written_for (are i (slice_index words i) here) says);
    }
