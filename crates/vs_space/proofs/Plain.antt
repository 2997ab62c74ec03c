-- No word is given an accessed flag or a dirty flag.
use Rattle.std.proofs.Common.{◌≡◌, ◌≢◌, ℕ, ◌<◌, ◌≤◌, [], Some, None, ⊎_elim, sym, ap, subst, ◌∙◌, arith}
use Rattle.std.specs.Prelude.{IsSome, unwrap_or, slice_index, slice_set}
use Rattle.std.proofs.lemmas.Bool.{cases_eq}
use Rattle.std.proofs.lemmas.List.{get_or-set_same, get_or-set_other}
use Rattle.std.specs.FinMap as finite
use Rattle.std.proofs.lemmas.Option.{same_Some}
use Rattle.vs_types.specs.Entry.{meaning, size_at, leaf_word}
use Rattle.vs_types.specs.declared.addresses.page.Rights.{Rights}
use Rattle.vs_types.specs.declared.entries.entry.Meaning.TheVariants as entry
use Rattle.vs_arena.specs.Store.{zeros}
use Rattle.vs_walk.specs.Memory.{Memory, AreWhole}
use Rattle.vs_space.specs.Flags.{AddsNoFlags}
use Rattle.vs_types.specs.Bits.{flags_in}
use Rattle.vs_space.specs.Held.{word_at, with_word}
use Rattle.vs_types.proofs.Maps.{get-insert_same, get-insert_other, get-remove_same, get-remove_other}
use Rattle.vs_space.proofs.Links.{zeros_are}
use Rattle.vs_space.proofs.Writes.{words_in, get_written, get_written_other}
use Rattle.vs_space.proofs.Written.{no_flags_leaf, leaf_aligned, word_of, word_alike}

pub adds_none : (m : Memory) → AddsNoFlags m m
adds_none m = record { stood = λ n i word got flagged. got }

pub adds_then : {old mid new : Memory} → AddsNoFlags old mid → AddsNoFlags mid new → AddsNoFlags old new
adds_then first second = record { stood = λ n i word got flagged. first.stood n i word (second.stood n i word got flagged) flagged }

-- a leaf that is written has neither flag
pub plain_leaf : (level word phys : ℕ) (own : Rights) → 1 ≤ level → meaning level word ≡ entry.Leaf phys own → word ≡ leaf_word (size_at level) phys own
    → flags_in word ≡ 0
plain_leaf level word phys own some says is =
    ap flags_in is ∙ no_flags_leaf (size_at level) phys own.write own.user own.exec (leaf_aligned level word phys own some says)

-- a word with neither flag is written
pub adds_written : (m : Memory) (n i w : ℕ) → AreWhole m → IsSome (finite.get m n) → i < 512 → flags_in w ≡ 0 → AddsNoFlags m (with_word m n i w)
adds_written m n i w whole used low plain = record {
  stood = λ q j word got flagged. ⊎_elim
      (λ (same : q ≡ n). subst (λ k. word_at m k j ≡ Some word) (sym same)
      (own j word (subst (λ k. word_at (with_word m n i w) k j ≡ Some word) same got) flagged))
      (λ (other : q ≢ n). sym (word_alike m (with_word m n i w) q j (get_written_other m n i w q other)) ∙ got)
      (cases_eq q n);
} where
  own : (j word : ℕ) → word_at (with_word m n i w) n j ≡ Some word → flags_in word ≢ 0 → word_at m n j ≡ Some word
  own j word got flagged = ⊎_elim
      (λ (same : j ≡ i).
      let here : word ≡ w = same_Some word w (sym got ∙ word_of (with_word m n i w) n j _ (get_written m n i w)
      ∙ ap (λ x. Some (slice_index (slice_set (unwrap_or (finite.get m n) []) i w) x)) same
      ∙ ap Some (get_or-set_same (unwrap_or (finite.get m n) []) i w 0 (omega (arith, whole n _ (words_in m n used))))) in
      absurd (flagged (ap flags_in here ∙ plain)))
      (λ (other : j ≢ i). word_of m n j _ (words_in m n used)
      ∙ ap Some (sym (get_or-set_other (unwrap_or (finite.get m n) []) i j w 0 other))
      ∙ sym (word_of (with_word m n i w) n j _ (get_written m n i w)) ∙ got)
      (cases_eq j i)

-- a frame is taken whose words are all 0
pub adds_taken : (m : Memory) (f : ℕ) → AddsNoFlags m (finite.insert m f zeros)
adds_taken m f = record {
  stood = λ q j word got flagged. ⊎_elim
      (λ (same : q ≡ f).
      let clear = ap (finite.get (finite.insert m f zeros)) same ∙ get-insert_same m f zeros in
      let none : word ≡ 0 = same_Some word 0 (sym got ∙ word_of (finite.insert m f zeros) q j (Some zeros) clear ∙ ap Some (zeros_are j)) in
      absurd (flagged (ap flags_in none)))
      (λ (other : q ≢ f). sym (word_alike m (finite.insert m f zeros) q j (get-insert_other m f zeros q other)) ∙ got)
      (cases_eq q f);
}

-- a frame is freed
pub adds_given : (m : Memory) (f : ℕ) → AddsNoFlags m (finite.remove m f)
adds_given m f = record {
  stood = λ q j word got flagged. ⊎_elim
      (λ (same : q ≡ f).
      let gone = ap (finite.get (finite.remove m f)) same ∙ get-remove_same m f in
      let wrong : None ≡ Some word = sym (word_of (finite.remove m f) q j None gone) ∙ got in
      absurd (cc))
      (λ (other : q ≢ f). sym (word_alike m (finite.remove m f) q j (get-remove_other m f q other)) ∙ got)
      (cases_eq q f);
}
