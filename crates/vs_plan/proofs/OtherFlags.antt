-- Memories in which the accessed flag and the dirty flag differ: they translate alike, and so they do after stores that differ so.
use Rattle.std.proofs.Common.{◌≡◌, ◌≢◌, ℕ, zero, suc, ◌+◌, ◌-◌, ◌*◌, ◌/◌, ◌%◌, ◌^◌, ◌<◌, ◌≤◌, true, false, List, [], ◌∷◌, Some, ⊎_elim, refl, sym, ap, subst}
use Rattle.std.proofs.Common.{◌∙◌, nat_eq, cond, Bool, arith}
use Rattle.std.specs.Prelude.{IsSome, is_some, slice_set, unwrap_or, not}
use Rattle.std.specs.FinMap as finite
use Rattle.std.specs.Int.{bit_at}
use Rattle.std.specs.List.{AllZip}
use Rattle.std.proofs.lemmas.Bool.{cases_eq, cases_lt, eqb-false, ne_eqb}
use Rattle.std.proofs.lemmas.Option.{same_Some}
use Rattle.vs_types.specs.Depth.{levels}
use Rattle.vs_types.specs.Space.{Space}
use Rattle.vs_types.specs.declared.addresses.depth.Depth.{Depth}
use Rattle.vs_walk.specs.Memory.{Memory}
use Rattle.vs_walk.specs.Walk.{TranslatesAs}
use Rattle.vs_types.specs.declared.addresses.page.Rights.{Rights}
use Rattle.vs_types.specs.declared.addresses.page.Size.{Size}
use Rattle.vs_types.specs.declared.addresses.page.Size.TheVariants.{K4}
use Rattle.vs_types.specs.Bits.{HasFlagsSet, bits_in, flags_into, with_address, with_flags_of, with_rights}
use Rattle.vs_space.specs.Held.{with_word}
use Rattle.vs_space.specs.Flags.{IsSameButFlags, AreSameButFlags}
use Rattle.vs_space.proofs.Paths.{agree_walk}
use Rattle.vs_space.proofs.Writes.{words_in, get_written, get_written_other}
use Rattle.vs_space.proofs.Flagged.{flagged_found}
use Rattle.vs_space.proofs.FlaggedWords.{bit_above}
use Rattle.vs_types.proofs.BitWords.{digit, digit_low, in_digits}

module _ {old new : Memory} (is : AreSameButFlags old new) where
  pub same_translations : (depth : Depth) (root : ℕ) (space : Space) → TranslatesAs depth old root space → TranslatesAs depth new root space
  same_translations depth root space translates address canonical =
      agree_walk (levels depth) root old new address (λ j n over at. flagged_found is j n address over) ∙ translates address canonical

-- ---- stores

zip_set : (xs ys : List ℕ) → AllZip IsSameButFlags xs ys → (i w v : ℕ) → IsSameButFlags w v → AllZip IsSameButFlags (slice_set xs i w) (slice_set ys i v)
zip_set [] [] are i w v same = tt
zip_set (x ∷ xs) (y ∷ ys) are zero w v same = (same, are.1)
zip_set (x ∷ xs) (y ∷ ys) are (suc i) w v same = (are.0, zip_set xs ys are.1 i w v same)
zip_set _ _ are i w v same = absurd are

module _ {old new : Memory} (is : AreSameButFlags old new) (n i w v : ℕ) (used : IsSome (finite.get old n)) (same : IsSameButFlags w v) where
  stored_here : (f : ℕ) → f ≡ n → finite.get (with_word old n i w) f ≡ Some (slice_set (unwrap_or (finite.get old n) []) i w)
  stored_here f here = ap (finite.get (with_word old n i w)) here ∙ get_written old n i w

  stored_there : (f : ℕ) → f ≡ n → finite.get (with_word new n i v) f ≡ Some (slice_set (unwrap_or (finite.get new n) []) i v)
  stored_there f here = ap (finite.get (with_word new n i v)) here ∙ get_written new n i v

  pub same_stored : AreSameButFlags (with_word old n i w) (with_word new n i v)
  same_stored = record {
    frames = λ f. ⊎_elim
        (λ (here : f ≡ n). ap is_some (stored_there f here) ∙ sym (ap is_some (stored_here f here)))
        (λ (other : f ≢ n). ap is_some (get_written_other new n i v f other) ∙ is.frames f ∙ sym (ap is_some (get_written_other old n i w f other)))
        (cases_eq f n);
    words = λ f before after got had. ⊎_elim
        (λ (here : f ≡ n).
        let first = same_Some _ before (sym (stored_here f here) ∙ got) in
        let second = same_Some _ after (sym (stored_there f here) ∙ had) in
        let zipped = zip_set _ _ (is.words n _ _ (words_in old n used) (words_in new n (is.frames n ∙ used))) i w v same in
        subst (λ (b : List ℕ). AllZip IsSameButFlags b after) first
        (subst (AllZip IsSameButFlags (slice_set (unwrap_or (finite.get old n) []) i w)) second zipped))
        (λ (other : f ≢ n).
        is.words f before after (sym (get_written_other old n i w f other) ∙ got) (sym (get_written_other new n i v f other) ∙ had))
        (cases_eq f n);
  }

-- ---- one store that found other flags

low_bit : (old new : ℕ) → old % 32 ≡ new % 32 → (bit : ℕ) → bit < 5 → bit_at new bit ≡ bit_at old bit
low_bit old new same (suc (suc (suc (suc (suc bit))))) low = absurd (omega (arith, low))
low_bit old new same _ low = omega (arith, same)

pub flags_set : (old new : ℕ) → HasFlagsSet old new → IsSameButFlags old new
flags_set old new is = record {
  absent = λ none. absurd (omega (arith, none, is.present));
  bits = λ bit apart other. ⊎_elim
      (λ (low : bit < 5). low_bit old new is.below bit low)
      (λ (high : 5 ≤ bit).
      let above : 7 + (bit - 7) ≡ bit = omega (arith, high, apart, other) in
      subst (λ b. bit_at new b ≡ bit_at old b) above
      (sym (bit_above new 7 (bit - 7)) ∙ ap (λ n. bit_at n (bit - 7)) (sym is.above) ∙ bit_above old 7 (bit - 7)))
      (cases_lt bit 5);
}

pub flags_kept : (word entry : ℕ) → IsSameButFlags entry (with_flags_of word entry)
flags_kept word entry = by (nat_eq (entry % 2) 0) refl where
  by : (none : Bool) → nat_eq (entry % 2) 0 ≡ none
      → IsSameButFlags entry (cond none entry (entry % 2 ^ 5 + word % 2 ^ 7 / 2 ^ 5 * 2 ^ 5 + entry / 2 ^ 7 * 2 ^ 7))
  by true none = record { absent = λ none. refl; bits = λ bit apart other. refl }
  by false some = flags_set _ _ (record {
    present = let odd = eqb-false (entry % 2) 0 some in omega (arith, odd);
    below = omega arith;
    above = omega arith;
  })

-- ---- a protect, and the bits of a page, as they would be of the word that was found

kept_bits : (word old a b c : ℕ) → HasFlagsSet old word → a < 2 → b < 2 → c < 2 → (entry : ℕ)
    → entry ≡ old % 2 + a * 2 + b * 4 + old % 2 ^ 63 / 2 ^ 3 * 2 ^ 3 + c * 2 ^ 63
    → with_flags_of word entry ≡ word % 2 + a * 2 + b * 4 + word % 2 ^ 63 / 2 ^ 3 * 2 ^ 3 + c * 2 ^ 63
kept_bits word old a b c is la lb lc entry is_entry =
    ap (λ (none : Bool). cond none entry (flags_into word entry)) (ne_eqb (entry % 2) 0 (λ none. omega (arith, is.present, is_entry, none)))
    ∙ omega (arith, is.present, is.below, is.above, la, lb, lc, is_entry)

pub protect_again : (word old : ℕ) (rights : Rights) → HasFlagsSet old word → with_flags_of word (with_rights old rights) ≡ with_rights word rights
protect_again word old rights is =
    kept_bits word old (digit rights.write) (digit rights.user) (digit (not rights.exec)) is (digit_low rights.write) (digit_low rights.user)
    (digit_low (not rights.exec)) (with_rights old rights) (in_digits old rights) ∙ sym (in_digits word rights)

-- a remap's entry
moved_flags : (size : Size) (word old phys : ℕ) → phys % 2 ^ 12 ≡ 0 → HasFlagsSet old word
    → HasFlagsSet (with_address size old phys) (with_address size word phys)
moved_flags K4 word old phys at is = record {
  present = omega (arith, at, is.present);
  below = omega (arith, at, is.below);
  above = omega (arith, at, is.below, is.above);
}
moved_flags _ word old phys at is = record {
  present = omega (arith, at, is.present);
  below = omega (arith, at, is.below);
  above = omega (arith, at, is.below, is.above);
}

moved_low : (size : Size) (word phys : ℕ) → phys % 2 ^ 12 ≡ 0 → with_address size word phys % 2 ^ 7 / 2 ^ 5 ≡ word % 2 ^ 7 / 2 ^ 5
moved_low K4 word phys at = omega (arith, at)
moved_low _ word phys at = omega (arith, at)

same_flags : (word other entry : ℕ) → word % 2 ^ 7 / 2 ^ 5 ≡ other % 2 ^ 7 / 2 ^ 5 → with_flags_of word entry ≡ with_flags_of other entry
same_flags word other entry same = ap (λ f. cond (nat_eq (entry % 2) 0) entry (entry % 2 ^ 5 + f * 2 ^ 5 + entry / 2 ^ 7 * 2 ^ 7)) same

pub remap_again : (size : Size) (word old phys : ℕ) (rights : Rights) → phys % 2 ^ 12 ≡ 0 → HasFlagsSet old word
    → with_flags_of word (with_rights (with_address size old phys) rights) ≡ with_rights (with_address size word phys) rights
remap_again size word old phys rights at is =
    same_flags word (with_address size word phys) (with_rights (with_address size old phys) rights) (sym (moved_low size word phys at))
    ∙ protect_again (with_address size word phys) (with_address size old phys) rights (moved_flags size word old phys at is)

pub bits_after : (size : Size) (word old : ℕ) → HasFlagsSet old word → flags_into word (bits_in size old) ≡ bits_in size word
bits_after K4 word old is = omega (arith, is.below, is.above)
bits_after _ word old is = omega (arith, is.below, is.above)
