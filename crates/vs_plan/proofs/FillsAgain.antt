-- A fill that is made again with the flags of a word that was found.
use Rattle.std.proofs.Common.{◌≡◌, ◌≢◌, ℕ, zero, suc, ◌+◌, ◌%◌, ◌^◌, ◌<◌, List, [], ◌∷◌, Some, ⊎_elim, refl, sym, ap, subst, ◌∙◌, arith}
use Rattle.std.specs.Prelude.{is_some}
use Rattle.std.specs.FinMap as finite
use Rattle.std.specs.Int.{bit_at}
use Rattle.std.specs.List.{AllZip}
use Rattle.std.proofs.lemmas.Bool.{cases_eq}
use Rattle.std.proofs.lemmas.Option.{same_Some}
use Rattle.vs_types.specs.Entry.{leaf_word}
use Rattle.vs_types.specs.declared.addresses.page.Page.{Page}
use Rattle.vs_types.specs.declared.addresses.page.Rights.{Rights}
use Rattle.vs_types.specs.declared.addresses.page.Size.{Size}
use Rattle.vs_types.specs.declared.addresses.page.Size.TheVariants.{K4}
use Rattle.vs_walk.specs.Memory.{Memory}
use Rattle.vs_space.specs.Flags.{IsSameButFlags, AreSameButFlags}
use Rattle.vs_types.proofs.Maps.{get-insert_same, get-insert_other}
use Rattle.vs_plan.specs.declared.plans.plan.Fill.{Fill}
use Rattle.vs_plan.specs.Again.{fill_again}
use Rattle.vs_types.specs.Bits.{HasFlagsSet, bits_in, flagged, flags_into, page_word, placed}
use Rattle.vs_plan.specs.Stores.{fill_words, filled, stepping, with_gap}
use Rattle.vs_plan.proofs.OtherFlags.{bits_after, flags_set}
use Rattle.vs_plan.proofs.Splitting.{are_bits_in}
use Rattle.vs_types.proofs.BitWords.{cond_most, times_not}

-- ---- the words

pub zip_steps : (first other step count : ℕ) → HasFlagsSet first other → step % 2 ^ 7 ≡ 0
    → AllZip IsSameButFlags (stepping first step count) (stepping other step count)
unfolding stepping
zip_steps first other step zero is even = tt
zip_steps first other step (suc count) is even = (
  flags_set first other is,
  zip_steps (first + step) (other + step) step count (record {
    present = omega (arith, is.present, even);
    below = omega (arith, is.below, even);
    above = omega (arith, is.below, is.above, even);
  }) even,
)

-- and with a gap
pub zip_gap : (gap count : ℕ) (xs ys : List ℕ) → AllZip IsSameButFlags xs ys → AllZip IsSameButFlags (with_gap gap count xs) (with_gap gap count ys)
unfolding with_gap
zip_gap zero zero xs ys zipped = zipped
zip_gap zero (suc count) [] [] zipped = tt
zip_gap zero (suc count) [] (y ∷ ys) zipped = absurd zipped
zip_gap zero (suc count) (x ∷ xs) [] zipped = absurd zipped
zip_gap zero (suc count) (x ∷ xs) (y ∷ ys) zipped =
    (record { absent = λ none. refl; bits = λ bit apart other. refl }, zip_gap zero count xs ys zipped.1)
zip_gap (suc gap) count [] [] zipped = tt
zip_gap (suc gap) count [] (y ∷ ys) zipped = absurd zipped
zip_gap (suc gap) count (x ∷ xs) [] zipped = absurd zipped
zip_gap (suc gap) count (x ∷ xs) (y ∷ ys) zipped = (zipped.0, zip_gap gap count xs ys zipped.1)

-- memories that differ in flags alone still do once a frame has words that do
pub same_filled : {old new : Memory} → AreSameButFlags old new → (n : ℕ) (xs ys : List ℕ) → AllZip IsSameButFlags xs ys
    → AreSameButFlags (finite.insert old n xs) (finite.insert new n ys)
same_filled {old} {new} is n xs ys zipped = record {
  frames = λ f. ⊎_elim
      (λ (here : f ≡ n).
      ap is_some (ap (finite.get (finite.insert new n ys)) here ∙ get-insert_same new n ys)
      ∙ sym (ap is_some (ap (finite.get (finite.insert old n xs)) here ∙ get-insert_same old n xs)))
      (λ (other : f ≢ n). ap is_some (get-insert_other new n ys f other) ∙ is.frames f ∙ sym (ap is_some (get-insert_other old n xs f other)))
      (cases_eq f n);
  words = λ f before after got had. ⊎_elim
      (λ (here : f ≡ n).
      let first = same_Some xs before (sym (ap (finite.get (finite.insert old n xs)) here ∙ get-insert_same old n xs) ∙ got) in
      let second = same_Some ys after (sym (ap (finite.get (finite.insert new n ys)) here ∙ get-insert_same new n ys) ∙ had) in
      subst (λ (b : List ℕ). AllZip IsSameButFlags b after) first (subst (AllZip IsSameButFlags xs) second zipped))
      (λ (other : f ≢ n). is.words f before after (sym (get-insert_other old n xs f other) ∙ got) (sym (get-insert_other new n ys f other) ∙ had))
      (cases_eq f n);
}

pub same_fills : {old new : Memory} → AreSameButFlags old new → (fill : Fill) (word : ℕ) → fill.first % 2 ≡ 1 → fill.step % 2 ^ 7 ≡ 0
    → AreSameButFlags (filled old (Some fill)) (filled new (fill_again word (Some fill)))
same_fills is fill word odd even =
    same_filled is fill.frame (fill_words fill) (fill_words (record fill { first = flags_into word fill.first }))
    (zip_gap fill.gap fill.gap_count (stepping fill.first fill.step 512) (stepping (flags_into word fill.first) fill.step 512)
    (zip_steps fill.first (flags_into word fill.first) fill.step 512 (record { present = odd; below = omega arith; above = omega arith }) even))

-- ---- the first word

-- a page's word without bits has none of bits 6:3
leaf_low : (size : Size) (phys : ℕ) (rights : Rights) → phys % 2 ^ 12 ≡ 0 → leaf_word size phys rights % 2 ^ 7 < 2 ^ 3
leaf_low K4 phys rights at = omega (arith, at, cond_most rights.write (2 ^ 1), cond_most rights.user (2 ^ 2), times_not rights.exec (2 ^ 63))
leaf_low _ phys rights at = omega (arith, at, cond_most rights.write (2 ^ 1), cond_most rights.user (2 ^ 2), times_not rights.exec (2 ^ 63))

placed_again : (size : Size) (leaf bits word : ℕ) → leaf % 2 ^ 7 < 2 ^ 3 → bits % 2 ^ 3 ≡ 0
    → flags_into word (leaf + placed size bits) ≡ leaf + placed size (flags_into word bits)
placed_again K4 leaf bits word low at = omega (arith, low, at)
placed_again _ leaf bits word low at = let pat : bit_at (flags_into word bits) 7 ≡ bit_at bits 7 = omega arith in omega (arith, low, at, pat)

pub split_again : (page : Page) (size : Size) (old word : ℕ) → page.phys % 2 ^ 12 ≡ 0 → HasFlagsSet old word
    → flags_into word (page_word page (bits_in size old)) ≡ page_word page (bits_in size word)
split_again page size old word at is =
    let are = are_bits_in size old in
    placed_again page.size (leaf_word page.size page.phys page.rights) (bits_in size old) word (leaf_low page.size page.phys page.rights at) are.above
    ∙ ap (λ bits. leaf_word page.size page.phys page.rights + placed page.size bits) (bits_after size word old is)

-- a join's word
both_flags : (number : ℕ) → flagged number ≡ flags_into 96 number
both_flags number = omega arith

pub join_flags : (page : Page) (size : Size) (first : ℕ) → page.phys % 2 ^ 12 ≡ 0
    → page_word page (flagged (bits_in size first)) ≡ flagged (page_word page (bits_in size first))
join_flags page size first at =
    let are = are_bits_in size first in
    ap (λ bits. leaf_word page.size page.phys page.rights + placed page.size bits) (both_flags (bits_in size first))
    ∙ sym (placed_again page.size (leaf_word page.size page.phys page.rights) (bits_in size first) 96
    (leaf_low page.size page.phys page.rights at) are.above)
    ∙ sym (both_flags (page_word page (bits_in size first)))
