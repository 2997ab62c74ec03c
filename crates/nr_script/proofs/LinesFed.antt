-- The lines of a text that comes in pieces.
use Rattle.std.proofs.Common.{◌≡◌, ℕ, ◌+◌, ◌<◌, ◌≤◌, ◌==◌, ◌++◌, Bool, true, false, List, [], ◌∷◌, length, take, drop, get_or, refl, sym, ap, subst, ◌∙◌, arith}
use Rattle.std.specs.List.{onto_first, slice_split, All}
use Rattle.std.proofs.lemmas.List.Splits.{length-slice_split, slice_split-cons_no, slice_split-cons_yes, slice_split_at, slice_split_none}
use Rattle.std.proofs.lemmas.List.{append_assoc, get_or-take, get_or_default, length-take, take_more}
use Rattle.std.proofs.lemmas.List.Elements.{All-append}
use Rattle.std.proofs.lemmas.Bool.Decides.{nat_tests}
use Rattle.std.proofs.Common.{Option}
use Rattle.vs_types.specs.Finds.{Finds}
use Rattle.vs_types.specs.declared.addresses.depth.Depth.{Depth}
use Rattle.nr_script.specs.Lines.{lines, Says}
use Rattle.nr_script.specs.declared.line.Line.{Line}
use Rattle.nr_script.specs.Fed.{EndsIn, EndsLine, GoesOn}
use Rattle.nr_script.specs.inside.Left.{HasNoEnd}

-- where the parts of a text end in one, those of the text with more are those before it, and the parts of it with more
abbrev GoesOnWith : (ℕ → Bool) → List ℕ → List ℕ → Type 0
GoesOnWith p more text = (before : List (List ℕ)) (begun : List ℕ) → slice_split p text ≡ before ++ begun ∷ []
    → slice_split p (text ++ more) ≡ before ++ slice_split p (begun ++ more)

no_parts : (p : ℕ → Bool) (text : List ℕ) (other : List (List ℕ)) → slice_split p text ≡ other → length other ≡ 0 → {X : Type 0} → X
no_parts p text other is none = absurd (omega (arith, length-slice_split p text, ap length is))

nothing : (p : ℕ → Bool) (more : List ℕ) → GoesOnWith p more []
nothing p more [] begun is =
    let none : [] ≡ begun = cc in
    ap (λ (front : List ℕ). slice_split p (front ++ more)) none
nothing p more (first ∷ before) begun is = absurd (omega (arith, ap length is, some_last before begun))
  where
    some_last : (before : List (List ℕ)) (begun : List ℕ) → 0 < length (before ++ begun ∷ [])
    some_last [] begun = omega arith
    some_last (first ∷ before) begun = omega arith

behind_end : (p : ℕ → Bool) (more text : List ℕ) (byte : ℕ) → p byte ≡ true → GoesOnWith p more text → GoesOnWith p more (byte ∷ text)
behind_end p more text byte ends goes [] begun is =
    let cut = sym (slice_split-cons_yes p byte text ends) ∙ is in
    no_parts p text [] (cc) refl
behind_end p more text byte ends goes (first ∷ before) begun is =
    let cut = sym (slice_split-cons_yes p byte text ends) ∙ is in
    let here : [] ≡ first = cc in
    let rest : slice_split p text ≡ before ++ begun ∷ [] = cc in
    slice_split-cons_yes p byte (text ++ more) ends ∙ ap (λ (them : List (List ℕ)). [] ∷ them) (goes before begun rest)
    ∙ ap (λ (line : List ℕ). line ∷ (before ++ slice_split p (begun ++ more))) here

onto : (p : ℕ → Bool) (more text : List ℕ) (byte : ℕ) (front : List ℕ) (rest : List (List ℕ)) → p byte ≡ false → slice_split p text ≡ front ∷ rest
    → GoesOnWith p more text → GoesOnWith p more (byte ∷ text)
onto p more text byte front rest inside parts_are goes [] begun is =
    let cut = ap (onto_first byte) (sym parts_are) ∙ sym (slice_split-cons_no p byte text inside) ∙ is in
    let line : byte ∷ front ≡ begun = cc in
    let last : rest ≡ [] = cc in
    let whole : slice_split p text ≡ front ∷ [] = parts_are ∙ ap (λ (them : List (List ℕ)). front ∷ them) last in
    slice_split-cons_no p byte (text ++ more) inside ∙ ap (onto_first byte) (goes [] front whole) ∙ sym (slice_split-cons_no p byte (front ++ more) inside)
    ∙ ap (λ (line : List ℕ). slice_split p (line ++ more)) line
onto p more text byte front rest inside parts_are goes (first ∷ before) begun is =
    let cut = ap (onto_first byte) (sym parts_are) ∙ sym (slice_split-cons_no p byte text inside) ∙ is in
    let line : byte ∷ front ≡ first = cc in
    let others : rest ≡ before ++ begun ∷ [] = cc in
    let whole : slice_split p text ≡ front ∷ (before ++ begun ∷ []) = parts_are ∙ ap (λ (them : List (List ℕ)). front ∷ them) others in
    slice_split-cons_no p byte (text ++ more) inside ∙ ap (onto_first byte) (goes (front ∷ before) begun whole)
    ∙ ap (λ (line : List ℕ). line ∷ (before ++ slice_split p (begun ++ more))) line

in_line : (p : ℕ → Bool) (more text : List ℕ) (byte : ℕ) (them : List (List ℕ)) → p byte ≡ false → slice_split p text ≡ them
    → GoesOnWith p more text → GoesOnWith p more (byte ∷ text)
in_line p more text byte [] inside parts_are goes before begun is = no_parts p text [] parts_are refl
in_line p more text byte (front ∷ rest) inside parts_are goes before begun is = onto p more text byte front rest inside parts_are goes before begun is

by_test : (p : ℕ → Bool) (more text : List ℕ) (byte : ℕ) (test : Bool) → p byte ≡ test → GoesOnWith p more text → GoesOnWith p more (byte ∷ text)
by_test p more text byte true is goes before begun = behind_end p more text byte is goes before begun
by_test p more text byte false is goes before begun = in_line p more text byte (slice_split p text) is refl goes before begun

goes_on_with : (p : ℕ → Bool) (more text : List ℕ) → GoesOnWith p more text
goes_on_with p more [] before begun = nothing p more before begun
goes_on_with p more (byte ∷ text) before begun = by_test p more text byte (p byte) refl (goes_on_with p more text) before begun

-- a piece without an end of a line
pub same_line : (old piece text : List ℕ) (before : List (List ℕ)) → HasNoEnd (old ++ piece) → EndsIn text before old
    → EndsIn (text ++ piece) before (old ++ piece)
same_line old piece text before none is =
    goes_on_with (λ byte. byte == 10) piece text before old is
    ∙ ap (λ (them : List (List ℕ)). before ++ them) (slice_split_none (λ byte. byte == 10) (old ++ piece) none)

other_byte : (byte : ℕ) → (byte ≡ 10 → ⊥) → (byte == 10) ≡ false
other_byte byte h = grind (arith, nat_tests)

-- before the first end of a line there is none
pub no_end : (text : List ℕ) (i : ℕ) → i ≤ length text → ((k : ℕ) → k < i → get_or text k 0 ≡ 10 → ⊥) → HasNoEnd (take i text)
no_end text i fits before = λ k d lt.
    let long = length-take i text in
    let below : k < i = omega (arith, long, lt) in
    let within : k < length text = omega (arith, below, fits) in
    let here : get_or (take i text) k d ≡ get_or text k d = get_or-take i text k d below in
    other_byte (get_or (take i text) k d) (λ same. before k below (get_or_default text k 0 d within ∙ sym here ∙ same))

pub all_no_end : (text : List ℕ) → ((k : ℕ) → k < length text → get_or text k 0 ≡ 10 → ⊥) → HasNoEnd text
all_no_end text none = λ k d lt. other_byte (get_or text k d) (λ same. none k lt (get_or_default text k 0 d lt ∙ same))

pub goes_on : (old piece : List ℕ) → HasNoEnd old → ((k : ℕ) → k < length piece → get_or piece k 0 ≡ 10 → ⊥) → GoesOn old piece (old ++ piece)
goes_on old piece begun none = record {
  more = refl;
  lines_are = λ text before is.
      same_line old piece text before (All-append (λ (byte : ℕ). (byte == 10) ≡ false) old piece begun (all_no_end piece none)) is;
}

-- a piece with an end of a line
pub ended : (depth : Depth) (old piece : List ℕ) (index : ℕ) (said : Option Line) → HasNoEnd old → index < length piece
    → ((k : ℕ) → k < index → get_or piece k 0 ≡ 10 → ⊥) → get_or piece index 0 ≡ 10 → Finds (Says depth (old ++ take index piece)) said
    → EndsLine depth old piece [] (index + 1) said
ended depth old piece index said begun within before here says =
    let p : ℕ → Bool = λ byte. byte == 10 in
    let front = take index piece in
    let line = old ++ front in
    let none : HasNoEnd line = All-append (λ (byte : ℕ). (byte == 10) ≡ false) old front begun (no_end piece index (omega (arith, within)) before) in
    let taken : take (index + 1) piece ≡ front ++ 10 ∷ [] =
    take_more piece index 0 within ∙ ap (λ (byte : ℕ). front ++ byte ∷ []) here in
    let whole : old ++ take (index + 1) piece ≡ line ++ 10 ∷ [] =
    ap (λ (more : List ℕ). old ++ more) taken ∙ sym (append_assoc old front (10 ∷ [])) in
    record {
      some = omega arith;
      within = omega (arith, within);
      none_begun = refl;
      line = line;
      says = says;
      lines_are = λ text lines_before is.
          goes_on_with p (take (index + 1) piece) text lines_before old is
          ∙ ap (λ (more : List ℕ). lines_before ++ slice_split p more) whole
          ∙ ap (λ (them : List (List ℕ)). lines_before ++ them) (slice_split_at p line 10 [] none refl)
          ∙ sym (append_assoc lines_before (line ∷ []) ([] ∷ []));
    }

-- where the lines of a text end in one that has begun, those of the text with more are those before it, and those of it with more
pub lines_go_on : (text more begun : List ℕ) (before : List (List ℕ)) → EndsIn text before begun → lines (text ++ more) ≡ before ++ lines (begun ++ more)
lines_go_on text more begun before is = goes_on_with (λ byte. byte == 10) more text before begun is
