-- The lines of right segments, one after another.
use Rattle.std.proofs.Common.{◌≡◌, ℕ, suc, ◌+◌, ◌++◌, Bool, true, false, List, [], ◌∷◌, length, append-nil, append_assoc, refl, sym, ap, ◌∙◌, arith}
use Rattle.std.specs.Prelude.{if◌then◌else◌}
use Rattle.audit_texts.specs.ChainText.{lines_of, right_lines, shown_lines, told_segment}
use Rattle.audit_texts.specs.declared.chain.style.Style.{Style}

counted_on : (number n : ℕ) → (number + 1) + n ≡ number + suc n
counted_on number n = omega arith

none_counted : (number : ℕ) → number + 0 ≡ number
none_counted number = omega arith

right_lines-append : (as_json : Bool) (number : ℕ) (orders more : List (List ℕ))
    → right_lines as_json number (orders ++ more) ≡ right_lines as_json number orders ++ right_lines as_json (number + length orders) more
right_lines-append as_json number [] more = ap (λ n. right_lines as_json n more) (sym (none_counted number))
right_lines-append as_json number (order ∷ orders) more =
    ap (λ (l : List ℕ). told_segment as_json number order ++ l)
    (right_lines-append as_json (number + 1) orders more
    ∙ ap (λ n. right_lines as_json (number + 1) orders ++ right_lines as_json n more) (counted_on number (length orders)))
    ∙ sym (append_assoc (told_segment as_json number order) (right_lines as_json (number + 1) orders)
    (right_lines as_json (number + suc (length orders)) more))

-- the lines of right segments, or none
abbrev shown : Bool → Bool → ℕ → List (List ℕ) → List ℕ
shown quiet as_json number orders = if quiet then [] else right_lines as_json number orders

shown-append : (quiet as_json : Bool) (number : ℕ) (orders more : List (List ℕ))
    → shown quiet as_json number (orders ++ more) ≡ shown quiet as_json number orders ++ shown quiet as_json (number + length orders) more
shown-append true as_json number orders more = refl
shown-append false as_json number orders more = right_lines-append as_json number orders more

pub shown_lines-append : (style : Style) (number : ℕ) (orders more : List (List ℕ))
    → shown_lines style number (orders ++ more) ≡ shown_lines style number orders ++ shown_lines style (number + length orders) more
shown_lines-append style number orders more = shown-append style.quiet style.as_json number orders more

-- of one segment
abbrev alone : Bool → Bool → ℕ → List ℕ → List ℕ
alone quiet as_json number order = if quiet then [] else told_segment as_json number order

alone_shown : (quiet as_json : Bool) (number : ℕ) (order : List ℕ) → alone quiet as_json number order ≡ shown quiet as_json number (order ∷ [])
alone_shown true as_json number order = refl
alone_shown false as_json number order = sym (append-nil (told_segment as_json number order))

pub one_shown : (style : Style) (number : ℕ) (order : List ℕ) → lines_of style number order ≡ shown_lines style number (order ∷ [])
one_shown style number order = alone_shown style.quiet style.as_json number order

no_shown : (quiet as_json : Bool) (number : ℕ) → shown quiet as_json number [] ≡ []
no_shown true as_json number = refl
no_shown false as_json number = refl

pub none_shown : (style : Style) (number : ℕ) → shown_lines style number [] ≡ []
none_shown style number = no_shown style.quiet style.as_json number
