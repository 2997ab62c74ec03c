-- Of the marks only as many count as there are frames.
use Rattle.std.proofs.Common.{◌≡◌, ℕ, ◌≤◌, List, [], ◌++◌, length, take, drop, refl, sym, ap, ◌∙◌, subst, arith}
use Rattle.std.proofs.lemmas.List.{take-append-le, take-append-drop, length-take-le, length-append}
use Rattle.vs_types.specs.declared.requests.op.Action.{Action}
use Rattle.vs_types.specs.declared.requests.answer.Answer.{Answer}
use Rattle.vs_arena.specs.declared.mark.FrameMark.{FrameMark}
use Rattle.vs_space.specs.Table.{PageTable, IsTableStep}
use Rattle.nrvs_c.specs.Table.{IsOpen, lent_table}
use Rattle.nrvs_c.specs.declared.table.Table.{Table}

abbrev Words : Type 0
Words = List (List ℕ)

-- two lists of marks that agree on the first k
abbrev Agree : ℕ → List FrameMark → List FrameMark → Type 0
Agree k marks other = (n : ℕ) → n ≤ k → take n marks ≡ take n other

with_more : (k : ℕ) (marks more : List FrameMark) → k ≤ length marks → Agree k marks (marks ++ more)
with_more k marks more le = λ n within. sym (take-append-le n marks more (omega arith))

front : (k : ℕ) (marks : List FrameMark) → k ≤ length marks → Agree k marks (take k marks)
front k marks le = λ n within.
    let long : n ≤ length (take k marks) = omega (arith, length-take-le k marks le) in
    ap (take n) (sym (take-append-drop k marks)) ∙ take-append-le n (take k marks) (drop k marks) long

module _ (handle : Table) (words : Words) (marks other : List FrameMark) (agree : Agree (length words) marks other) where
  same_table : handle.taken ≤ length words → lent_table [] handle words marks ≡ lent_table [] handle words other
  same_table within = rw (agree handle.taken within) refl

  still_open : length words ≤ length other → IsOpen handle words marks → IsOpen handle words other
  still_open enough is =
      let taken : take handle.taken other ≡ take handle.taken marks = sym (agree handle.taken is.laid_out.taken_within) in
      record {
        laid_out = record {
          arena = rw taken is.laid_out.arena;
          taken_within = is.laid_out.taken_within;
          given_within = is.laid_out.given_within;
          marks_for_each = enough;
          last_below = is.laid_out.last_below;
        };
        keeps = rw taken is.keeps;
      }

-- what is open with a mark for each frame is so with more
pub open_with_more : (handle : Table) (words after : Words) (marks now more : List FrameMark) → after ≡ words → now ≡ marks → IsOpen handle words marks
    → IsOpen handle after (now ++ more)
open_with_more handle words after marks now more same_words same_marks is =
    subst (λ (w : Words). IsOpen handle w (now ++ more)) (sym same_words)
    (subst (λ (m : List FrameMark). IsOpen handle words (m ++ more)) (sym same_marks)
    (still_open handle words marks (marks ++ more) (with_more (length words) marks more is.laid_out.marks_for_each)
    (omega (arith, length-append marks more, is.laid_out.marks_for_each)) is))

-- and a step there is one with more
pub step_with_more : {action : Action} {answer : Answer} (old new : Table) (words words' after : Words) (marks own marks' now more : List FrameMark)
    → own ≡ take (length words) marks → after ≡ words' → now ≡ marks' → IsOpen old words marks → IsOpen new words' marks'
    → IsTableStep (lent_table [] old words own) action answer (lent_table [] new words' marks')
    → IsTableStep (lent_table [] old words marks) action answer (lent_table [] new after (now ++ more))
step_with_more {action} {answer} old new words words' after marks own marks' now more own_is same_words same_marks was is step =
    let before : lent_table [] old words own ≡ lent_table [] old words marks = ap (λ (m : List FrameMark). lent_table [] old words m) own_is
    ∙ sym (same_table old words marks (take (length words) marks) (front (length words) marks was.laid_out.marks_for_each) was.laid_out.taken_within) in
    let behind : lent_table [] new words' marks' ≡ lent_table [] new after (now ++ more) =
    same_table new words' marks' (marks' ++ more) (with_more (length words') marks' more is.laid_out.marks_for_each) is.laid_out.taken_within
    ∙ ap (λ (m : List FrameMark). lent_table [] new words' (m ++ more)) (sym same_marks)
    ∙ ap (λ (w : Words). lent_table [] new w (now ++ more)) (sym same_words) in
    subst (λ (t : PageTable). IsTableStep t action answer (lent_table [] new after (now ++ more))) before
    (subst (λ (t : PageTable). IsTableStep (lent_table [] old words own) action answer t) behind step)
