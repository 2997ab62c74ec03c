-- The order of `map_then_resolve` is legal, also where more replies follow.
use Rattle.std.proofs.Common.{◌≡◌, ℕ, zero, suc, ◌<◌, List, [], ◌∷◌, Contains, Some, refl, ap, sym, ◌∙◌, subst, arith, inl, inr, ◌⊎◌, ⊎_elim}
use Rattle.std.specs.List.{IsDistinct}
use Rattle.std.specs.Prelude.{nat_eq}
use Rattle.std.proofs.lemmas.Option.{same_Some}
use Rattle.vs_types.specs.declared.requests.request.Query.{Query}
use Rattle.nr_trace.specs.Calls.{Response, IsCall, IsOrdered, IsAnswered, Answers, Precedes, request_of, reply_to}
use Rattle.nr_trace.specs.Orders.{before, space_after, answer_in, IsLegalOrder}
use Rattle.nr_trace.specs.Examples.{map_then_resolve, with_more, answered_again}
use Rattle.nr_trace.specs.declared.recordings.event.Event.{Event}
use Rattle.nr_trace.specs.declared.recordings.event.Event.TheVariants.{Reply}
use Rattle.vs_types.specs.declared.requests.answer.Answer.TheVariants.{NotMapped}
use Rattle.nr_trace.proofs.ExamplesOfAnswers.{map_answer, resolve_answer}
use Rattle.nr_trace.proofs.LawsOfCalls.{is_some_from, ordered_is_call, request_is_call}

abbrev order : List ℕ
order = 0 ∷ 2 ∷ []

holds_first : Contains order 0
holds_first = (0, grind arith, refl)

holds_second : Contains order 2
holds_second = (1, grind arith, refl)

distinct : IsDistinct nat_eq order
unfolding IsDistinct
distinct = ((refl, tt), (tt, tt))

abbrev Either : ℕ → Type 0
Either call = (call ≡ 0) ⊎ (call ≡ 2)

members : (call : ℕ) → Contains order call → Either call
members call (zero, l, e) = inl (sym e)
members call (suc zero, l, e) = inr (sym e)
members call (suc (suc k), l, e) = absurd (omega arith)

-- what holds of both calls
both : (P : ℕ → Type 0) → P 0 → P 2 → (call : ℕ) → Either call → P call
both P p q call e = ⊎_elim (λ (h : call ≡ 0). subst P (sym h) p) (λ (h : call ≡ 2). subst P (sym h) q) e

module _ (more : List Event) (none_more : (n : ℕ) → IsCall (with_more more) (suc (suc (suc (suc n)))) → ⊥) where
  calls : (call : ℕ) → IsCall (with_more more) call → Either call
  calls zero h = inl refl
  calls (suc (suc zero)) h = inr refl
  calls (suc (suc (suc (suc n)))) h = absurd (none_more n h)
  calls _ h = absurd cc

  not_answered_before : (index : ℕ) → index < 2 → Answers (with_more more) index 2 → ⊥
  not_answered_before (suc (suc n)) l h = omega arith
  not_answered_before _ l h = cc

  precedes : (first second : ℕ) → Either first → Either second → Precedes (with_more more) first second → Contains (before second order) first
  precedes first second a b = both (λ first. Precedes (with_more more) first second → Contains (before second order) first)
      (both (λ second. Precedes (with_more more) 0 second
      → Contains (before second order) 0) (λ p. absurd (none_before p.1 p.2)) (λ p. (0, grind arith, refl)) second b)
      (both (λ second. Precedes (with_more more) 2 second
      → Contains (before second order) 2) (λ p. absurd (none_before p.1 p.2)) (λ p. absurd (not_answered_before p.1 p.2 p.3)) second b)
      first a where
        none_before : (index : ℕ) → index < 0 → ⊥
        none_before index h = omega arith

  abbrev Right : ℕ → Type 0
  Right call = (request : Query) (reply : Response) → request_of (with_more more) call ≡ Some request → reply_to (with_more more) call ≡ Some reply
      → reply.answer ≡ answer_in map_then_resolve.layout (space_after (with_more more) (before call order)) request

  first_right : Right 0
  first_right request reply e f =
      ap (λ (r : Response). r.answer) (sym (same_Some _ reply f)) ∙ sym map_answer
      ∙ ap (λ (q : Query). answer_in map_then_resolve.layout (space_after (with_more more) []) q) (same_Some _ request e)

  second_right : Right 2
  second_right request reply e f =
      ap (λ (r : Response). r.answer) (sym (same_Some _ reply f)) ∙ sym resolve_answer
      ∙ ap (λ (q : Query). answer_in map_then_resolve.layout (space_after (with_more more) (0 ∷ [])) q) (same_Some _ request e)

  is_a_call : (call : ℕ) (request : Query) → request_of (with_more more) call ≡ Some request → IsCall (with_more more) call
  is_a_call call request e = request_is_call (with_more more) call (is_some_from _ request e)

  pub legal_with : IsLegalOrder (with_more more) order
  legal_with = record {
    members = record {
      once = distinct;
      calls = λ call m. both (IsOrdered (with_more more)) (inl refl) (inr refl) call (members call m);
      answered = λ call c a. both (Contains order) holds_first holds_second call (calls call (ordered_is_call (with_more more) call c));
      others = λ call m. inl (both (IsAnswered (with_more more)) refl refl call (members call m));
    };
    precedence = λ first second a b. precedes first second (members first a) (members second b);
    answers = λ call request reply e f. both Right first_right second_right call (calls call (is_a_call call request e)) request reply e f;
  }

pub legal : IsLegalOrder map_then_resolve order
legal = legal_with [] (λ n h. absurd cc)

pub legal_again : IsLegalOrder answered_again order
legal_again = legal_with (Reply 2 1 NotMapped ∷ []) none_more where
  none_more : (n : ℕ) → IsCall answered_again (suc (suc (suc (suc n)))) → ⊥
  none_more zero h = cc
  none_more (suc n) h = cc
