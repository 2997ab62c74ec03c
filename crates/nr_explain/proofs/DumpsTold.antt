-- What was found of some dumps, and of one more.
use Rattle.std.proofs.Common.{◌≡◌, ℕ, ◌+◌, true, false, List, [], ◌∷◌, ◌++◌, Option, filter, map, refl, sym, ap, ap₂, ◌∙◌, add-one, append-nil}
use Rattle.std.specs.Prelude.{All}
use Rattle.std.proofs.lemmas.List.{map-append}
use Rattle.std.proofs.lemmas.List.Elements.{All-append, All-cons, All-nil, filter-append}
use Rattle.nr_trace.specs.Recording.{Recording}
use Rattle.nr_trace.specs.Orders.{below}
use Rattle.nr_explain.specs.Dumps.{IsToldOfDump, is_other, told_replica}
use Rattle.nr_explain.specs.declared.trace.all_dumps.DumpExplanation.{DumpExplanation}

-- of the replicas below an end, but the own one
pub record AreToldBelow (trace : Recording) (own : Option ℕ) (end : ℕ) (dumps : List DumpExplanation) : Type 0 where
  pub replicas : map told_replica dumps ≡ filter (is_other own) (below end)
  pub told : All (IsToldOfDump trace) dumps

below_more : (own : Option ℕ) (end : ℕ) → filter (is_other own) (below (end + 1)) ≡ filter (is_other own) (below end) ++ filter (is_other own) (end ∷ [])
below_more own end = ap (λ (n : ℕ). filter (is_other own) (below n)) (add-one end) ∙ filter-append (is_other own) (below end) (end ∷ [])

pub one_told : (trace : Recording) (own : Option ℕ) (end : ℕ) (dumps : List DumpExplanation) (told : DumpExplanation) → is_other own end ≡ true
    → told_replica told ≡ end → IsToldOfDump trace told → AreToldBelow trace own end dumps → AreToldBelow trace own (end + 1) (dumps ++ told ∷ [])
one_told trace own end dumps told other same is are = record {
  replicas = map-append told_replica dumps (told ∷ []) ∙ ap₂ (λ (xs ys : List ℕ). xs ++ ys) are.replicas
      (ap (λ (n : ℕ). n ∷ []) same ∙ sym (kept other)) ∙ sym (below_more own end);
  told = All-append (IsToldOfDump trace) dumps (told ∷ []) are.told (All-cons (IsToldOfDump trace) told [] is (All-nil (IsToldOfDump trace)));
} where
  kept : is_other own end ≡ true → filter (is_other own) (end ∷ []) ≡ end ∷ []
  kept same = rw same refl

pub own_left : (trace : Recording) (own : Option ℕ) (end : ℕ) (dumps : List DumpExplanation) → is_other own end ≡ false
    → AreToldBelow trace own end dumps → AreToldBelow trace own (end + 1) dumps
own_left trace own end dumps left_out are = record {
  replicas = are.replicas ∙ sym (below_more own end ∙ ap (λ (xs : List ℕ). filter (is_other own) (below end) ++ xs) (left left_out)
      ∙ append-nil (filter (is_other own) (below end)));
  told = are.told;
} where
  left : is_other own end ≡ false → filter (is_other own) (end ∷ []) ≡ []
  left is = rw is refl
