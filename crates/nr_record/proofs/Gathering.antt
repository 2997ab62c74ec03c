-- The notes of pens are gathered, and their seats joined.
use Rattle.std.proofs.Common.{◌≡◌, ℕ, List, [], ◌∷◌, ◌++◌, All, length, refl, ap, sym, ◌∙◌, subst, arith, append_assoc}
use Rattle.std.specs.Prelude.{Option}
use Rattle.std.specs.List.{flat_map, sum_by}
use Rattle.std.proofs.lemmas.Grind.{flat_map-append}
use Rattle.std.proofs.lemmas.List.{append-nil}
use Rattle.std.proofs.lemmas.List.Concat.{flat_map-cons}
use Rattle.std.proofs.lemmas.List.Sums.{sum_by-cons, sum_by_push}
use Rattle.std.proofs.lemmas.List.Elements.{All-push, All-cons, All-nil, All-head}
use Rattle.nr_record.specs.Pen.{PenState, clock_of, stamps_of}
use Rattle.nr_record.specs.Rule.{joint_seat}
use Rattle.nr_record.specs.Stamps.{Rise}
use Rattle.nr_record.specs.inside.Held.{IsHeld, IsTrueOf}
use Rattle.nr_record.specs.declared.stamped.Stamped.{Stamped}
use Rattle.nr_record.specs.declared.view.View.{View}
use Rattle.nr_record.proofs.Placing.{all_right}
use Rattle.atomic_table.specs.Seated.{TableId}

-- some of all pens are done, and these are the others
pub record IsGathered (all rest : List PenState) (view : View) (kept : List Stamped) : Type 0 where
  pub done : List PenState
  pub parts : all ≡ done ++ rest
  pub quota : view.quota ≡ sum_by (λ pen. pen.quota) done
  pub stamps : view.stamps ≡ flat_map stamps_of done
  pub notes : kept ≡ flat_map (λ pen. pen.made) done
  pub each : All IsTrueOf done

pub true_of : (word : TableId) (view : View) (replica thread : ℕ) (waiting : Option ℕ) (room : ℕ) (made : List Stamped) (pen : PenState)
    → IsHeld view replica thread waiting room made
    → record { clock = clock_of word view.plan; thread = thread; quota = view.quota; waiting = waiting; made = made } ≡ pen → IsTrueOf pen
true_of word view replica thread waiting room made pen is same =
    let rising = subst Rise (sym is.same) is.rising in
    subst IsTrueOf same (record { rising = rising; events = is.events; own = is.own })

pub gathered_first : (all rest : List PenState) (view : View) (pen : PenState) → all ≡ pen ∷ rest → view.quota ≡ pen.quota → view.stamps ≡ stamps_of pen
    → IsTrueOf pen → IsGathered all rest view pen.made
gathered_first all rest view pen parts quota stamps is = record {
  done = pen ∷ [];
  parts = parts;
  quota = omega (arith, quota, sum_by-cons (λ (p : PenState). p.quota) pen []);
  stamps = stamps ∙ sym (append-nil (stamps_of pen)) ∙ sym (flat_map-cons stamps_of pen []);
  notes = sym (append-nil pen.made) ∙ sym (flat_map-cons (λ (p : PenState). p.made) pen []);
  each = All-cons IsTrueOf pen [] is (All-nil IsTrueOf);
}

one_more : {Y : Type 0} (f : PenState → List Y) (done : List PenState) (pen : PenState) → flat_map f (done ++ pen ∷ []) ≡ flat_map f done ++ f pen
one_more f done pen =
    flat_map-append f done (pen ∷ []) ∙ ap (λ ys. flat_map f done ++ ys) (flat_map-cons f pen [] ∙ append-nil (f pen))

pub gathered_more : (all rest : List PenState) (view other : View) (notes : List Stamped) (pen : PenState) → IsGathered all (pen ∷ rest) view notes
    → other.quota ≡ pen.quota → other.stamps ≡ stamps_of pen → IsTrueOf pen → IsGathered all rest (joint_seat view other) (notes ++ pen.made)
gathered_more all rest view other notes pen before quota stamps is = record {
  done = before.done ++ pen ∷ [];
  parts = before.parts ∙ sym (append_assoc before.done (pen ∷ []) rest);
  quota = omega (arith, sum_by_push (λ (p : PenState). p.quota) before.done pen, before.quota, quota);
  stamps = ap (λ xs. xs ++ other.stamps) before.stamps ∙ ap (λ xs. flat_map stamps_of before.done ++ xs) stamps
      ∙ sym (one_more stamps_of before.done pen);
  notes = ap (λ xs. xs ++ pen.made) before.notes ∙ sym (one_more (λ (p : PenState). p.made) before.done pen);
  each = All-push IsTrueOf before.done pen before.each is;
}

-- all pens are of the clock, so the next is
pub next_of : (P : PenState → Type 0) (all rest : List PenState) (view : View) (notes : List Stamped) (pen : PenState) → All P all
    → IsGathered all (pen ∷ rest) view notes → P pen
next_of P all rest view notes pen each before =
    All-head P pen rest (all_right P before.done (pen ∷ rest) (subst (λ ps. All P ps) before.parts each))

pub all_done : (all : List PenState) (view : View) (notes : List Stamped) (before : IsGathered all [] view notes) → all ≡ before.done
all_done all view notes before = before.parts ∙ append-nil before.done

pub empty_rest : {X : Type 0} (xs : List X) (n : ℕ) → n ≡ length xs → n ≡ 0 → xs ≡ []
empty_rest [] n long none = refl
empty_rest (x ∷ xs) n long none = absurd (omega arith)
