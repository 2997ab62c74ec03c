-- Which of some faults is the first: by the pass, then by where the fault is in the pass, then by its number.
use Rattle.std.proofs.Common.{◌≡◌, ℕ, ◌+◌, ◌<◌, [], ◌∷◌, ◌⊎◌, inl, inr, refl, subst, arith}
use Rattle.std.specs.Ordering.{nat_cmp, ordering_then}
use Rattle.std.specs.Cmp.Lexicographic.{slice_cmp}
use Rattle.std.specs.declared.cmp.Ordering.{Ordering}
use Rattle.std.specs.declared.cmp.Ordering.TheVariants.{Less, Equal, Greater}
use Rattle.std.proofs.lemmas.Bool.{cases_lt}
use Rattle.vs_types.specs.Space.{Space, no_pages}
use Rattle.nr_trace.specs.Recording.{Recording}
use Rattle.nr_trace.specs.Faults.{rank}
use Rattle.nr_trace.specs.declared.refusals.fault.Fault.{Fault}
use Rattle.nr_trace.proofs.LawsOfFaults.{below_from_less}
use Rattle.vs_types.specs.Refusal.{IfRefused}
use Rattle.vs_types.specs.declared.requests.refusal.Fail.{Fail}
use Rattle.vs_types.specs.declared.requests.refusal.Fail.TheVariants.{Memory, Refused}
use Rattle.nr_audit.specs.inside.Search.{HasNone, HasNoneFrom, IsFirstAmong, IsFirstAmongFrom}

pub then_less : (r s : Ordering) → ordering_then r s ≡ Less → (r ≡ Less) ⊎ ((r ≡ Equal) × (s ≡ Less))
then_less Less s e = inl refl
then_less Equal s e = inr (refl, e)
then_less Greater s e = cc

-- the faults of each index are by it in one pass
abbrev pub IsRanked : (ℕ → Fault → Type 0) → ℕ → Recording → Type 0
IsRanked At pass trace = (index : ℕ) (fault : Fault) → At index fault → (number : ℕ) × (rank trace fault ≡ pass ∷ index ∷ number ∷ [])

module _ (start : Space) (At : ℕ → Fault → Type 0) where
  -- none below an index and none at it are none below the next
  pub more_from : (trace : Recording) (index : ℕ) → ((lower : ℕ) → lower < index → HasNoneFrom start (At lower) trace) → HasNoneFrom start (At index) trace
      → (lower : ℕ) → lower < index + 1 → HasNoneFrom start (At lower) trace
  more_from trace index below here lower lt = elim (cases_lt lower index) [
    | inl low ↦ below lower low
    | inr same ↦ subst (λ i. HasNoneFrom start (At i) trace) (let it : index ≡ lower = omega arith in it) here
  ]

  -- none of the faults of an index holds, at any index
  pub none_from : (trace : Recording) → ((index : ℕ) → HasNoneFrom start (At index) trace) → HasNoneFrom start (λ fault. (index : ℕ) × At index fault) trace
  none_from trace none fault among holds = none among.0 fault among.1 holds

  -- the first of the faults of an index, where none of a lower index holds, is the first of all
  pub first_from : (pass : ℕ) (trace : Recording) → IsRanked At pass trace → (index : ℕ) (fault : Fault)
      → ((lower : ℕ) → lower < index → HasNoneFrom start (At lower) trace) → IsFirstAmongFrom start (At index) trace fault
      → IsFirstAmongFrom start (λ fault. (index : ℕ) × At index fault) trace fault
  first_from pass trace ranks index fault none first = record {
    is_among = (index, first.is_among);
    holds = first.holds;
    none_earlier = λ other among holds earlier.
        let r = ranks among.0 other among.1 in
        let s = ranks index fault first.is_among in
        let ordered : slice_cmp nat_cmp (pass ∷ among.0 ∷ r.0 ∷ []) (pass ∷ index ∷ s.0 ∷ []) ≡ Less =
        subst (λ b. slice_cmp nat_cmp (pass ∷ among.0 ∷ r.0 ∷ []) b ≡ Less) s.1 (subst (λ a. slice_cmp nat_cmp a (rank trace fault) ≡ Less) r.1 earlier) in
        elim (below_from_less pass among.0 r.0 pass index s.0 ordered) [
          | inl low ↦ absurd (omega arith)
          | inr same ↦ elim same [
            | inl low ↦ none among.0 low.1 other among.1 holds
            | inr also ↦ first.none_earlier other (subst (λ k. At k other) also.1 among.1) holds earlier
          ]
        ];
  }

-- the same of faults that no start changes
pub more_of : (At : ℕ → Fault → Type 0) (trace : Recording) (index : ℕ) → ((lower : ℕ) → lower < index → HasNone (At lower) trace) → HasNone (At index) trace
    → (lower : ℕ) → lower < index + 1 → HasNone (At lower) trace
more_of = more_from no_pages

pub none_of_all : (At : ℕ → Fault → Type 0) (trace : Recording) → ((index : ℕ) → HasNone (At index) trace)
    → HasNone (λ fault. (index : ℕ) × At index fault) trace
none_of_all = none_from no_pages

pub first_of_all : (At : ℕ → Fault → Type 0) (pass : ℕ) (trace : Recording) → IsRanked At pass trace → (index : ℕ) (fault : Fault)
    → ((lower : ℕ) → lower < index → HasNone (At lower) trace) → IsFirstAmong (At index) trace fault
    → IsFirstAmong (λ fault. (index : ℕ) × At index fault) trace fault
first_of_all = first_from no_pages

-- of two faults of one index the earlier one has the lower number
pub lower_number : (p i m j n : ℕ) → slice_cmp nat_cmp (p ∷ i ∷ m ∷ []) (p ∷ j ∷ n ∷ []) ≡ Less → i ≡ j → m < n
lower_number p i m j n e same =
    elim (below_from_less p i m p j n e) [
      | inl low ↦ absurd (omega arith)
      | inr rest ↦ elim rest [
        | inl low ↦ (let less = low.1 in absurd (omega arith))
        | inr also ↦ also.2
      ]
    ]

-- of two touches the earlier one has the lower number
pub touch_number : (m n : ℕ) → slice_cmp nat_cmp (7 ∷ m ∷ 24 ∷ []) (7 ∷ n ∷ 24 ∷ []) ≡ Less → m < n
touch_number m n e = elim (below_from_less 7 m 24 7 n 24 e) [
  | inl low ↦ absurd (omega arith)
  | inr rest ↦ elim rest [
    | inl low ↦ low.1
    | inr same ↦ (let less = same.2 in absurd (omega arith))
  ]
]

-- and of two releases
pub release_number : (m n : ℕ) → slice_cmp nat_cmp (8 ∷ m ∷ 25 ∷ []) (8 ∷ n ∷ 25 ∷ []) ≡ Less → m < n
release_number m n e = elim (below_from_less 8 m 25 8 n 25 e) [
  | inl low ↦ absurd (omega arith)
  | inr rest ↦ elim rest [
    | inl low ↦ low.1
    | inr same ↦ (let less = same.2 in absurd (omega arith))
  ]
]

-- what is refused, by what it is besides
pub refused_as : (P Q : Fault → Type 0) (fail : Fail Fault) → ((fault : Fault) → P fault → Q fault) → IfRefused P fail → IfRefused Q fail
refused_as P Q Memory widen refused = tt
refused_as P Q (Refused fault) widen refused = widen fault refused
