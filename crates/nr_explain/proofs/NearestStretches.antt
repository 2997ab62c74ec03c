-- Stretches of numbers that have a property, one number more.
use Rattle.std.proofs.Common.{◌≡◌, ℕ, ◌+◌, ◌<◌, ◌≤◌, ◌↔◌, ◌&&◌, inl, inr, Bool, true, false, Option, Some, None, IsTrue, refl, sym, ap, subst, arith}
use Rattle.std.specs.Prelude.{nat_le, nat_lt, if◌then◌else◌}
use Rattle.std.proofs.lemmas.Bool.{and_from, and_parts, both_ways, cases_eq, cases_lt, eq-eqb, le-leb, leb-true, lt-ltb, ltb-true, ne_eqb}
use Rattle.vs_types.specs.Space.{Space}
use Rattle.vs_types.specs.declared.requests.answer.Answer.{Answer}
use Rattle.vs_types.specs.declared.requests.request.Query.{Query}
use Rattle.nr_trace.specs.Recording.{Recording}
use Rattle.nr_explain.specs.Nearest.{AreAll, IsFirstStretch, IsLastStretch, IsRightAfter}
use Rattle.nr_explain.specs.inside.Nearest.{IsNearestBelow, alone, begun, prolonged, tried}
use Rattle.nr_explain.specs.declared.trace.nearby.RightAfter.{RightAfter}
use Rattle.nr_explain.specs.declared.trace.nearby.Stretch.{Stretch}

-- the stretch with a number behind it, by whether that goes on it
abbrev longer_by : Stretch → Stretch → ℕ → Bool → Stretch
longer_by stretch other n b = if b then record { first = stretch.first; last = n } else other

pub prolonged_next : (stretch : Stretch) (n : ℕ) (last : Option Stretch) → last ≡ Some stretch → stretch.last + 1 ≡ n
    → record { first = stretch.first; last = n } ≡ prolonged last n
prolonged_next stretch n last is next =
    subst (λ (o : Option Stretch). record { first = stretch.first; last = n } ≡ prolonged o n) (sym is)
    (sym (ap (longer_by stretch (alone n) n) (eq-eqb (stretch.last + 1) n next)))

pub prolonged_apart : (stretch : Stretch) (n : ℕ) (last : Option Stretch) → last ≡ Some stretch → (stretch.last + 1 ≡ n → ⊥) → alone n ≡ prolonged last n
prolonged_apart stretch n last is apart =
    subst (λ (o : Option Stretch). alone n ≡ prolonged o n) (sym is) (sym (ap (longer_by stretch (alone n) n) (ne_eqb (stretch.last + 1) n apart)))

pub begun_next : (stretch : Stretch) (n : ℕ) (first : Option Stretch) → first ≡ Some stretch → stretch.last + 1 ≡ n
    → record { first = stretch.first; last = n } ≡ begun first n
begun_next stretch n first is next =
    subst (λ (o : Option Stretch). record { first = stretch.first; last = n } ≡ begun o n) (sym is)
    (sym (ap (longer_by stretch stretch n) (eq-eqb (stretch.last + 1) n next)))

pub begun_apart : (stretch : Stretch) (n : ℕ) (first : Option Stretch) → first ≡ Some stretch → (stretch.last + 1 ≡ n → ⊥) → stretch ≡ begun first n
begun_apart stretch n first is apart =
    subst (λ (o : Option Stretch). stretch ≡ begun o n) (sym is) (sym (ap (longer_by stretch stretch n) (ne_eqb (stretch.last + 1) n apart)))

module _ (P : ℕ → Type 0) where
  abbrev longer : Stretch → ℕ → Stretch
  longer stretch end = record { first = stretch.first; last = end }

  all_alone : (end : ℕ) → P end → AreAll P (alone end)
  all_alone end p = record {
    some = omega arith;
    all = λ n low high. subst P (omega arith) p;
  }

  all_longer : (end : ℕ) (stretch : Stretch) → P end → stretch.last + 1 ≡ end → AreAll P stretch → AreAll P (longer stretch end)
  all_longer end stretch p next are = record {
    some = let some = are.some in omega arith;
    all = λ n low high. elim (cases_lt n end) [
      | inl lt ↦ are.all n low (omega arith)
      | inr past ↦ subst P (omega arith) p
    ];
  }

  -- ---- the last stretch

  last_stays : (end : ℕ) (found : Option Stretch) → (P end → ⊥) → IsLastStretch P end found → IsLastStretch P (end + 1) found
  last_stays end None not is = λ n low p. elim (cases_lt n end) [
    | inl lt ↦ is n lt p
    | inr past ↦ not (subst P (omega arith) p)
  ]
  last_stays end (Some stretch) not is = (
    is.0,
    (let ends = is.1 in omega arith),
    (λ n above low p. elim (cases_lt n end) [
      | inl lt ↦ is.2 n above lt p
      | inr past ↦ not (subst P (omega arith) p)
    ]),
    is.3,
  )

  last_longer : (end : ℕ) (found : Option Stretch) → P end → IsLastStretch P end found → IsLastStretch P (end + 1) (Some (prolonged found end))
  last_longer end None p is = (
    all_alone end p,
    omega arith,
    (λ n above low q. absurd (omega arith)),
    (λ n next q. is n (omega arith) q),
  )
  last_longer end (Some stretch) p is = elim (cases_eq (stretch.last + 1) end) [
    | inl next ↦ subst (λ (s : Stretch). IsLastStretch P (end + 1) (Some s))
        (sym (ap (λ b. if b then longer stretch end else alone end) (eq-eqb (stretch.last + 1) end next))) (
          all_longer end stretch p next is.0,
          omega arith,
          (λ n above low q. absurd (omega arith)),
          is.3,
        )
    | inr apart ↦ subst (λ (s : Stretch). IsLastStretch P (end + 1) (Some s))
        (sym (ap (λ b. if b then longer stretch end else alone end) (ne_eqb (stretch.last + 1) end apart))) (
          all_alone end p,
          omega arith,
          (λ n above low q. absurd (omega arith)),
          (λ n next q. elim (cases_lt (stretch.last + 1) end) [
            | inl lt ↦ is.2 n (omega arith) (omega arith) q
            | inr past ↦ absurd (apart (let ends = is.1 in omega arith))
          ]),
        )
  ]

  pub last_tried : (end : ℕ) (found : Option Stretch) (b : Bool) → (b ≡ true → P end) → (b ≡ false → P end → ⊥) → IsLastStretch P end found
      → IsLastStretch P (end + 1) (if b then Some (prolonged found end) else found)
  last_tried end found true passes fails is = last_longer end found (passes refl) is
  last_tried end found false passes fails is = last_stays end found (fails refl) is

  -- ---- the first stretch

  first_stays : (end : ℕ) (found : Option Stretch) → (P end → ⊥) → IsFirstStretch P end found → IsFirstStretch P (end + 1) found
  first_stays end None not is = λ n low p. elim (cases_lt n end) [
    | inl lt ↦ is n lt p
    | inr past ↦ not (subst P (omega arith) p)
  ]
  first_stays end (Some stretch) not is = (
    is.0,
    (let ends = is.1 in omega arith),
    is.2,
    (λ within p. elim (cases_lt (stretch.last + 1) end) [
      | inl lt ↦ is.3 lt p
      | inr past ↦ not (subst P (omega arith) p)
    ]),
  )

  first_longer : (end : ℕ) (found : Option Stretch) → P end → IsFirstStretch P end found → IsFirstStretch P (end + 1) (Some (begun found end))
  first_longer end None p is = (
    all_alone end p,
    omega arith,
    (λ n low q. is n low q),
    (λ within q. absurd (omega arith)),
  )
  first_longer end (Some stretch) p is = elim (cases_eq (stretch.last + 1) end) [
    | inl next ↦ subst (λ (s : Stretch). IsFirstStretch P (end + 1) (Some s))
        (sym (ap (λ b. if b then longer stretch end else stretch) (eq-eqb (stretch.last + 1) end next))) (
          all_longer end stretch p next is.0,
          omega arith,
          is.2,
          (λ within q. absurd (omega arith)),
        )
    | inr apart ↦ subst (λ (s : Stretch). IsFirstStretch P (end + 1) (Some s))
        (sym (ap (λ b. if b then longer stretch end else stretch) (ne_eqb (stretch.last + 1) end apart))) (
          is.0,
          (let ends = is.1 in omega arith),
          is.2,
          (λ within q. elim (cases_lt (stretch.last + 1) end) [
            | inl lt ↦ is.3 lt q
            | inr past ↦ absurd (apart (omega arith))
          ]),
        )
  ]

  pub first_tried : (end : ℕ) (found : Option Stretch) (b : Bool) → (b ≡ true → P end) → (b ≡ false → P end → ⊥) → IsFirstStretch P end found
      → IsFirstStretch P (end + 1) (if b then Some (begun found end) else found)
  first_tried end found true passes fails is = first_longer end found (passes refl) is
  first_tried end found false passes fails is = first_stays end found (fails refl) is

-- ---- both

module _ (start : Space) (trace : Recording) (request : Query) (told : Answer) (below above : ℕ) where
  abbrev Right : ℕ → Type 0
  Right n = IsRightAfter start trace request told n

  abbrev Fewer : ℕ → Type 0
  Fewer n = (n < below) × Right n

  abbrev More : ℕ → Type 0
  More n = (above < n) × (below ≤ n) × Right n

  pub none_near : (right : RightAfter) → right.before ≡ None → right.behind ≡ None → IsNearestBelow start trace request told below above 0 right
  none_near right before behind = record {
    before = subst (IsLastStretch Fewer 0) (sym before) (λ n low p. absurd (omega arith));
    behind = subst (IsFirstStretch More 0) (sym behind) (λ n low p. absurd (omega arith));
  }

  -- a number more
  pub near_tried : (n : ℕ) (right : RightAfter) (is : Bool) → IsTrue is ↔ Right n → IsNearestBelow start trace request told below above n right
      → IsNearestBelow start trace request told below above (n + 1) (tried right below above n is)
  near_tried n right is says near = record {
    before = last_tried Fewer n right.before (is && nat_lt n below)
        (λ t. let parts = and_parts is (nat_lt n below) t in (ltb-true n below parts.1, says.0 parts.0))
        (λ f p. both_ways _ f (and_from is (nat_lt n below) (says.1 p.1) (lt-ltb n below p.0)))
        near.before;
    behind = first_tried More n right.behind (is && (nat_lt above n && nat_le below n))
        (λ t.
        let parts = and_parts is (nat_lt above n && nat_le below n) t in
        let bounds = and_parts (nat_lt above n) (nat_le below n) parts.1 in
        (ltb-true above n bounds.0, leb-true below n bounds.1, says.0 parts.0))
        (λ f p. both_ways _ f (and_from is (nat_lt above n && nat_le below n) (says.1 p.2)
        (and_from (nat_lt above n) (nat_le below n) (lt-ltb above n p.0) (le-leb below n p.1))))
        near.behind;
  }
