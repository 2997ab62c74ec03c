-- The most late faults of one thread at one address, touch by touch.
use Rattle.std.proofs.Common.{◌≡◌, ◌≢◌, ℕ, zero, suc, ◌+◌, ◌<◌, ◌≤◌, ◌==◌, ◌&&◌, inl, inr, Bool, true, false, cond, List, slice_get, Option, Some}
use Rattle.std.proofs.Common.{refl, sym, ap, ◌∙◌, subst, arith}
use Rattle.std.specs.Prelude.{count_by, max, unwrap_or}
use Rattle.std.specs.BTreeMap.{is_at}
use Rattle.std.specs.Cmp.{nat_cmp_is}
use Rattle.std.specs.Option.{option_map_or}
use Rattle.std.specs.Ordering.{is_eq, nat_cmp, ordering_then}
use Rattle.std.specs.declared.cmp.Ordering.{Ordering}
use Rattle.std.specs.declared.cmp.Ordering.TheVariants.{Equal}
use Rattle.std.proofs.lemmas.Bool.{and_from, and_parts, cases_Bool, cases_lt, eq-eqb, eqb-true, false_from_ne_true, true≢false}
use Rattle.std.proofs.lemmas.Map.Lookups.{CmpEqualImpliesEq, exact_pairs, exact_unsigned}
use Rattle.std.proofs.lemmas.Map.Views.{tells_apart}
use Rattle.nr_trace.specs.Recording.{Recording}
use Rattle.nr_trace.specs.Orders.{below}
use Rattle.nr_touch.specs.inside.Indexed.{row_cmp}
use Rattle.nr_touch.specs.declared.touches.excuse.Excuse.{Excuse}
use Rattle.nr_touch.specs.declared.touches.touch.Touch.{Touch}
use Rattle.nr_touch.proofs.Overs.{count_more}
use Rattle.nr_audit.specs.Met.{is_by, is_late, is_late_by, late_by, thread_at, IsMostLate}

exact_rows : CmpEqualImpliesEq row_cmp
exact_rows = exact_pairs nat_cmp nat_cmp exact_unsigned exact_unsigned

at_itself : (thread address : ℕ) → is_at (row_cmp (thread, address)) (thread, address) ≡ true
at_itself thread address =
    ap is_eq (ap (λ (o : Ordering). ordering_then o (nat_cmp address address)) (sym (nat_cmp_is thread thread Equal refl))
    ∙ sym (nat_cmp_is address address Equal refl))

bit : (b : Bool) → cond {A = ℕ} b 1 0 ≤ 1
bit true = omega arith
bit false = omega arith

pub count_few : (p : ℕ → Bool) (n : ℕ) → count_by p (below n) ≤ n
count_few p zero = omega arith
count_few p (suc n) =
    let next : n + 1 ≡ suc n = omega arith in
    subst (λ (m : ℕ). count_by p (below m) ≤ m) next
    (let step = count_more p n in let one = bit (p n) in let before = count_few p n in omega (arith, step, one, before))

module _ (segment : Recording) (touches : List Touch) (list : List Excuse) where
  pub none_yet : IsMostLate segment touches list 0 0
  none_yet = record { all = λ thread address. omega arith; some = inl refl }

  module _ (index : ℕ) where
    step : (thread address : ℕ) → late_by segment touches list thread address (index + 1)
        ≡ late_by segment touches list thread address index + cond (is_late_by segment touches list thread address index) 1 0
    step thread address = count_more (is_late_by segment touches list thread address) index

    -- a touch that doesn't fault late
    module _ (not_late : false ≡ option_map_or is_late (slice_get list index) false) where
      pub same_count : (thread address : ℕ) → late_by segment touches list thread address (index + 1) ≡ late_by segment touches list thread address index
      same_count thread address =
          let one = step thread address in
          let nothing : ◌≡◌ {A = ℕ} (cond (is_late_by segment touches list thread address index) 1 0) 0 =
          ap (λ (b : Bool). cond {A = ℕ} (b && option_map_or (is_by segment thread address) (slice_get touches index) false) 1 0) (sym not_late) in
          omega (arith, one, nothing)

      pub same_most : (most : ℕ) → IsMostLate segment touches list index most → IsMostLate segment touches list (index + 1) most
      same_most most it = record {
        all = λ thread address.
            let same = same_count thread address in
            let least = it.all thread address in
            omega (arith, same, least);
        some = elim it.some [ inl none ↦ inl none | inr (thread, address, is) ↦ inr (thread, address, same_count thread address ∙ is) ];
      }

    -- one that does
    module _ (touch : Touch) (at : slice_get touches index ≡ Some touch) (late : true ≡ option_map_or is_late (slice_get list index) false)
        (own : ℕ) (own_is : own ≡ thread_at segment touch.made) where
      more : (thread address : ℕ) → late_by segment touches list thread address (index + 1)
          ≡ late_by segment touches list thread address index + cond (is_by segment thread address touch) 1 0
      more thread address =
          step thread address
          ∙ ap (λ (b : Bool). late_by segment touches list thread address index + cond {A = ℕ} b 1 0)
          (ap (λ (b : Bool). b && option_map_or (is_by segment thread address) (slice_get touches index) false) (sym late)
          ∙ ap (λ (o : Option Touch). option_map_or (is_by segment thread address) o false) at)

      hits : (thread address : ℕ) → is_by segment thread address touch ≡ true → (own ≡ thread) × (touch.address ≡ address)
      hits thread address is =
          let (one, other) = and_parts (thread_at segment touch.made == thread) (touch.address == address) is in
          (own_is ∙ eqb-true (thread_at segment touch.made) thread one, eqb-true touch.address address other)

      pub one_more : late_by segment touches list own touch.address (index + 1) ≡ late_by segment touches list own touch.address index + 1
      one_more =
          more own touch.address
          ∙ ap (λ (b : Bool). late_by segment touches list own touch.address index + cond {A = ℕ} b 1 0)
          (and_from (thread_at segment touch.made == own) (touch.address == touch.address) (eq-eqb (thread_at segment touch.made) own (sym own_is))
          (eq-eqb touch.address touch.address refl))

      others : (thread address : ℕ) → is_by segment thread address touch ≡ false
          → late_by segment touches list thread address (index + 1) ≡ late_by segment touches list thread address index
      others thread address not =
          let step_so = more thread address in
          let nothing : ◌≡◌ {A = ℕ} (cond (is_by segment thread address touch) 1 0) 0 = ap (λ (b : Bool). cond {A = ℕ} b 1 0) not in
          omega (arith, step_so, nothing)

      module _ (count : ℕ) (counted : count ≡ late_by segment touches list own touch.address index) where
        next_one : count + 1 ≡ late_by segment touches list own touch.address (index + 1)
        next_one = let one = one_more in omega (arith, one, counted)

        -- what the map knows with this one
        pub next_known : (thread address : ℕ) (after before : Option ℕ)
            → after ≡ cond (is_at (row_cmp (own, touch.address)) (thread, address)) (Some (count + 1)) before
            → unwrap_or before 0 ≡ late_by segment touches list thread address index
            → unwrap_or after 0 ≡ late_by segment touches list thread address (index + 1)
        next_known thread address after before is known = elim (cases_Bool (is_at (row_cmp (own, touch.address)) (thread, address))) [
          | inl here ↦
              ap (λ (o : Option ℕ). unwrap_or o 0) (is ∙ ap (λ (b : Bool). cond b (Some (count + 1)) before) here)
              ∙ subst (λ (row : ℕ × ℕ). count + 1 ≡ late_by segment touches list row.0 row.1 (index + 1))
              (tells_apart exact_rows (own, touch.address) (thread, address) here) next_one
          | inr there ↦
              let not : is_by segment thread address touch ≡ false = false_from_ne_true (is_by segment thread address touch) (λ hit.
              let (one, other) = hits thread address hit in
              true≢false (sym (at_itself own touch.address)
              ∙ ap (λ (n : ℕ). is_at (row_cmp (own, touch.address)) (n, touch.address)) one
              ∙ ap (λ (n : ℕ). is_at (row_cmp (own, touch.address)) (thread, n)) other ∙ there)) in
              ap (λ (o : Option ℕ). unwrap_or o 0) (is ∙ ap (λ (b : Bool). cond b (Some (count + 1)) before) there)
              ∙ known ∙ sym (others thread address not)
        ]

        own_count : (thread address : ℕ) → is_by segment thread address touch ≡ true → late_by segment touches list thread address index ≡ count
        own_count thread address hit =
            let (one, other) = hits thread address hit in
            ap (λ (n : ℕ). late_by segment touches list n address index) (sym one)
            ∙ ap (λ (n : ℕ). late_by segment touches list own n index) (sym other) ∙ sym counted

        pub next_most : (most new : ℕ) → new ≡ max most (count + 1) → IsMostLate segment touches list index most
            → IsMostLate segment touches list (index + 1) new
        next_most most new is it = record {
          all = λ thread address.
              let least = it.all thread address in
              elim (cases_Bool (is_by segment thread address touch)) [
                | inl hit ↦
                    let step_so = more thread address in
                    let one : ◌≡◌ {A = ℕ} (cond (is_by segment thread address touch) 1 0) 1 = ap (λ (b : Bool). cond {A = ℕ} b 1 0) hit in
                    let same = own_count thread address hit in
                    omega (arith, step_so, one, same, is)
                | inr not ↦ let same = others thread address not in omega (arith, same, least, is)
              ];
          some = elim (cases_lt (count + 1) most) [
            | inl less ↦ elim it.some [
              | inl none ↦ absurd (omega (arith, less, none))
              | inr (thread, address, most_is) ↦ inr (
                thread,
                address,
                elim (cases_Bool (is_by segment thread address touch)) [
                  | inl hit ↦ let same = own_count thread address hit in absurd (omega (arith, same, most_is, less))
                  | inr not ↦ let same = others thread address not in omega (arith, same, most_is, less, is)
                ],
              )
            ]
            | inr past ↦ inr (own, touch.address, let one = next_one in omega (arith, one, past, is))
          ];
        }
