-- A table that leads to new tables alone is linked: each way that was its address's own still is.
use Rattle.std.proofs.Common.{◌≡◌, ◌≢◌, ℕ, zero, suc, ◌+◌, ◌-◌, ◌<◌, ◌≤◌, List, [], ◌∷◌, ◌++◌, Contains, Option, Some, None, ◌⊎◌, inl, inr, ⊎_elim, refl, sym}
use Rattle.std.proofs.Common.{ap, subst, ◌∙◌, arith}
use Rattle.std.specs.Prelude.{slice_set}
use Rattle.std.proofs.lemmas.Bool.{cases_eq, cases_lt}
use Rattle.std.proofs.lemmas.List.{get_or-set_same, get_or-set_other, length-replicate}
use Rattle.std.proofs.lemmas.List.Elements.{Contains-append_left, Contains-append_right}
use Rattle.std.specs.FinMap as finite
use Rattle.std.proofs.lemmas.Option.{same_Some}
use Rattle.vs_types.specs.Depth.{levels, index_at}
use Rattle.vs_types.specs.Entry.{meaning}
use Rattle.vs_types.specs.declared.addresses.depth.Depth.{Depth}
use Rattle.vs_types.specs.declared.addresses.page.Rights.{Rights}
use Rattle.vs_types.specs.declared.entries.entry.Meaning.TheVariants as entry
use Rattle.vs_types.proofs.Lists.{Contains-head}
use Rattle.vs_arena.specs.Store.{zeros}
use Rattle.vs_walk.specs.Memory.{Memory}
use Rattle.vs_space.specs.Path.{found_at, table_in, table_at, SamePath}
use Rattle.vs_space.proofs.Links.{zeros_are}
use Rattle.vs_space.proofs.Paths.{reached_within, table_first, table_next, table_below, table_none, none_past}
use Rattle.vs_space.proofs.Prunes.{word_in}
use Rattle.vs_space.proofs.Writes.{same_or_not}
use Rattle.vs_plan.specs.Premise.{HasOwnWay}
use Rattle.vs_plan.specs.Shown.{IsLone}
use Rattle.vs_plan.proofs.EntryStores.{IsOwnTable, after_store, table_off, table_above, table_here, found_stored}
use Rattle.vs_plan.proofs.Stored.{found_word}
use Rattle.vs_space.specs.Held.{word_at}

split_down : (m : Memory) (top root t b n j : ℕ) → t ≤ top → j < t → table_at top m root (suc j) b ≡ table_at t m n (suc j) b
    → (o : Option ℕ) → table_at top m root (suc j) b ≡ o → table_at top m root j b ≡ table_at t m n j b
split_down m top root t b n j high lt before None at =
    table_none top root m j b (omega arith) at ∙ sym (table_none t n m j b lt (sym before ∙ at))
split_down m top root t b n j high lt before (Some p) at = table_next top root m j b p at ∙ sym (table_next t n m j b p (sym before ∙ at))

-- the tables of a path are those of the path from one of them on
pub table_split : (m : Memory) (top root t b n : ℕ) → table_at top m root t b ≡ Some n → (d j : ℕ) → d + j ≡ t
    → table_at top m root j b ≡ table_at t m n j b
table_split m top root t b n at zero j e =
    let same : j ≡ t = omega arith in
    subst (λ l. table_at top m root l b ≡ table_at t m n l b) (sym same) (at ∙ sym (table_first t n m b))
table_split m top root t b n at (suc d) j e =
    split_down m top root t b n j (reached_within top root m t b n at) (omega arith) (table_split m top root t b n at d (suc j) (omega arith))
    (table_at top m root (suc j) b) refl

-- ---- a frame of zeros but for one word

module _ (m : Memory) (number index w : ℕ) (low : index < 512) (is : finite.get m number ≡ Some (slice_set zeros index w)) where
  pub found_one : (level b : ℕ) → index_at level b ≡ index → found_at level m number b ≡ Some (meaning level w)
  found_one level b at = found_word level m number b w (ap (word_at m number) at
      ∙ word_in m number index (slice_set zeros index w) is ∙ ap Some (get_or-set_same zeros index w 0 (omega (arith, length-replicate {A = ℕ} 512 0))))

  pub found_none : (level b : ℕ) → index_at level b ≢ index → found_at level m number b ≡ Some entry.Absent
  found_none level b other = found_word level m number b 0 (word_in m number (index_at level b) (slice_set zeros index w) is
      ∙ ap Some (get_or-set_other zeros index (index_at level b) w 0 other ∙ zeros_are (index_at level b)))

  -- which leads to no table
  pub lone_lowest : (base top : ℕ) (frames : List ℕ) → 1 ≤ top → table_in (Some (meaning top w)) ≡ None → Contains frames number
      → IsLone m base top number frames
  lone_lowest base top frames some ends among level b q at = ⊎_elim
      (λ (same : level ≡ top).
      let q_is : q ≡ number = same_Some q number (sym at ∙ ap (λ l. table_at top m number l b) same ∙ table_first top number m b) in (
        subst (Contains frames) (sym q_is) among,
        λ i from to. absurd (omega arith),
        λ other c there. ⊎_elim
            (λ (past : other < top). let none = nothing c other past in absurd (cc))
            (λ (le : top ≤ other). let upper = reached_within top number m other c q there in omega arith)
            (cases_lt other top),
      ))
      (λ (differs : level ≢ top).
      let upper = reached_within top number m level b q at in
      let none = nothing b level (omega arith) in
      absurd (cc))
      (cases_eq level top)
    where
      nothing : (b j : ℕ) → j < top → table_at top m number j b ≡ None
      nothing b j lt = none_past top number m (top - 1) j b (omega arith) (omega arith)
          (table_below top number m top (top - 1) b number (omega arith) (table_first top number m b)
          ∙ ⊎_elim
          (λ turn. ap table_in (found_one top b turn) ∙ ends)
          (λ off. ap table_in (found_none top b off))
          (cases_eq (index_at top b) index))

-- which leads to the table below
module _ (m : Memory) (base low below number w : ℕ) (rights : Rights) (frames : List ℕ)
    (is : finite.get m number ≡ Some (slice_set zeros (index_at (suc low) base) w)) (leads : meaning (suc low) w ≡ entry.Table below rights)
    (new : Contains frames number → ⊥) (lone : IsLone m base low below frames) where
  under : (b j q : ℕ) → j ≤ low → table_at (suc low) m number j b ≡ Some q
      → (index_at (suc low) b ≡ index_at (suc low) base) × (table_at low m below j b ≡ Some q)
  under b j q le at = ⊎_elim
      (λ turn.
      let there : table_at (suc low) m number low b ≡ Some below =
      table_below (suc low) number m (suc low) low b number refl (table_first (suc low) number m b)
      ∙ ap table_in (found_one m number (index_at (suc low) base) w (omega arith) is (suc low) b turn ∙ ap Some leads) in
      (turn, sym (table_split m (suc low) number low b below there (low - j) j (omega arith)) ∙ at))
      (λ off.
      let none : table_at (suc low) m number low b ≡ None =
      table_below (suc low) number m (suc low) low b number refl (table_first (suc low) number m b)
      ∙ ap table_in (found_none m number (index_at (suc low) base) w (omega arith) is (suc low) b off) in
      let nothing = none_past (suc low) number m low j b (omega arith) le none in
      absurd (cc))
      (cases_eq (index_at (suc low) b) (index_at (suc low) base))

  upper : (b j q : ℕ) → table_at (suc low) m number j b ≡ Some q → (j ≤ low) ⊎ ((j ≡ suc low) × (q ≡ number))
  upper b j q at = ⊎_elim
      (λ (same : j ≡ suc low). inr (same, same_Some q number (sym at ∙ ap (λ l. table_at (suc low) m number l b) same ∙ table_first (suc low) number m b)))
      (λ (other : j ≢ suc low). inl (omega (arith, reached_within (suc low) number m j b q at, other)))
      (cases_eq j (suc low))

  pub lone_higher : IsLone m base (suc low) number (frames ++ number ∷ [])
  lone_higher level b q at = ⊎_elim
      (λ le.
      let here = under b level q le at in
      let chain = lone level b q here.1 in (
        Contains-append_left frames (number ∷ []) q chain.0,
        λ i from to. ⊎_elim
            (λ (last : i ≡ suc low). subst (λ j. index_at j base ≡ index_at j b) (sym last) (sym here.0))
            (λ (other : i ≢ suc low). chain.1 i from (omega (arith, to, other)))
            (cases_eq i (suc low)),
        λ other c there. ⊎_elim
            (λ lower. chain.2 other c (under c other q lower there).1)
            (λ top. absurd (new (subst (Contains frames) top.1 chain.0)))
            (upper c other q there),
      ))
      (λ top. (
        subst (Contains (frames ++ number ∷ [])) (sym top.1) (Contains-append_right frames (number ∷ []) number (Contains-head number [])),
        λ i from to. absurd (omega (arith, from, to, top.0)),
        λ other c there. ⊎_elim
            (λ lower. absurd (new (subst (Contains frames) top.1 (lone other c q (under c other q lower there).1).0)))
            (λ again. again.0 ∙ sym top.0)
            (upper c other q there),
      ))
      (upper b level q at)

-- ---- the link

module _ {depth : Depth} {m : Memory} {root level a n : ℕ} (here : IsOwnTable depth m root level a n) (w next low : ℕ) (rights : Rights)
    (leads : meaning level w ≡ entry.Table next rights) (one : level ≡ suc low) (frames : List ℕ) (lone : IsLone (after_store here w) a low next frames)
    (spare : (q : ℕ) → Contains frames q → (j b : ℕ) → table_at (levels depth) m root j b ≢ Some q) where
  linked : (b : ℕ) → SamePath (levels depth) level a b → table_at (levels depth) (after_store here w) root low b ≡ Some next
  linked b same = table_below (levels depth) root (after_store here w) level low b n one (table_here here w b same)
      ∙ ap table_in (found_stored here w b same ∙ ap Some leads)

  -- each table was reached before, or is one of the new ones
  pub old_or_new : (b j q : ℕ) → table_at (levels depth) (after_store here w) root j b ≡ Some q → (table_at (levels depth) m root j b ≡ Some q)
      ⊎ (Contains frames q × SamePath (levels depth) (suc j) a b × (table_at low (after_store here w) next j b ≡ Some q))
  old_or_new b j q r = ⊎_elim
      (λ same. ⊎_elim
      (λ (past : j < level).
      let there : table_at low (after_store here w) next j b ≡ Some q =
      sym (table_split (after_store here w) (levels depth) root low b next (linked b same) (low - j) j (omega (arith, one))) ∙ r in
      let chain = lone j b q there in
      inr (
        chain.0,
        (λ i from to. ⊎_elim
            (λ (under : i < level). chain.1 i from (omega (arith, one)))
            (λ (over : level ≤ i). same i over to)
            (cases_lt i level)),
        there,
      ))
      (λ (le : level ≤ j). inl (sym (table_above here w b j le) ∙ r))
      (cases_lt j level))
      (λ apart. inl (sym (table_off here w b j apart) ∙ r))
      (same_or_not (levels depth) level a b)

  pub own_linked : (c : ℕ) → HasOwnWay depth m root c → HasOwnWay depth (after_store here w) root c
  own_linked c own = record {
    once = λ j q k b r s. ⊎_elim
        (λ r_old. ⊎_elim
        (λ s_old. own.once j q k b r_old s_old)
        (λ s_new. absurd (spare q s_new.0 j c r_old))
        (old_or_new b k q s))
        (λ r_new. ⊎_elim
        (λ s_old. absurd (spare q r_new.0 k b s_old))
        (λ s_new.
        let levels_same : k ≡ j = (lone j c q r_new.2).2 k b s_new.2 in
        (levels_same, λ i from to. sym (r_new.1 i from to) ∙ s_new.1 i (omega (arith, levels_same, from)) to))
        (old_or_new b k q s))
        (old_or_new c j q r);
  }
