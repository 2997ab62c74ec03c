-- The looks before changes that answer a touch, by the sights of them.
use Rattle.std.proofs.Common.{◌≡◌, ℕ, ◌+◌, ◌-◌, ◌%◌, ◌<◌, ◌≤◌, ◌⊎◌, inl, inr, Bool, true, false, cond, List, Some, None, Contains, map, refl, sym, ap, ◌∙◌, subst}
use Rattle.std.proofs.Common.{arith}
use Rattle.std.specs.List.Sorted.{IsPermutation}
use Rattle.std.proofs.lemmas.Bool.{cases_Bool}
use Rattle.std.proofs.lemmas.List.Sorted.{IsPermutation-sym, Contains-permutation}
use Rattle.vs_types.specs.Access.{allows, fault_code}
use Rattle.vs_types.specs.Codes.{rights_code}
use Rattle.vs_types.specs.Page.{bytes_of, level_of}
use Rattle.vs_types.specs.Step.{allow_in_page}
use Rattle.vs_types.specs.declared.addresses.access.Access.{Access}
use Rattle.vs_types.specs.declared.addresses.access.Mode.{Mode}
use Rattle.vs_types.specs.declared.requests.answer.Answer.{Answer}
use Rattle.vs_types.specs.declared.requests.answer.Answer.TheVariants.{Allowed, Fault}
use Rattle.vs_types.specs.declared.addresses.page.Rights.{Rights}
use Rattle.vs_types.specs.declared.addresses.page.Size.{Size}
use Rattle.vs_types.specs.declared.addresses.page.Size.TheVariants.{K4, M2, G1}
use Rattle.nr_trace.proofs.LawsOfUnits.{rights_from, rights_back}
use Rattle.nr_touch.specs.declared.changes.change.Change.{Change}
use Rattle.nr_touch.specs.declared.changes.change.PlacedChange.{PlacedChange}
use Rattle.nr_touch.specs.declared.changes.history.History.{History}
use Rattle.nr_touch.specs.declared.changes.sights.Sight.{Sight}
use Rattle.nr_touch.specs.declared.touches.touch.Touch.{Touch}
use Rattle.nr_touch.specs.inside.Changes.{number_at, page_before}
use Rattle.nr_touch.specs.inside.Columns.{AreColumns, Covers, IsOf}
use Rattle.nr_touch.specs.inside.Sights.{HasRights, HasSight, IsAnsweredBetween, IsLike, kind_of, kind_sight_of, sight_of}
use Rattle.nr_touch.proofs.Sighted.{contains_map, map_contains}
use Rattle.nr_touch.proofs.Sizes.{by_size, covered_numbered}

-- ---- which looks answer an access so

same_rights : (p q : Rights) → rights_code p + 1 ≡ rights_code q + 1 → p ≡ q
same_rights p q e = sym (rights_back p) ∙ ap rights_from (let one : rights_code p ≡ rights_code q = omega (arith, e) in one) ∙ rights_back q

module _ (change : Change) (a : ℕ) (mode : Mode) (access : Access) where
  -- in the page, if its rights allow the access, or don't
  abbrev answer_by : Bool → Answer
  answer_by allowed = cond allowed (Allowed (change.page.phys + (a - change.page.base))) (Fault (fault_code true mode access))

  abbrev answer : Answer
  answer = allow_in_page a mode access (page_before change)

  of_none : kind_of change ≡ 0 → answer ≡ Fault (fault_code false mode access)
  of_none kind = by change.was_mapped kind where
    by : (mapped : Bool) → cond mapped (rights_code change.page.rights + 1) 0 ≡ 0
        → allow_in_page a mode access (cond mapped (Some change.page) None) ≡ Fault (fault_code false mode access)
    by true k = absurd (omega (arith, k))
    by false k = refl

  of_rights : (rights : Rights) (allowed : Bool) → kind_of change ≡ rights_code rights + 1 → allows rights mode access ≡ allowed → answer ≡ answer_by allowed
  of_rights rights allowed kind so = by change.was_mapped kind where
    by : (mapped : Bool) → cond mapped (rights_code change.page.rights + 1) 0 ≡ rights_code rights + 1
        → allow_in_page a mode access (cond mapped (Some change.page) None) ≡ answer_by allowed
    by true k = ap answer_by (ap (λ r. allows r mode access) (same_rights change.page.rights rights k) ∙ so)
    by false k = absurd (omega (arith, k))

  -- no page was there, or one with such rights
  abbrev IsKind : Bool → Type 0
  IsKind allowed = (allows change.page.rights mode access ≡ allowed) × (kind_of change ≡ rights_code change.page.rights + 1) × (answer ≡ answer_by allowed)

  kinds : ((kind_of change ≡ 0) × (answer ≡ Fault (fault_code false mode access))) ⊎ (IsKind true ⊎ IsKind false)
  kinds = elim change.was_mapped as (λ mapped. change.was_mapped ≡ mapped → ((kind_of change ≡ 0) × (answer ≡ Fault (fault_code false mode access)))
      ⊎ (IsKind true ⊎ IsKind false)) [
        | false ↦ λ e. inl (ap kind_by e, ap look_by e)
        | true ↦ λ e. elim (cases_Bool (allows change.page.rights mode access)) [
          | inl so ↦ inr (inl (so, ap kind_by e, ap look_by e ∙ ap answer_by so))
          | inr so ↦ inr (inr (so, ap kind_by e, ap look_by e ∙ ap answer_by so))
        ]
      ] refl where
        kind_by : Bool → ℕ
        kind_by mapped = cond mapped (rights_code change.page.rights + 1) 0

        look_by : Bool → Answer
        look_by mapped = allow_in_page a mode access (cond mapped (Some change.page) None)

-- how far behind its base the address lies in the page of a size
offset_in : (s t : Size) (base a : ℕ) → base % bytes_of s ≡ 0 → base + level_of s ≡ number_at a t → a - base ≡ a % bytes_of t
offset_in K4 K4 base a aligned e = omega arith
offset_in M2 M2 base a aligned e = omega arith
offset_in G1 G1 base a aligned e = omega arith
offset_in _ _ base a aligned e = absurd (omega arith)

-- ---- in the pages of one size

abbrev pub sight_from : ℕ → ℕ → ℕ → Sight
sight_from number phys first = record { number = number; phys = phys; kind = 0; place = first }

module _ (h : History) (are : AreColumns h) (touch : Touch) (size : Size) (first last : ℕ) where
  abbrev pub Between : Type 0
  Between = IsAnsweredBetween h.changes.items (IsOf (number_at touch.address size)) touch first last

  offset : (c : PlacedChange) → Contains h.changes.items c → IsOf (number_at touch.address size) c
      → touch.address - c.change.page.base ≡ touch.address % bytes_of size
  offset c has of =
      let is = are.numbered c has in
      offset_in c.change.page.size size c.change.page.base touch.address is.aligned (sym is.number ∙ of)

  -- a sight in a list is that of a change, and the other way round
  module _ (f : PlacedChange → Sight) (sights : List Sight) (same : IsPermutation (map f h.changes.items) sights)
      (placed : (c : PlacedChange) → (f c).place ≡ c.place) (from : Sight) where
    of_sight : HasSight sights from last → (c : PlacedChange) × Contains h.changes.items c × IsLike from (f c) × (from.place ≤ c.place) × (c.place < last)
    of_sight (s, has, like, low, high) =
        let (c, own, is) = map_contains f h.changes.items s
        (Contains-permutation sights (map f h.changes.items) s (IsPermutation-sym (map f h.changes.items) sights same) has) in
        let at : c.place ≡ s.place = sym (placed c) ∙ ap (λ (t : Sight). t.place) is in
        (c, own, subst (IsLike from) (sym is) like, omega (arith, at, low), omega (arith, at, high))

    to_sight : (c : PlacedChange) → Contains h.changes.items c → IsLike from (f c) → from.place ≤ c.place → c.place < last → HasSight sights from last
    to_sight c has like low high =
        let at = placed c in
        let listed = Contains-permutation (map f h.changes.items) sights (f c) same (contains_map f h.changes.items c has) in
        (f c, listed, like, omega (arith, at, low), omega (arith, at, high))

  module _ (x : ℕ) (is : touch.answer ≡ Allowed x) where
    -- a page in which the access is allowed so
    with_page : (c : PlacedChange) → touch.answer ≡ allow_in_page touch.address touch.mode touch.access (page_before c.change)
        → IsKind c.change touch.address touch.mode touch.access true × (x ≡ c.change.page.phys + (touch.address - c.change.page.base))
    with_page c answered = elim (kinds c.change touch.address touch.mode touch.access) [
      | inl none ↦ absurd (let look = none.1 in cc)
      | inr (inl some) ↦ (some, let look = some.2 in cc)
      | inr (inr some) ↦ absurd (let look = some.2 in cc)
    ]

    pub none_allowed : x < touch.address % bytes_of size → Between → ⊥
    none_allowed less (c, has, of, low, high, answered) =
        let at = (with_page c answered).1 in let far = offset c has of in omega (arith, at, far, less)

    module _ (number phys : ℕ) (numbered : number ≡ number_at touch.address size) (at : phys ≡ x - touch.address % bytes_of size)
        (up : touch.address % bytes_of size ≤ x) where
      pub allowed_forth : HasRights h.sights.exact.items (sight_from number phys first) last touch true → Between
      allowed_forth (rights, so, some) =
          let (c, has, like, low, high) = of_sight sight_of h.sights.exact.items are.sights.exact (λ c. refl)
          (record (sight_from number phys first) { kind = rights_code rights + 1 }) some in
          let of = like.number ∙ numbered in
          let far = offset c has of in
          let there : x ≡ c.change.page.phys + (touch.address - c.change.page.base) = omega (arith, like.phys, far, at, up) in
          (c, has, of, low, high, is ∙ ap (λ n. Allowed n) there ∙ sym (of_rights c.change touch.address touch.mode touch.access rights true like.kind so))

      pub allowed_back : Between → HasRights h.sights.exact.items (sight_from number phys first) last touch true
      allowed_back (c, has, of, low, high, answered) =
          let ((so, kind, look), there) = with_page c answered in
          let far = offset c has of in
          let some = to_sight sight_of h.sights.exact.items are.sights.exact (λ c. refl)
          (record (sight_from number phys first) { kind = rights_code c.change.page.rights + 1 }) c has
          (record { number = of ∙ sym numbered; phys = omega (arith, there, far, at); kind = kind }) low high in
          (c.change.page.rights, so, some)

  module _ (code : ℕ) (is : touch.answer ≡ Fault code) where
    -- where no page was there, or one in which the access isn't allowed
    fault_of : (c : PlacedChange) → touch.answer ≡ allow_in_page touch.address touch.mode touch.access (page_before c.change)
        → ((kind_of c.change ≡ 0) × (code ≡ fault_code false touch.mode touch.access))
        ⊎ (IsKind c.change touch.address touch.mode touch.access false × (code ≡ fault_code true touch.mode touch.access))
    fault_of c answered = elim (kinds c.change touch.address touch.mode touch.access) [
      | inl none ↦ inl (none.0, let look = none.1 in cc)
      | inr (inl some) ↦ absurd (let look = some.2 in cc)
      | inr (inr some) ↦ inr (some, let look = some.2 in cc)
    ]

    module _ (number : ℕ) (numbered : number ≡ number_at touch.address size) where
      pub unmapped_forth : code ≡ fault_code false touch.mode touch.access → HasSight h.sights.kinds.items (sight_from number 0 first) last → Between
      unmapped_forth none some =
          let (c, has, like, low, high) = of_sight kind_sight_of h.sights.kinds.items are.sights.kinds (λ c. refl) (sight_from number 0 first) some in
          (c, has, like.number ∙ numbered, low, high, is ∙ ap (λ n. Fault n) none ∙ sym (of_none c.change touch.address touch.mode touch.access like.kind))

      pub unmapped_back : code ≡ fault_code false touch.mode touch.access → Between → HasSight h.sights.kinds.items (sight_from number 0 first) last
      unmapped_back none (c, has, of, low, high, answered) = elim (fault_of c answered) [
        | inl (kind, so) ↦ to_sight kind_sight_of h.sights.kinds.items are.sights.kinds (λ c. refl) (sight_from number 0 first) c has
            (record { number = of ∙ sym numbered; phys = refl; kind = kind }) low high
        | inr (some, so) ↦ absurd (omega (arith, none, so))
      ]

      pub refused_forth : code ≡ fault_code true touch.mode touch.access → HasRights h.sights.kinds.items (sight_from number 0 first) last touch false → Between
      refused_forth page (rights, so, some) =
          let (c, has, like, low, high) = of_sight kind_sight_of h.sights.kinds.items are.sights.kinds (λ c. refl)
          (record (sight_from number 0 first) { kind = rights_code rights + 1 }) some in
          let look = of_rights c.change touch.address touch.mode touch.access rights false like.kind so in
          (c, has, like.number ∙ numbered, low, high, is ∙ ap (λ n. Fault n) page ∙ sym look)

      pub refused_back : code ≡ fault_code true touch.mode touch.access → Between → HasRights h.sights.kinds.items (sight_from number 0 first) last touch false
      refused_back page (c, has, of, low, high, answered) = elim (fault_of c answered) [
        | inl (kind, so) ↦ absurd (omega (arith, page, so))
        | inr ((so, kind, look), too) ↦
            let some = to_sight kind_sight_of h.sights.kinds.items are.sights.kinds (λ c. refl)
            (record (sight_from number 0 first) { kind = rights_code c.change.page.rights + 1 }) c has
            (record { number = of ∙ sym numbered; phys = refl; kind = kind }) low high in
            (c.change.page.rights, so, some)
      ]

    pub none_refused : (code ≡ fault_code false touch.mode touch.access → ⊥) → (code ≡ fault_code true touch.mode touch.access → ⊥) → Between → ⊥
    none_refused no_page no_rights (c, has, of, low, high, answered) = elim (fault_of c answered) [
      | inl none ↦ no_page none.1
      | inr some ↦ no_rights some.1
    ]

-- ---- in the pages of three sizes

module _ (h : History) (are : AreColumns h) (touch : Touch) (first last : ℕ) where
  abbrev pub OfAddress : Type 0
  OfAddress = IsAnsweredBetween h.changes.items (Covers touch.address) touch first last

  pub of_size : (size : Size) → Between h are touch size first last → OfAddress
  of_size size (c, has, of, low, high, answered) =
      (c, has, covered_numbered c touch.address size (are.numbered c has) of, low, high, answered)

  pub in_sizes : (P : Type 0) → (Between h are touch K4 first last → P) → (Between h are touch M2 first last → P)
      → (Between h are touch G1 first last → P) → OfAddress → P
  in_sizes P small large huge (c, has, covered, low, high, answered) =
      by_size h.changes.items are.numbered touch.address (λ d. P) c has covered (λ of. small (c, has, of, low, high, answered))
      (λ of. large (c, has, of, low, high, answered)) (λ of. huge (c, has, of, low, high, answered))
