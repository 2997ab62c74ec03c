-- Changes that are undone: the space before them.
use Rattle.std.proofs.Common.{◌≡◌, ◌≢◌, ℕ, ◌+◌, ◌<◌, ◌%◌, cond, inl, inr, true, false, List, [], ◌∷◌, ◌++◌, length, take, get_or, Option, Some, None, IsTrue}
use Rattle.std.proofs.Common.{Contains, refl, sym, ap, ◌∙◌, subst, arith}
use Rattle.std.specs.Prelude.{map, option_to_list}
use Rattle.std.specs.FinMap as finite
use Rattle.std.specs.Cmp.{nat_cmp_total}
use Rattle.std.proofs.lemmas.Bool.{cases_eq}
use Rattle.std.proofs.lemmas.List.{append-nil, map-append, take_more}
use Rattle.std.proofs.lemmas.List.Elements.{Contains-push_cases}
use Rattle.vs_types.specs.declared.addresses.depth.Depth.{Depth}
use Rattle.vs_types.specs.declared.addresses.page.Page.{Page}
use Rattle.vs_types.specs.declared.requests.op.Action.TheVariants.{Unmap}
use Rattle.vs_types.specs.declared.limits.TheConstants.{LOG_PLACES}
use Rattle.vs_types.specs.declared.addresses.page.Size.TheVariants.{K4}
use Rattle.vs_types.specs.declared.addresses.page.Size.{Size}
use Rattle.vs_types.specs.Operation.{IsBase}
use Rattle.vs_types.specs.Page.{bytes_of, covers, IsPage}
use Rattle.vs_types.specs.Space.{Space, Holds, IsSpace, page_at, least_overlapped}
use Rattle.vs_types.specs.Step.{step}
use Rattle.vs_types.proofs.Maps.{get-insert_other, get-remove_other, get-remove_same}
use Rattle.vs_types.proofs.Overlaps.{none_overlapped}
use Rattle.vs_types.proofs.Pages.{covers_base, overlaps_shares}
use Rattle.vs_types.proofs.Spaces.{page_at_means, put_back, remove_cases, remove_space}
use Rattle.vs_types.proofs.Steps.{unmap_cases}
use Rattle.vs_plain.specs.Plain.{BoundedSpace}
use Rattle.nr_touch.specs.inside.Changes.{page_before, listed, number_of, IsChange}
use Rattle.nr_touch.specs.inside.Columns.{IsNumbered}
use Rattle.nr_touch.specs.inside.Undo.{ComesFrom, LeadsTo}
use Rattle.nr_touch.specs.declared.changes.change.Change.{Change}
use Rattle.nr_touch.specs.declared.changes.change.PlacedChange.{PlacedChange}
use Rattle.nr_touch.proofs.Replayed.{page_ends}

-- ---- spaces by what begins at each base

same_space : (s t : Space) → ((q : ℕ) → finite.get s q ≡ finite.get t q) → s ≡ t
same_space s t same = finite.same_map nat_cmp_total finite.nat_cmp-IsAntisymmetric s t same

-- where no page begins at a base, none is taken away
pub remove_none : (space : Space) (base : ℕ) → finite.get space base ≡ None → finite.remove space base ≡ space
remove_none space base none = same_space (finite.remove space base) space (λ q. elim (cases_eq q base) [
  | inl same ↦ subst (λ k. finite.get (finite.remove space base) k ≡ finite.get space k) (sym same) (get-remove_same space base ∙ sym none)
  | inr differs ↦ get-remove_other space base q differs
])

-- a page that is put at a base, or what begins there taken away, changes nothing elsewhere
pub insert_elsewhere : (space : Space) (base : ℕ) (page : Page) → finite.remove (finite.insert space base page) base ≡ finite.remove space base
insert_elsewhere space base page = same_space _ _ (λ q. elim (cases_eq q base) [
  | inl same ↦ subst (λ k. finite.get (finite.remove (finite.insert space base page) base) k ≡ finite.get (finite.remove space base) k) (sym same)
      (get-remove_same (finite.insert space base page) base ∙ sym (get-remove_same space base))
  | inr differs ↦ get-remove_other (finite.insert space base page) base q differs ∙ get-insert_other space base page q differs
      ∙ sym (get-remove_other space base q differs)
])

pub remove_elsewhere : (space : Space) (base : ℕ) → finite.remove (finite.remove space base) base ≡ finite.remove space base
remove_elsewhere space base = remove_none (finite.remove space base) base (get-remove_same space base)

module _ {depth : Depth} {space : Space} (is : IsSpace depth space) where
  -- where the page at a base begins elsewhere, or none is there, none begins there
  none_begins : (base : ℕ) → ((page : Page) → page_at space base ≡ Some page → page.base ≢ base) → finite.get space base ≡ None
  none_begins base none = elim (finite.get space base) as (λ o. finite.get space base ≡ o → o ≡ None) [
    | None ↦ λ e. refl
    | Some page ↦ λ e.
        let begins = is.under_base base page e in
        let holds : Holds space page = subst (λ k. finite.get space k ≡ Some page) (sym begins) e in
        let covered : IsTrue (covers page base) = subst (λ a. IsTrue (covers page a)) begins (covers_base page) in
        absurd (none page ((page_at_means is base page).1 (holds, covered)) begins)
  ] refl

  -- an unmap takes away the page that begins at the base, if one does
  pub unmapped : (limit : ℕ) (base : ℕ) → (step depth limit space (Unmap base)).space ≡ finite.remove space base
  unmapped limit base = unmap_cases (λ s. s.space ≡ finite.remove space base) depth limit space base
      (λ none. sym (remove_none space base (none_begins base (λ page at. absurd (cc)))))
      (λ page at begins. refl)
      (λ page at differs. sym (remove_none space base (none_begins base (λ other there begins.
      let one : other ≡ page = cc in differs (subst (λ (p : Page). p.base ≡ base) one begins)))))

  -- two spaces in which each address looks the same are one
  pub looks_same : {after : Space} → IsSpace depth after → ((address : ℕ) → page_at space address ≡ page_at after address) → space ≡ after
  looks_same {after} new same = same_space space after (λ q. elim (finite.get space q) as (λ o. finite.get space q ≡ o → o ≡ finite.get after q) [
    | Some page ↦ λ e. sym (there is new q page (same q) e)
    | None ↦ λ e. elim (finite.get after q) as (λ o. finite.get after q ≡ o → None ≡ o) [
      | None ↦ λ none. refl
      | Some page ↦ λ some. let back = there new is q page (sym (same q)) some in cc
    ] refl
  ] refl) where
    there : {s t : Space} → IsSpace depth s → IsSpace depth t → (q : ℕ) (page : Page) → page_at s q ≡ page_at t q → finite.get s q ≡ Some page
        → finite.get t q ≡ Some page
    there {s} {t} s_is t_is q page same e =
        let begins = s_is.under_base q page e in
        let holds : Holds s page = subst (λ k. finite.get s k ≡ Some page) (sym begins) e in
        let covered : IsTrue (covers page q) = subst (λ a. IsTrue (covers page a)) begins (covers_base page) in
        let at = (page_at_means s_is q page).1 (holds, covered) in
        subst (λ k. finite.get t k ≡ Some page) begins ((page_at_means t_is q page).0 (sym same ∙ at)).0

page_part : (size : Size) (n : ℕ) → n % bytes_of size ≡ 0 → n % 4096 ≡ 0
page_part K4 n e = omega arith
page_part _ n e = omega arith

-- a page begins where an unmap may name it
pub page_base : (depth : Depth) (page : Page) → IsPage depth page → IsBase depth page.base
page_base depth page good = record { canonical = good.canonical; aligned = page_part page.size page.base good.aligned }

pub same_bounded : (s t : BoundedSpace) → s.depth ≡ t.depth → s.limit ≡ t.limit → s.space ≡ t.space → s ≡ t
same_bounded s t depth limit space = λ i. record { depth = depth i; limit = limit i; space = space i }

-- ---- one change

module _ {depth : Depth} {before after : Space} (change : Change) (from : ComesFrom depth before after change) where
  at_base : page_at before change.page.base ≡ page_before change
  at_base = from.changed.was change.page.base (covers_base change.page)

  pub page_goes : change.was_mapped ≡ false → finite.remove after change.page.base ≡ before
  page_goes fresh =
      from.changed.elsewhere
      ∙ remove_none before change.page.base (none_begins from.is_space change.page.base (λ page at begins.
      let none : page_at before change.page.base ≡ None = at_base ∙ ap (λ b. cond b (Some change.page) None) fresh in
      absurd (cc)))

  module _ (mapped : change.was_mapped ≡ true) where
    holds : Holds before change.page
    holds = ((page_at_means from.is_space change.page.base change.page).0 (at_base ∙ ap (λ b. cond b (Some change.page) None) mapped)).0

    pub page_comes_back : finite.insert (finite.remove after change.page.base) change.page.base change.page ≡ before
    page_comes_back = ap (λ s. finite.insert s change.page.base change.page) from.changed.elsewhere ∙ put_back before change.page holds

    pub page_is_free : least_overlapped (finite.remove after change.page.base) change.page ≡ None
    page_is_free = subst (λ s. least_overlapped s change.page ≡ None) (sym from.changed.elsewhere)
        (none_overlapped (remove_space from.is_space change.page.base) change.page (λ other there overlapped.
        let (differs, was) = remove_cases before change.page.base other.base other there in
        let (address, here, too) = (overlaps_shares change.page other).0 overlapped in
        differs (ap (λ (p : Page). p.base) (sym (from.is_space.apart change.page other address holds was here too)))))

-- ---- one after another

pub leads_on : (depth : Depth) (before : Space) (changes : List Change) (next : Space) (more : List Change) (after : Space)
    → LeadsTo depth before changes next → LeadsTo depth next more after → LeadsTo depth before (changes ++ more) after
leads_on depth before [] next more after same leads = subst (λ s. LeadsTo depth s more after) (sym same) leads
leads_on depth before (change ∷ changes) next more after (mid, from, rest) leads = (mid, from, leads_on depth mid changes next more after rest leads)

pub last_led : (depth : Depth) (before : Space) (changes : List Change) (change : Change) (after : Space)
    → LeadsTo depth before (changes ++ change ∷ []) after → (next : Space) × LeadsTo depth before changes next × ComesFrom depth next after change
last_led depth before [] change after (next, from, same) = (before, refl, subst (λ s. ComesFrom depth before s change) same from)
last_led depth before (first ∷ changes) change after (mid, from, rest) =
    let (next, leads, last) = last_led depth mid changes change after rest in
    (next, (mid, from, leads), last)

-- what an update changes leads from the space before it to the one after it
pub change_leads : {depth : Depth} {before after : Space} → IsSpace depth before → IsSpace depth after → (change : Option Change)
    → IsChange depth before after change → LeadsTo depth before (option_to_list change) after
change_leads is new None same = looks_same is new same
change_leads {after = after} is new (Some change) changed = (after, record { is_space = is; changed = changed }, refl)

listed_changes : (change : Option Change) (place made answered : ℕ)
    → map (λ (c : PlacedChange). c.change) (listed change place made answered) ≡ option_to_list change
listed_changes None place made answered = refl
listed_changes (Some change) place made answered = refl

-- what is listed of one place more leads one step on
pub listed_leads : (depth : Depth) (before : Space) (changes : List PlacedChange) (next after : Space) (change : Option Change) (place made answered : ℕ)
    → LeadsTo depth before (map (λ (c : PlacedChange). c.change) changes) next → LeadsTo depth next (option_to_list change) after
    → LeadsTo depth before (map (λ (c : PlacedChange). c.change) (changes ++ listed change place made answered)) after
listed_leads depth before changes next after change place made answered leads more =
    let all : map (λ (c : PlacedChange). c.change) (changes ++ listed change place made answered)
    ≡ map (λ (c : PlacedChange). c.change) changes ++ option_to_list change =
    map-append (λ (c : PlacedChange). c.change) changes (listed change place made answered)
    ∙ ap (λ (cs : List Change). map (λ (c : PlacedChange). c.change) changes ++ cs) (listed_changes change place made answered) in
    subst (λ (cs : List Change). LeadsTo depth before cs after) (sym all)
    (leads_on depth before (map (λ (c : PlacedChange). c.change) changes) next (option_to_list change) after leads more)

-- and has its numbers
pub listed_numbered : (depth : Depth) (before after : Space) (changes : List PlacedChange) (place : ℕ) (change : Option Change) (made answered : ℕ)
    → place < LOG_PLACES → IsChange depth before after change → ((c : PlacedChange) → Contains changes c → IsNumbered c × (c.place < place))
    → (c : PlacedChange) → Contains (changes ++ listed change place made answered) c → IsNumbered c × (c.place < place + 1)
listed_numbered depth before after changes place None made answered few is old c has =
    let (numbered, low) = old c (subst (λ (cs : List PlacedChange). Contains cs c) (append-nil changes) has) in
    (numbered, omega (arith, low))
listed_numbered depth before after changes place (Some change) made answered few is old c has =
    elim (Contains-push_cases changes (record { change = change; number = number_of change.page; place = place; made = made; answered = answered }) c has) [
      | inl there ↦ let (numbered, low) = old c there in (numbered, omega (arith, low))
      | inr same ↦ subst (λ (d : PlacedChange). IsNumbered d × (d.place < place + 1)) same (
        record {
          number = refl;
          aligned = is.well_formed.aligned;
          ends = page_ends depth change.page is.well_formed;
          frame = is.well_formed.phys_aligned;
          low = let range = is.well_formed.phys_range in omega (arith, range);
          few = omega (arith, few);
        },
        omega arith,
      )
    ]

-- the last of some changes is the one before as many as are left
pub last_of : (depth : Depth) (before : Space) (changes : List Change) (left : ℕ) (d : Change) (after : Space) → left < length changes
    → LeadsTo depth before (take (left + 1) changes) after
    → (next : Space) × LeadsTo depth before (take left changes) next × ComesFrom depth next after (get_or changes left d)
last_of depth before changes left d after within leads =
    last_led depth before (take left changes) (get_or changes left d) after
    (subst (λ (cs : List Change). LeadsTo depth before cs after) (take_more changes left d within) leads)
