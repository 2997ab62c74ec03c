-- The pages that are listed are all that a touch may find, and have room.
use Rattle.std.proofs.Common.{◌∙◌, ◌≡◌, ℕ, ◌++◌, ◌⊎◌, inl, inr, List, [], map, Contains, sym, subst}
use Rattle.std.proofs.lemmas.List.Elements.{Contains-append_cases, Contains-append_left, Contains-append_right}
use Rattle.vs_types.specs.Space.{Space, pages, IsSpace}
use Rattle.vs_types.specs.declared.addresses.depth.Depth.{Depth}
use Rattle.vs_types.specs.declared.addresses.page.Page.{Page}
use Rattle.vs_types.proofs.Spaces.{holds_listed}
use Rattle.nr_touch.specs.inside.Columns.{IsNumbered}
use Rattle.nr_touch.specs.inside.Joined.{IsBuilt}
use Rattle.nr_touch.specs.inside.Reached.{seen_before, seen_left, seen_now, AreSeen, IsRoomy}
use Rattle.nr_touch.specs.declared.changes.change.PlacedChange.{PlacedChange}
use Rattle.nr_touch.specs.declared.releases.seen.Seen.{Seen}
use Rattle.nr_touch.specs.declared.touches.joined.Joined.{Joined}
use Rattle.vs_types.proofs.Lists.{not_in_nil}
use Rattle.nr_touch.proofs.IndexedPages.{roomy_page}
use Rattle.nr_touch.proofs.Sighted.{contains_map, map_contains}

roomy_change : (c : PlacedChange) → IsNumbered c → IsRoomy c.change.page
roomy_change c is = record { base = is.aligned; frame = is.frame; ends = is.ends; low = is.low }

-- the pages of a space have room
pub roomy_pages : {depth : Depth} {space : Space} → IsSpace depth space → (page : Page) → Contains (pages space) page → IsRoomy page
roomy_pages is_space page listed = roomy_page is_space page ((holds_listed is_space page).0 listed)

-- pages that are listed one by one
of_map : {X : Type 0} (f : X → Seen) (xs : List X) → ((x : X) → Contains xs x → IsRoomy (f x).page) → (s : Seen) → Contains (map f xs) s → IsRoomy s.page
of_map f xs roomy s has = let (x, listed, same) = map_contains f xs s has in subst (λ (q : Seen). IsRoomy q.page) same (roomy x listed)

module _ {joined : Joined} (built : IsBuilt joined) (present : List Page) (roomy_present : (page : Page) → Contains present page → IsRoomy page) where
  abbrev own : List PlacedChange
  own = joined.history.changes.items

  abbrev now : List Seen
  now = map (seen_now joined.places) present

  abbrev before : List Seen
  before = map seen_before own

  own_plain : AreSeen joined [] present (now ++ before)
  own_plain = record {
    present = λ page has. Contains-append_left now before (seen_now joined.places page) (contains_map (seen_now joined.places) present page has);
    before = λ c has. Contains-append_right now before (seen_before c) (contains_map seen_before own c has);
    left = λ c has. absurd (not_in_nil c has);
    roomy = λ s has. elim (Contains-append_cases now before s has) [
      | inl first ↦ of_map (seen_now joined.places) present roomy_present s first
      | inr then ↦ of_map seen_before own (λ c listed. roomy_change c (built.own.numbered c listed)) s then
    ];
  }

  -- as they are listed
  pub own_seen : (first then seen : List Seen) → first ≡ now → then ≡ before → seen ≡ first ++ then → AreSeen joined [] present seen
  own_seen first then seen first_is then_is is =
      subst (λ (xs : List Seen). AreSeen joined [] present xs) (sym (is ∙ (λ i. first_is i ++ then_is i))) own_plain

-- with those that earlier segments left behind them
pub all_seen : (joined : Joined) (earlier : List PlacedChange) (present : List Page) → ((c : PlacedChange) → Contains earlier c → IsNumbered c)
    → (front seen : List Seen) → AreSeen joined [] present front → seen ≡ front ++ map seen_left earlier → AreSeen joined earlier present seen
all_seen joined earlier present numbered front seen are is = subst (λ (xs : List Seen). AreSeen joined earlier present xs) (sym is) (record {
  present = λ page has. Contains-append_left front (map seen_left earlier) (seen_now joined.places page) (are.present page has);
  before = λ c has. Contains-append_left front (map seen_left earlier) (seen_before c) (are.before c has);
  left = λ c has. Contains-append_right front (map seen_left earlier) (seen_left c) (contains_map seen_left earlier c has);
  roomy = λ s has. elim (Contains-append_cases front (map seen_left earlier) s has) [
    | inl first ↦ are.roomy s first
    | inr last ↦ of_map seen_left earlier (λ c listed. roomy_change c (numbered c listed)) s last
  ];
})

-- all pages of a space and the ones before the changes: one list behind another
abbrev pub listed_seen : Joined → List Seen
listed_seen joined = map (seen_now joined.places) (pages joined.space.space) ++ map seen_before joined.history.changes.items

pub plain_seen : {joined : Joined} → IsBuilt joined → AreSeen joined [] (pages joined.space.space) (listed_seen joined)
plain_seen {joined} built = own_plain built (pages joined.space.space) (roomy_pages built.is_space)

-- a page of that list is one of the two
pub split : (joined : Joined) (s : Seen) → Contains (listed_seen joined) s
    → Contains (map seen_before joined.history.changes.items) s ⊎ ((page : Page) × Contains (pages joined.space.space) page × (s ≡ seen_now joined.places page))
split joined s has =
    elim (Contains-append_cases (map (seen_now joined.places) (pages joined.space.space)) (map seen_before joined.history.changes.items) s has) [
      | inl first ↦ (let (page, listed, same) = map_contains (seen_now joined.places) (pages joined.space.space) s first in inr (page, listed, sym same))
      | inr then ↦ inl then
    ]
