-- A touch that finds memory finds it in a page that is seen, which is alive; and a touch of the same frame would be right too.
use Rattle.std.proofs.Common.{◌≡◌, ℕ, ◌+◌, ◌*◌, ◌-◌, ◌/◌, ◌%◌, ◌<◌, ◌≤◌, ◌^◌, ◌&&◌, ◌⊎◌, inl, inr, Bool, true, false, cond, not, nat_lt, List, length, Option, Some, None}
use Rattle.std.proofs.Common.{Contains, IsTrue, refl, sym, ap, ◌∙◌, subst, arith}
use Rattle.std.proofs.Math.Seq.{take-length}
use Rattle.std.proofs.lemmas.Bool.{cases_lt}
use Rattle.std.proofs.lemmas.Bool.Decides.{nat_tests}
use Rattle.std.proofs.lemmas.Option.{same_Some}
use Rattle.vs_types.specs.Access.{allows, fault_code}
use Rattle.vs_types.specs.Page.{bytes_of, covers}
use Rattle.vs_types.specs.Space.{Space, page_at, pages}
use Rattle.vs_types.specs.Step.{allow_in_page}
use Rattle.vs_types.specs.declared.addresses.access.Access.{Access}
use Rattle.vs_types.specs.declared.addresses.access.Access.TheVariants.{Read}
use Rattle.vs_types.specs.declared.addresses.access.Mode.{Mode}
use Rattle.vs_types.specs.declared.addresses.access.Mode.TheVariants.{Supervisor}
use Rattle.vs_types.specs.declared.requests.answer.Answer.TheVariants.{Allowed, Fault}
use Rattle.vs_types.specs.declared.addresses.page.Page.{Page}
use Rattle.vs_types.proofs.Pages.{covers_means}
use Rattle.vs_types.proofs.Spaces.{holds_listed, page_at_means}
use Rattle.nr_trace.specs.Orders.{space_from}
use Rattle.nr_touch.specs.Releases.{HasPhys, IsReachable}
use Rattle.nr_touch.specs.Touches.{page_after, ChangesLook, EndsLook, IsAllowedPrefix, IsAnsweredBefore, IsMadeAfter, IsRightTouch, IsRightBehind, TakesAway}
use Rattle.nr_touch.specs.inside.Changes.{number_of, page_before, taken_at}
use Rattle.nr_touch.specs.inside.Columns.{Covers, IsNumbered, IsOf}
use Rattle.nr_touch.specs.inside.Alike.{AreAlike}
use Rattle.nr_touch.specs.inside.Earlier.{EndsNowhere, IsLeftAt}
use Rattle.nr_touch.specs.inside.Joined.{Behind, IsBuilt}
use Rattle.nr_touch.specs.inside.Levels.{left_in}
use Rattle.nr_touch.specs.inside.Reached.{probe_at, seen_before, seen_left, seen_now, AreSeen, IsAlive, FindsAt, IsMetAt, IsOpen, IsOpenThere, IsRoomy, IsSamePlace, LeadsBelow, LeadsSo, LeadsThere}
use Rattle.nr_touch.specs.declared.changes.change.Change.{Change}
use Rattle.nr_touch.specs.declared.changes.change.PlacedChange.{PlacedChange}
use Rattle.nr_touch.specs.declared.releases.release.Release.{Release}
use Rattle.nr_touch.specs.declared.releases.seen.Seen.{Seen}
use Rattle.nr_touch.specs.declared.touches.joined.Joined.{Joined}
use Rattle.nr_touch.specs.declared.touches.touch.Touch.{Touch}
use Rattle.nr_touch.proofs.Blocks.{frame_covered, in_frame, of_frames}
use Rattle.nr_touch.proofs.cuts.Ended.{change_within, ended_before, ends_changes}
use Rattle.nr_touch.proofs.cuts.Tails.{parts_of}
use Rattle.nr_touch.proofs.NextChanges.{first_within, same_within, FirstWithin, NoneWithin}
use Rattle.nr_touch.proofs.Sizes.{covered_numbered, own_number}

-- ---- which pages answer so

found_page : (phys a : ℕ) (mode : Mode) (access : Access) (page : Option Page) → Allowed phys ≡ allow_in_page a mode access page
    → (own : Page) × (page ≡ Some own) × (phys ≡ own.phys + (a - own.base))
found_page phys a mode access None e = absurd (cc)
found_page phys a mode access (Some own) e = by (allows own.rights mode access) e where
  by : (b : Bool) → Allowed phys ≡ cond b (Allowed (own.phys + (a - own.base))) (Fault (fault_code true mode access))
      → (it : Page) × (Some own ≡ Some it) × (phys ≡ it.phys + (a - it.base))
  by true e = (own, refl, cc)
  by false e = absurd (cc)

probed : (a : ℕ) (page : Page) → Allowed (page.phys + (a - page.base)) ≡ allow_in_page a Supervisor Read (Some page)
probed a page = refl

pub was_there : (change : Change) (page : Page) → page_before change ≡ Some page → (change.was_mapped ≡ true) × (change.page ≡ page)
was_there change page e = by change.was_mapped e where
  by : (b : Bool) → cond b (Some change.page) None ≡ Some page → (b ≡ true) × (change.page ≡ page)
  by true e = (refl, same_Some change.page page e)
  by false e = absurd (cc)

-- ---- the changes of a segment

-- all addresses of a frame have the same changes
alike_covers : (c : PlacedChange) (a b : ℕ) → IsNumbered c → a / 4096 ≡ b / 4096 → Covers a c → Covers b c
alike_covers c a b is same covered =
    let at = (covers_means c.change.page a).0 covered in
    (covers_means c.change.page b).1 (frame_covered c.change.page.size c.change.page.base a b is.aligned same at.0 at.1)

frame_alike : (changes : List PlacedChange) → ((c : PlacedChange) → Contains changes c → IsNumbered c) → (a b : ℕ) → a / 4096 ≡ b / 4096
    → AreAlike changes a b
frame_alike changes numbered a b same c has = (alike_covers c a b (numbered c has) same, alike_covers c b a (numbered c has) (sym same))

alike_back : (changes : List PlacedChange) (a b : ℕ) → AreAlike changes a b → AreAlike changes b a
alike_back changes a b alike c has = ((alike c has).1, (alike c has).0)

-- pages of one place have the same addresses
same_covers : (page other : Page) (a : ℕ) → IsSamePlace page other → IsTrue (covers page a) → IsTrue (covers other a)
same_covers page other a same covered =
    let at = (covers_means page a).0 covered in
    let size : bytes_of page.size ≡ bytes_of other.size = ap bytes_of same.size in
    let base = same.base in
    (covers_means other a).1 (omega (arith, at.0, base), omega (arith, at.1, base, size))

-- a change of the page's own has its addresses
own_covers : (page : Page) (a : ℕ) → page.base % bytes_of page.size ≡ 0 → IsTrue (covers page a) → (c : PlacedChange) → IsNumbered c
    → IsOf (number_of page) c → Covers a c
own_covers page a aligned covered c is of =
    let at = (covers_means page a).0 covered in
    covered_numbered c a page.size is (of ∙ own_number page.size page.base a aligned at.0 at.1)

-- a page that was seen and was alive, which has the address; from a number of entries on
record FoundPage (own : List PlacedChange) (seen : List Seen) (event a : ℕ) (page : Page) (n : ℕ) : Type 0 where
  pub s : Seen
  pub has : Contains seen s
  pub is : s.page ≡ page
  pub covered : IsTrue (covers page a)
  pub alive : IsAlive own s event
  pub from : n ≤ s.place

-- a frame of a page with room was left to look so, and is so at a release that has it
abbrev pub ReachedOpen : {joined : Joined} → Behind joined → Release → Type 0
ReachedOpen b release = (page : Page) × (frame : ℕ) × IsRoomy page × IsOpenThere b release page frame

-- the frame of an address of a page, which a release has
record InPage (release : Release) (page : Page) (a : ℕ) : Type 0 where
  pub frame : ℕ
  pub low : page.base + frame * 4096 ≤ a
  pub same : a / 4096 ≡ (page.base + frame * 4096) / 4096
  pub within : frame * 4096 < bytes_of page.size
  pub has : HasPhys release (page.phys + frame * 4096)

frame_in : (release : Release) (page : Page) (a phys : ℕ) → release.phys % bytes_of release.size ≡ 0 → IsRoomy page → IsTrue (covers page a)
    → phys ≡ page.phys + (a - page.base) → HasPhys release phys → InPage release page a
frame_in release page a phys aligned roomy covered is shared =
    let base = of_frames page.size page.base roomy.base in
    let frames = of_frames page.size page.phys roomy.frame in
    let memory = of_frames release.size release.phys aligned in
    let within = (covers_means page a).0 covered in
    let frame = (a - page.base) / 4096 in
    let so = in_frame page.base a base within.0 in
    let offset : frame * 4096 ≤ a - page.base = omega (arith, so.low, within.0) in
    record {
      frame = frame;
      low = omega (arith, offset, within.0);
      same = so.same;
      within = omega (arith, offset, within.0, within.1);
      has = (omega (arith, shared.0, is, frames, memory, so.high, within.0), omega (arith, shared.1, is, offset));
    }

-- a page that is seen and alive leads there at or below an address, and shares memory with the release
pub record ReachedPage {joined : Joined} (b : Behind joined) (seen : List Seen) (release : Release) (address : ℕ) : Type 0 where
  pub s : Seen
  pub has : Contains seen s
  pub alive : IsAlive joined.history.changes.items s release.made
  pub phys : ℕ
  pub shared : HasPhys release phys
  pub low : s.page.phys ≤ phys
  pub high : phys < s.page.phys + bytes_of s.page.size
  pub leads : LeadsBelow b release address s.page s.place

module _ {joined : Joined} (built : IsBuilt joined) (b : Behind joined) where
  abbrev own : List PlacedChange
  own = joined.history.changes.items

  abbrev earlier : List PlacedChange
  earlier = left_in joined.earlier.items

  pub changes_alike : (a other place : ℕ) → AreAlike own a other → ChangesLook b.start b.segment a place → ChangesLook b.start b.segment other place
  changes_alike a other place alike looks =
      let (c, has, at, covered) = b.own.all place a (change_within b.start b.segment a place looks) looks in
      subst (ChangesLook b.start b.segment other) at ((b.own.each c has).0.differs other ((alike c has).0 covered))

  pub takes_alike : (a other place : ℕ) → AreAlike own a other → TakesAway b.start b.segment a place → TakesAway b.start b.segment other place
  takes_alike a other place alike taken =
      let looks = ends_changes (Some taken.page) (page_after b.start b.segment a place) (page_after b.start b.segment a (place + 1)) taken in
      let (c, has, at, covered) = b.own.all place a (change_within b.start b.segment a place looks) looks in
      let known = (b.own.each c has).0 in
      subst (TakesAway b.start b.segment other) at ((known.takes other ((alike c has).0 covered)).0
      ((known.takes a covered).1 (subst (TakesAway b.start b.segment a) (sym at) taken)))

  none_alike : (a other m n : ℕ) → AreAlike own a other → NoneWithin b.start b.segment a m n → NoneWithin b.start b.segment other m n
  none_alike a other m n alike none place low high looks = none place low high (changes_alike other a place (alike_back own a other alike) looks)

  at_end : (a : ℕ) → page_after b.start b.segment a (length b.segment.log) ≡ page_at joined.space.space a
  at_end a =
      ap (λ (calls : List ℕ). page_at (space_from b.start b.segment calls) a) (take-length b.segment.log) ∙ ap (λ (s : Space). page_at s a) (sym b.space)

  -- an address with the same changes, which the page has, looks so too
  pub looks_alike : (a other n : ℕ) (page : Page) → AreAlike own a other → IsTrue (covers page other) → n ≤ length b.segment.log
      → page_after b.start b.segment a n ≡ Some page → page_after b.start b.segment other n ≡ Some page
  looks_alike a other n page alike covers_other low at = by (first_within b.start b.segment a n (length b.segment.log) low) where
    by : NoneWithin b.start b.segment a n (length b.segment.log) ⊎ FirstWithin b.start b.segment a n (length b.segment.log)
        → page_after b.start b.segment other n ≡ Some page
    by (inl none) =
        let here : page_at joined.space.space a ≡ Some page = sym (at_end a) ∙ sym (same_within b.start b.segment a n (length b.segment.log) low none) ∙ at in
        same_within b.start b.segment other n (length b.segment.log) low (none_alike a other n (length b.segment.log) alike none)
        ∙ at_end other ∙ (page_at_means built.is_space other page).1 (((page_at_means built.is_space a page).0 here).0, covers_other)
    by (inr (p, from, high, looks, none)) =
        let (c, has, place, covered) = b.own.all p a high looks in
        let known = (b.own.each c has).0 in
        same_within b.start b.segment other n p from (none_alike a other n p alike none) ∙ ap (page_after b.start b.segment other) (sym place)
        ∙ known.was other ((alike c has).0 covered) ∙ sym (known.was a covered) ∙ ap (page_after b.start b.segment a) place
        ∙ sym (same_within b.start b.segment a n p from none) ∙ at

  -- ---- which page is found

  module _ (event : ℕ) (page : Page) where
    -- an address with the same changes is left so too
    pub alike_open : (a other : ℕ) → AreAlike own a other → AreAlike earlier a other → IsOpen b event a (Some page) → IsOpen b event other (Some page)
    alike_open a other alike left_alike (none, it) = (
      (λ place taken early. none place (takes_alike other a place (alike_back own a other alike) taken) early),
      record {
        change = it.change;
        has = it.has;
        covers_it = (left_alike it.change it.has).0 it.covers_it;
        still_open = λ later has_later covers_it early. it.still_open later has_later ((left_alike later has_later).1 covers_it) early;
        looks = it.looks;
      },
    )

    -- an address of the page with the same changes may be found so too
    pub alike_finds : (a other n : ℕ) → AreAlike own a other → AreAlike earlier a other → IsTrue (covers page other) → FindsAt b event page a n
        → FindsAt b event page other n
    alike_finds a other n alike left_alike covers_other (inl (allowed, at)) =
        let looks = looks_alike a other n page alike covers_other allowed.within at in
        let back = alike_back own a other alike in
        inl (
          record {
            within = allowed.within;
            flushed = λ place ends before.
                let taken = takes_alike other a place back (subst (λ (o : Option Page). EndsLook b.start b.segment other o place) looks ends) in
                allowed.flushed place (subst (λ (o : Option Page). EndsLook b.start b.segment a o place) (sym at) taken) before;
            not_foreseen = λ place changes late. allowed.not_foreseen place (changes_alike other a place back changes) late;
          },
          looks,
        )
    alike_finds a other n alike left_alike covers_other (inr it) = inr (alike_open a other alike left_alike it)

    -- a touch that finds it there is right
    pub finds_right : (other phys n : ℕ) → phys ≡ page.phys + (other - page.base)
        → FindsAt b event page other n → IsRightBehind b.before b.start b.segment (probe_at event other phys)
    finds_right other phys n is (inl (allowed, at)) = (parts_of b (probe_at event other phys)).1 (inl (inl (
      n,
      record { within = allowed.within; flushed = allowed.flushed; not_foreseen = allowed.not_foreseen },
      ap Allowed is ∙ probed other page ∙ ap (allow_in_page other Supervisor Read) (sym at),
    )))
    finds_right other phys n is (inr (none, it)) = (parts_of b (probe_at event other phys)).1 (inr (Some page, none, it, ap Allowed is ∙ probed other page))

  -- an earlier frame that has the same changes as one in which the page leads there so is met
  pub leads_alike : (release : Release) (page : Page) → IsRoomy page → (leads : LeadsSo b release page) → (frame : ℕ) → frame ≤ leads.frame
      → release.phys ≤ page.phys + frame * 4096 → AreAlike own (page.base + frame * 4096) (page.base + leads.frame * 4096)
      → AreAlike earlier (page.base + frame * 4096) (page.base + leads.frame * 4096) → IsMetAt b release page (frame * 4096)
  leads_alike release page roomy leads frame low up alike left_alike =
      let here = page.base + frame * 4096 in
      let there = page.base + leads.frame * 4096 in
      let same = leads.same in
      let within = leads.within in
      let covered : IsTrue (covers page here) = (covers_means page here).1 (omega arith, omega (arith, within, low)) in
      let has = leads.has in
      let own_covered : IsTrue (covers leads.own here) = same_covers page leads.own here same covered in
      let found = alike_finds release.made leads.own there here leads.finds.0 (alike_back own here there alike) (alike_back earlier here there left_alike)
      own_covered leads.finds.1 in
      record {
        has = (up, omega (arith, has.1, low));
        right = finds_right release.made leads.own here (page.phys + frame * 4096) leads.finds.0
            (let base = same.base in let phys = same.phys in omega (arith, base, phys)) found;
      }

  module _ (listed : List PlacedChange) (seen : List Seen) (all : AreSeen joined listed (pages joined.space.space) seen)
      (release : Release) (aligned : release.phys % bytes_of release.size ≡ 0) (fits : release.made < 2 ^ 32) where
    abbrev event : ℕ
    event = release.made

    -- ---- at a moment of the segment

    module _ (touch : Touch) (made : touch.made ≡ event) (answered : touch.answered ≡ event) (n : ℕ) (allowed : IsAllowedPrefix b.start b.segment touch n)
        (page : Page) (at : page_after b.start b.segment touch.address n ≡ Some page) where
      -- an update of the page's own before a place, where none of the address lies from the moment to that place
      made_before : (end : ℕ) → NoneWithin b.start b.segment touch.address n end → (d : PlacedChange) → Contains own d → Covers touch.address d
          → d.place < end → d.made ≤ event
      made_before end none d has covered less = elim (cases_lt event d.made) [
        | inl late ↦
            let known = (b.own.each d has).0 in
            let looks = known.differs touch.address covered in
            let from = allowed.not_foreseen d.place looks (d.made, known.made, subst (λ (e : ℕ). e < d.made) (sym answered) late) in
            absurd (none d.place from less looks)
        | inr low ↦ low
      ]

      taken_from : (end : ℕ) → n ≤ end → (d : PlacedChange) → Contains own d → Covers touch.address d → end ≤ d.place → event ≤ taken_at d
      taken_from end low d has covered past = elim (cases_lt (taken_at d) event) [
        | inl early ↦
            let (ends, before) = (ended_before b.start b.segment touch.address event fits d (Some page) (b.own.each d has).0 covered).0 early in
            let less = allowed.flushed d.place (subst (λ (o : Option Page). EndsLook b.start b.segment touch.address o d.place) (sym at) ends)
            (subst (IsAnsweredBefore b.segment d.place) (sym made) before) in
            absurd (omega (arith, less, low, past))
        | inr fine ↦ fine
      ]

      before_change : FirstWithin b.start b.segment touch.address n (length b.segment.log) → FoundPage own seen event touch.address page n
      before_change (p, low, high, looks, none) =
          let (c, has, place, covered) = b.own.all p touch.address high looks in
          let known = (b.own.each c has).0 in
          let same : page_before c.change ≡ Some page = sym (known.was touch.address covered) ∙ ap (page_after b.start b.segment touch.address) place
          ∙ sym (same_within b.start b.segment touch.address n p low none) ∙ at in
          let there = was_there c.change page same in
          let mine : (d : PlacedChange) → Contains own d → IsOf (number_of c.change.page) d → Covers touch.address d =
          λ d has_d of. own_covers c.change.page touch.address (built.own.numbered c has).aligned covered d (built.own.numbered d has_d) of in
          record {
            s = seen_before c;
            has = all.before c has;
            is = there.1;
            covered = subst (λ (q : Page). IsTrue (covers q touch.address)) there.1 covered;
            alive = record {
              there = there.0;
              from = λ d has_d of less. made_before p none d has_d (mine d has_d of) (omega (arith, less, place));
              until = λ d has_d of past. taken_from p low d has_d (mine d has_d of) (omega (arith, past, place));
            };
            from = omega (arith, low, place);
          }

      after_all : NoneWithin b.start b.segment touch.address n (length b.segment.log) → FoundPage own seen event touch.address page n
      after_all none =
          let low = allowed.within in
          let here : page_at joined.space.space touch.address ≡ Some page = sym (at_end touch.address)
          ∙ sym (same_within b.start b.segment touch.address n (length b.segment.log) low none) ∙ at in
          let (holds, covered) = (page_at_means built.is_space touch.address page).0 here in
          let aligned = (built.is_space.well_formed page holds).aligned in
          record {
            s = seen_now joined.places page;
            has = all.present page ((holds_listed built.is_space page).1 holds);
            is = refl;
            covered = covered;
            alive = record {
              there = refl;
              from = λ d has_d of less. made_before (length b.segment.log) none d has_d
                  (own_covers page touch.address aligned covered d (built.own.numbered d has_d) of) (b.own.each d has_d).1;
              until = λ d has_d of past. absurd (let l = (b.own.each d has_d).1 in omega (arith, past, l, b.places));
            };
            from = omega (arith, low, b.places);
          }

      found : FoundPage own seen event touch.address page n
      found = elim (first_within b.start b.segment touch.address n (length b.segment.log) allowed.within) [
        | inl none ↦ after_all none
        | inr first ↦ before_change first
      ]

    -- ---- behind the segments before

    module _ (touch : Touch) (made : touch.made ≡ event) (page : Page) (none : EndsNowhere b.start b.segment touch.address (Some page) touch.made)
        (it : IsLeftAt earlier touch.address (Some page)) (lists : Contains listed it.change) where
      left_found : FoundPage own seen event touch.address page 0
      left_found =
          let there = was_there it.change.change page it.looks in
          let still : nat_lt (taken_at it.change) 4294967295 ≡ false = elim (cases_lt (taken_at it.change) 4294967295) [
            | inl early ↦ absurd (let l = it.still_open it.change it.has it.covers_it early in omega (arith, l))
            | inr fine ↦ grind (arith, nat_tests)
          ] in
          let is = built.earlier.numbered it.change it.has in record {
            s = seen_left it.change;
            has = all.left it.change lists;
            is = there.1;
            covered = subst (λ (q : Page). IsTrue (covers q touch.address)) there.1 it.covers_it;
            alive = record {
              there = ap (λ (t : Bool). t && not (nat_lt (taken_at it.change) 4294967295)) there.0 ∙ ap (λ (t : Bool). true && not t) still;
              from = λ d has_d of less. absurd (omega (arith, less));
              until = λ d has_d of past. elim (cases_lt (taken_at d) event) [
                | inl early ↦
                    let covered = own_covers it.change.change.page touch.address is.aligned it.covers_it d (built.own.numbered d has_d) of in
                    let (ends, before) = (ended_before b.start b.segment touch.address event fits d (Some page) (b.own.each d has_d).0 covered).0 early in
                    absurd (none d.place ends (subst (IsAnsweredBefore b.segment d.place) (sym made) before))
                | inr fine ↦ fine
              ];
            };
            from = omega arith;
          }

    -- ---- a release whose memory can be reached

    -- the frame of the address
    leads_so : (a phys n : ℕ) (page : Page) (there : FoundPage own seen event a page n) → phys ≡ page.phys + (a - page.base) → HasPhys release phys
        → FindsAt b event page a n → ReachedPage b seen release a
    leads_so a phys n page there is shared finds =
        let roomy = subst IsRoomy there.is (all.roomy there.s there.has) in
        let within = (covers_means page a).0 there.covered in
        let at = frame_in release page a phys aligned roomy there.covered is shared in
        let low = at.low in
        record {
          s = there.s;
          has = there.has;
          alive = there.alive;
          phys = phys;
          shared = shared;
          low = subst (λ (q : Page). q.phys ≤ phys) (sym there.is) (omega (arith, is));
          high = subst (λ (q : Page). phys < q.phys + bytes_of q.size) (sym there.is) (omega (arith, is, within.0, within.1));
          leads = subst (λ (q : Page). LeadsBelow b release a q there.s.place) (sym there.is) (
            record {
              frame = at.frame;
              within = at.within;
              has = at.has;
              own = page;
              same = record { base = refl; size = refl; phys = refl };
              finds = (
                n,
                alike_finds event page a (page.base + at.frame * 4096) n (frame_alike own built.own.numbered a (page.base + at.frame * 4096) at.same)
                    (frame_alike earlier built.earlier.numbered a (page.base + at.frame * 4096) at.same)
                    ((covers_means page (page.base + at.frame * 4096)).1 (omega arith, let less = at.within in omega (arith, less))) finds,
              );
            },
            low,
            there.from,
          );
        }

    module _ (can : IsReachable b.before b.start b.segment release) where
      -- a page that the address of the touch was left to look as
      abbrev FoundLeft : Type 0
      FoundLeft = (page : Page) × IsOpen b event can.touch.address (Some page) × (can.phys ≡ page.phys + (can.touch.address - page.base))

      in_segment : (n : ℕ) → IsAllowedPrefix b.start b.segment can.touch n
          → ((own_page : Page) × (page_after b.start b.segment can.touch.address n ≡ Some own_page)
          × (can.phys ≡ own_page.phys + (can.touch.address - own_page.base))) → ReachedPage b seen release can.touch.address
      in_segment n allowed (page, at, is) =
          leads_so can.touch.address can.phys n page (found can.touch can.made can.answered n allowed page at) is can.within (inl (
            record {
              within = allowed.within;
              flushed = λ place ends early. allowed.flushed place ends (subst (IsAnsweredBefore b.segment place) (sym can.made) early);
              not_foreseen = λ place changes late. allowed.not_foreseen place changes (subst (IsMadeAfter b.segment place) (sym can.answered) late);
            },
            at,
          ))

      left_over : (page : Option Page) → EndsNowhere b.start b.segment can.touch.address page can.touch.made → IsLeftAt earlier can.touch.address page
          → ((own_page : Page) × (page ≡ Some own_page) × (can.phys ≡ own_page.phys + (can.touch.address - own_page.base))) → FoundLeft
      left_over page none it (found_page, same, is) =
          let nowhere = subst (λ (o : Option Page). EndsNowhere b.start b.segment can.touch.address o can.touch.made) same none in
          let at = subst (IsLeftAt earlier can.touch.address) same it in
          (found_page, (subst (EndsNowhere b.start b.segment can.touch.address (Some found_page)) can.made nowhere, at), is)

      by : IsRightTouch b.start b.segment can.touch ⊎ ((page : Option Page) × EndsNowhere b.start b.segment can.touch.address page can.touch.made
          × IsLeftAt earlier can.touch.address page × (can.touch.answer ≡ allow_in_page can.touch.address can.touch.mode can.touch.access page))
          → ReachedPage b seen release can.touch.address ⊎ FoundLeft
      by (inl (inl (n, allowed, told))) =
          inl (in_segment n allowed (found_page can.phys can.touch.address can.touch.mode can.touch.access
          (page_after b.start b.segment can.touch.address n) (sym can.finds ∙ told)))
      by (inl (inr (fault, m, lags))) =
          absurd (let clash : Allowed can.phys ≡ Fault (fault_code false can.touch.mode can.touch.access) = sym can.finds ∙ fault in cc)
      by (inr (page, none, it, answered)) =
          inr (left_over page none it (found_page can.phys can.touch.address can.touch.mode can.touch.access page (sym can.finds ∙ answered)))

      own_or_left : ReachedPage b seen release can.touch.address ⊎ FoundLeft
      own_or_left = by ((parts_of b can.touch).0 can.right)

      -- it is found in a page that is seen, where those that earlier segments left are seen too
      pub reached : ((c : PlacedChange) → Contains earlier c → Contains listed c) → ReachedPage b seen release can.touch.address
      reached lists = elim own_or_left [
        | inl own_page ↦ own_page
        | inr (page, (nowhere, it), is) ↦
            leads_so can.touch.address can.phys 0 page
            (left_found can.touch can.made page (subst (EndsNowhere b.start b.segment can.touch.address (Some page)) (sym can.made) nowhere) it
            (lists it.change it.has)) is can.within (inr (nowhere, it))
      ]

      -- or by a frame that was left to look so
      pub reached_so : ReachedPage b seen release can.touch.address ⊎ ReachedOpen b release
      reached_so = elim own_or_left [
        | inl own_page ↦ inl own_page
        | inr (page, (nowhere, it), is) ↦
            let there = was_there it.change.change page it.looks in
            let is_of = built.earlier.numbered it.change it.has in
            let roomy : IsRoomy page = subst IsRoomy there.1 (record { base = is_of.aligned; frame = is_of.frame; ends = is_of.ends; low = is_of.low }) in
            let covered = subst (λ (q : Page). IsTrue (covers q can.touch.address)) there.1 it.covers_it in
            let at = frame_in release page can.touch.address can.phys aligned roomy covered is can.within in
            let there_at = page.base + at.frame * 4096 in
            inr (
              page,
              at.frame,
              roomy,
              record {
                within = at.within;
                has = at.has;
                open_so = alike_open event page can.touch.address there_at (frame_alike own built.own.numbered can.touch.address there_at at.same)
                    (frame_alike earlier built.earlier.numbered can.touch.address there_at at.same) (nowhere, it);
              },
            )
      ]

-- what leads there can be reached
pub reachable : {joined : Joined} (b : Behind joined) (release : Release) (page : Page) → LeadsThere b release page
    → IsReachable b.before b.start b.segment release
reachable b release page leads = record {
  touch = probe_at release.made (page.base + leads.frame * 4096) (page.phys + leads.frame * 4096);
  made = refl;
  answered = refl;
  phys = page.phys + leads.frame * 4096;
  finds = refl;
  within = leads.met.has;
  right = leads.met.right;
}
