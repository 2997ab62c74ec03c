-- The rows that are over for the memory of a release.
use Rattle.std.proofs.Common.{◌≡◌, ℕ, ◌+◌, ◌*◌, ◌<◌, ◌≤◌, inl, inr, Bool, true, false, cond, Contains, get_or, length, max, slice_get, Some}
use Rattle.std.proofs.Common.{refl, sym, ap, ◌∙◌, subst, arith}
use Rattle.std.proofs.lemmas.Bool.{cases_lt}
use Rattle.std.proofs.lemmas.Option.{same_Some}
use Rattle.vs_types.specs.Page.{bytes_of}
use Rattle.vs_types.specs.declared.addresses.page.Size.{Size}
use Rattle.nr_trace.specs.Recording.{Recording}
use Rattle.nr_touch.specs.Releases.{HasPhys}
use Rattle.nr_touch.specs.Touches.{IsAnsweredBefore}
use Rattle.nr_touch.specs.inside.Blocks.{IsBlockOf}
use Rattle.nr_touch.specs.inside.Lives.{HaveRows}
use Rattle.nr_touch.specs.inside.Overs.{AddsNote, AreKnown, AreOver, IsAgain, IsOver, IsSettled}
use Rattle.nr_touch.specs.inside.Joined.{Behind}
use Rattle.nr_touch.specs.inside.Reached.{FindsAt, LeadsBy, LeadsSo}
use Rattle.nr_touch.specs.inside.Stays.{AreStretches}
use Rattle.nr_touch.specs.declared.releases.changed.Changed.{Changed}
use Rattle.nr_touch.specs.declared.releases.overs.Overs.{Overs}
use Rattle.nr_touch.specs.declared.releases.release.Release.{Release}
use Rattle.nr_touch.specs.declared.releases.stays.Stay.{Stay}
use Rattle.nr_touch.specs.declared.touches.joined.Joined.{Joined}
use Rattle.nr_touch.proofs.ChangedRows.{NoneLeadsFrom}
use Rattle.nr_touch.proofs.Lefts.{in_got}
use Rattle.nr_touch.proofs.cuts.Ended.{change_within}

again_and_again : (one other last : Release) → IsAgain one other → IsAgain other last → IsAgain one last
again_and_again one other last first then =
    record { size = then.size ∙ first.size; phys = then.phys ∙ first.phys; made = let l = first.made in let m = then.made in omega (arith, l, m) }

at_once : (release : Release) → IsAgain release release
at_once release = record { size = refl; phys = refl; made = omega arith }

pub answered_later : (segment : Recording) (place event later : ℕ) → event ≤ later → IsAnsweredBefore segment place event → IsAnsweredBefore segment place later
answered_later segment place event later up (call, at, (reply, less, answers)) = (call, at, (reply, omega (arith, up, less), answers))

-- ---- a stay that leads nowhere now

-- if it ends before a release, it is over
pub ended_over : {joined : Joined} (b : Behind joined) (release : Release) (stay : Stay) → stay.until < release.made → IsOver b release stay
ended_over b release stay ended later again until leads = let up = again.made in omega (arith, ended, until, up)

module _ {joined : Joined} (b : Behind joined) (release : Release) (stay : Stay) where
  -- so later on, if the changes before its place were made
  pub settled_over : IsSettled joined.history.changes.items release stay.page stay.place → (LeadsSo b release stay.page → ⊥) → IsOver b release stay
  settled_over settled not later again until (leads, low) = not (record {
    frame = leads.frame;
    within = leads.within;
    has = has;
    own = leads.own;
    same = leads.same;
    finds = (leads.finds.0, by leads.finds.1);
  }) where
    address : ℕ
    address = stay.page.base + leads.frame * 4096

    phys : ℕ
    phys = stay.page.phys + leads.frame * 4096

    has : HasPhys release phys
    has = (
      subst (λ (n : ℕ). n ≤ phys) again.phys leads.has.0,
      subst (λ (size : Size). phys < release.phys + bytes_of size) again.size
          (subst (λ (n : ℕ). phys < n + bytes_of later.size) again.phys leads.has.1),
    )

    by : FindsAt b later.made leads.own address leads.finds.0 → FindsAt b release.made leads.own address leads.finds.0
    by (inr (none, it)) = inr (
      (λ place ends early. none place ends (answered_later b.segment place release.made later.made again.made early)),
      it,
    )
    by (inl (allowed, at)) = inl (
      record {
        within = allowed.within;
        flushed = λ place ends early. allowed.flushed place ends (answered_later b.segment place release.made later.made again.made early);
        not_foreseen = λ place looks (call, made, late). elim (cases_lt place leads.finds.0) [
          | inl less ↦
              let (c, contains, same, covered) = b.own.all place address (change_within b.start b.segment address place looks) looks in
              let before : c.place < stay.place = omega (arith, same, less, low) in
              let fine = settled leads.frame c leads.within has contains covered before in
              let one : c.made ≡ call = same_Some c.made call (sym (b.own.each c contains).0.made ∙ ap (slice_get b.segment.log) same ∙ made) in
              absurd (omega (arith, one, fine, late))
          | inr past ↦ past
        ];
      },
      at,
    )

-- ---- the rows of a block

module _ {joined : Joined} (b : Behind joined) (changed : Changed) (release : Release) (block : ℕ) where
  -- what is over from a release on is over from a later one of its memory on
  pub over_again : (before : Release) → IsAgain before release → (end : ℕ) → AreOver b changed before block 0 end → AreOver b changed release block 0 end
  over_again before again end over k stay low less own at later then = over k stay low less own at later (again_and_again before release later again then)

  pub over_from : (begin end : ℕ) → AreOver b changed release block 0 end → AreOver b changed release block begin end
  over_from begin end over k stay low less = over k stay (omega arith) less

  -- the stays of a stretch are over behind its last event
  pub stretch_over : AreStretches changed.stays.items changed.lives.rows.items changed.stretches.since.items changed.stretches.until.items
      (length changed.lives.rows.items) → (last end over : ℕ) → end ≡ last + 1 → last < length changed.lives.rows.items
      → get_or changed.stretches.until.items last 0 < release.made → AreOver b changed release block end over
      → AreOver b changed release block (get_or changed.stretches.since.items last 0) over
  stretch_over are last end over next within ended all k stay low less own at = elim (cases_lt last k) [
    | inl behind ↦ all k stay (omega (arith, next, behind)) less own at
    | inr here ↦ let ends = are.over last k within low here stay at in ended_over b release stay (omega (arith, ends, ended))
  ]

  -- a row more, which is over or isn't
  pub row_over : (last end over : ℕ) (is_over : Bool) (more : ℕ) → end ≡ last + 1 → more ≡ cond is_over (max over end) last
      → (is_over ≡ true → (stay : Stay) → slice_get changed.stays.items (get_or changed.lives.rows.items last 0) ≡ Some stay
      → IsOver b release stay) → AreOver b changed release block end over → AreOver b changed release block last more
  row_over last end over true more next sum this all k stay low less own at = elim (cases_lt last k) [
    | inl behind ↦ all k stay (omega (arith, next, behind)) (omega (arith, sum, less, next, behind)) own at
    | inr here ↦
        let same : k ≡ last = omega (arith, low, here) in
        this refl stay (ap (λ (n : ℕ). slice_get changed.stays.items (get_or changed.lives.rows.items n 0)) (sym same) ∙ at)
  ]
  row_over last end over false more next sum this all k stay low less own at = absurd (omega (arith, sum, low, less))

  -- all rows, where those before an index are of other blocks, but for those that were over before
  pub all_over : (before end over : ℕ) → ((k : ℕ) → before ≤ k → k < end → get_or changed.lives.blocks.items k 0 ≡ block → ⊥)
      → AreOver b changed release block 0 before → AreOver b changed release block end over → AreOver b changed release block 0 over
  all_over before end over early known all k stay low less own at = elim (cases_lt k before) [
    | inl first ↦ known k stay low first own at
    | inr past ↦ elim (cases_lt k end) [
      | inl of_others ↦ absurd (early k past of_others own)
      | inr behind ↦ all k stay behind less own at
    ]
  ]

  -- no stay leads there, where no row from that index on does
  pub none_of_block : HaveRows changed.stays.items changed.lives → (before end : ℕ)
      → ((k : ℕ) → before ≤ k → k < end → get_or changed.lives.blocks.items k 0 ≡ block → ⊥) → AreOver b changed release block 0 before
      → NoneLeadsFrom b release changed.stays.items changed.lives block end → (stay : Stay) → Contains changed.stays.items stay
      → IsBlockOf stay.page block → stay.from ≤ release.made → release.made ≤ stay.until → LeadsBy b release stay.page stay.place → ⊥
  none_of_block have before end early known none stay has of first last leads =
      let (row, at) = in_got changed.stays.items stay has in
      let (k, less, own, from, until, is) = have stay row block release.made at of first last in
      let here = ap (slice_get changed.stays.items) is ∙ at in
      elim (cases_lt k before) [
        | inl over ↦ known k stay (omega arith) over own here release (at_once release) last leads
        | inr past ↦ elim (cases_lt k end) [
          | inl of_others ↦ early k past of_others own
          | inr behind ↦ none k stay behind less own from here last leads.0
        ]
      ]

-- what is known with one note more
pub known_more : {joined : Joined} (b : Behind joined) (changed : Changed) (old new : Overs) (release : Release) (block rows : ℕ)
    → AddsNote old release block rows new → AreKnown b changed old → AreOver b changed release block 0 rows → AreKnown b changed new
known_more b changed old new release block rows adds known now key over at = elim (adds key over at) [
  | inl was ↦ known key over was
  | inr (of_release, of_block, many) ↦
      subst (λ (r : Release). AreOver b changed r over.block 0 over.rows) (sym of_release)
      (subst (λ (n : ℕ). AreOver b changed release n 0 over.rows) (sym of_block) (subst (λ (n : ℕ). AreOver b changed release block 0 n) (sym many) now))
]
