-- Faults by a table that lags, as answers after some entries.
use Rattle.std.proofs.Common.{◌≡◌, ℕ, ◌+◌, ◌-◌, ◌<◌, ◌≤◌, Bool, true, false, cond, None, Option, Some, refl, sym, ap, ◌∙◌, arith}
use Rattle.vs_types.specs.Access.{allows, fault_code}
use Rattle.vs_types.specs.Step.{allow_in_page}
use Rattle.vs_types.specs.declared.addresses.access.Access.{Access}
use Rattle.vs_types.specs.declared.addresses.access.Mode.{Mode}
use Rattle.vs_types.specs.declared.requests.answer.Answer.TheVariants.{Allowed, Fault}
use Rattle.vs_types.specs.declared.addresses.page.Page.{Page}
use Rattle.nr_touch.specs.Touches.{IsFaultOfLagging, IsFaultOfNone, page_after}
use Rattle.nr_touch.specs.declared.touches.joined.Joined.{Joined}
use Rattle.nr_touch.specs.declared.touches.touch.Touch.{Touch}
use Rattle.nr_touch.specs.inside.Columns.{Covers, IsAhead}
use Rattle.nr_touch.specs.inside.Joined.{Behind}
use Rattle.nr_touch.specs.inside.Walk.{IsAnsweredWithin}
use Rattle.nr_touch.proofs.Walked.{last_within, none_foreseen, up_to_foreseen}

-- bit 0 of the code says whether a page has the address
other_code : (mode : Mode) (access : Access) → fault_code false mode access ≡ fault_code true mode access → ⊥
other_code mode access e = omega (arith, e)

-- only where no page has the address an access is answered by that fault
none_covers : (address : ℕ) (mode : Mode) (access : Access) (page : Option Page)
    → Fault (fault_code false mode access) ≡ allow_in_page address mode access page → page ≡ None
none_covers address mode access None e = refl
none_covers address mode access (Some page) e = absurd (by (allows page.rights mode access) e) where
  by : (b : Bool) → Fault (fault_code false mode access) ≡ cond b (Allowed (page.phys + (address - page.base))) (Fault (fault_code true mode access)) → ⊥
  by true e = cc
  by false e = other_code mode access (let same : fault_code false mode access ≡ fault_code true mode access = cc in same)

module _ {joined : Joined} (b : Behind joined) (touch : Touch) (last : ℕ)
    (ahead : IsAhead joined.history.changes.items (λ c. Covers touch.address c × (touch.answered < c.made)) joined.places last) where
  pub lagging_within : IsFaultOfNone touch → IsAnsweredWithin b.start b.segment touch touch.known last → IsFaultOfLagging b.start b.segment touch
  lagging_within fault (m, low, high, answered) = (
    fault,
    m,
    record {
      within = let most = last_within b touch last ahead in omega (arith, most, high);
      known = low;
      not_foreseen = none_foreseen b touch last ahead m high;
      absent = none_covers touch.address touch.mode touch.access (page_after b.start b.segment touch.address m) (sym fault ∙ answered);
    },
  )

  pub within_lagging : IsFaultOfLagging b.start b.segment touch → (touch.known ≤ last) × IsAnsweredWithin b.start b.segment touch touch.known last
  within_lagging (fault, m, it) =
      let low = it.known in
      let high = up_to_foreseen b touch last ahead m it.within it.not_foreseen in (
        omega (arith, low, high),
        (m, low, high, fault ∙ ap (allow_in_page touch.address touch.mode touch.access) (sym it.absent)),
      )
