-- The pages through which a release can be reached, page by page; and the first wrong release, release by release.
use Rattle.std.proofs.Common.{◌≡◌, ℕ, ◌+◌, ◌<◌, ◌≤◌, ◌↔◌, Bool, true, false, List, get_or, length, slice_get, Option, Some, None, IsTrue}
use Rattle.std.proofs.Common.{arith}
use Rattle.std.proofs.lemmas.Option.{slice_get_within, slice_get-get_or}
use Rattle.vs_types.specs.Space.{Space}
use Rattle.std.proofs.lemmas.Bool.Decides.{not_from_Decides}
use Rattle.nr_trace.specs.Recording.{Recording}
use Rattle.nr_trace.specs.Run.{Run}
use Rattle.nr_touch.specs.Releases.{FindsReachable, IsWrongRelease, NoneWrongBelow}
use Rattle.nr_touch.specs.inside.Joined.{Behind}
use Rattle.nr_touch.specs.inside.Reached.{LeadsSo, SomeLeadsSo}
use Rattle.nr_touch.specs.declared.releases.release.Release.{Release}
use Rattle.nr_touch.specs.declared.releases.seen.Seen.{Seen}
use Rattle.nr_touch.specs.declared.touches.joined.Joined.{Joined}
use Rattle.nr_touch.proofs.Lefts.{below_more, in_got}

-- ---- pages

-- no page of these below an index leads there
abbrev pub NoneLeadsBelow : {joined : Joined} → Behind joined → Release → List Seen → ℕ → Type 0
NoneLeadsBelow b release seen end = (k : ℕ) (s : Seen) → k < end → slice_get seen k ≡ Some s → LeadsSo b release s.page → ⊥

module _ {joined : Joined} (b : Behind joined) (release : Release) (seen : List Seen) where
  pub none_leads : (index : ℕ) (d : Seen) → index < length seen → (LeadsSo b release (get_or seen index d).page → ⊥)
      → NoneLeadsBelow b release seen index → NoneLeadsBelow b release seen (index + 1)
  none_leads index d l not none = below_more (λ k s. LeadsSo b release s.page → ⊥) seen index d l none not

  pub nothing_leads : (end : ℕ) → length seen ≤ end → NoneLeadsBelow b release seen end → SomeLeadsSo b release seen → ⊥
  nothing_leads end all none (s, has, leads) =
      let (k, at) = in_got seen s has in
      let l = slice_get_within seen k s at in
      none k s (omega (arith, l, all)) at leads

-- ---- releases

module _ (before : Option Run) (start : Space) (segment : Recording) (releases : List Release) (index : ℕ) (d : Release) (r : Bool)
    (l : index < length releases) (judged : IsTrue r ↔ IsWrongRelease before start segment (get_or releases index d))
    (right : NoneWrongBelow before start segment releases index) where
  pub wrong_at : r ≡ true → FindsReachable before start segment releases (Some index)
  wrong_at wrong = (get_or releases index d, slice_get-get_or releases index d l, judged.0 wrong, right)

  pub right_to : r ≡ false → NoneWrongBelow before start segment releases (index + 1)
  right_to fine =
      below_more (λ k release. IsWrongRelease before start segment release → ⊥) releases index d l right (not_from_Decides r judged fine)

pub none_wrong : (before : Option Run) (start : Space) (segment : Recording) (releases : List Release) (end : ℕ) → length releases ≤ end
    → NoneWrongBelow before start segment releases end → FindsReachable before start segment releases None
none_wrong before start segment releases end all right index release at wrong =
    right index release (let low = slice_get_within releases index release at in omega (arith, low, all)) at wrong

pub none_at_all : (before : Option Run) (start : Space) (segment : Recording) (releases : List Release) → length releases ≡ 0
    → FindsReachable before start segment releases None
none_at_all before start segment releases none index release at wrong =
    let low = slice_get_within releases index release at in omega (arith, low, none)
