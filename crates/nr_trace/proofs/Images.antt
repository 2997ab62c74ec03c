-- Dumps and counts in the ranges of a trace.
use Rattle.std.proofs.Common.{◌≡◌, ℕ, ◌^◌, ◌<◌, ◌≤◌, List, length, Option, Some, eqb, eqb-true, eq-eqb, subst, sym, ◌∙◌, arith, inl, inr}
use Rattle.std.specs.Prelude.{IfSome, IsTrue}
use Rattle.std.specs.FinMap as finite
use Rattle.std.proofs.lemmas.List.Elements.{All-map}
use Rattle.vs_walk.specs.Dump.{Image, IsDump}
use Rattle.vs_types.specs.Frame.{IsFrame}
use Rattle.vs_types.specs.declared.limits.TheConstants.{LOG_PLACES, CALLS, FRAMES}
use Rattle.vs_types.specs.Config.{IsLayoutWithin}
use Rattle.nr_trace.specs.Versions.{KnowsDepth, most_start, most_tables, most_threads}
use Rattle.nr_trace.specs.Recording.{Recording, IsImage, IsStart, start_frames}
use Rattle.nr_trace.specs.declared.formats.version.Version.{Version}
use Rattle.nr_trace.specs.declared.formats.version.Version.TheVariants.{Segment}
use Rattle.nr_trace.proofs.LawsOfUnits.{few_of_start}
use Rattle.nr_trace.specs.Parts.{HasBadCount, HasFrames, HasStart}

-- a dump with as many frames as one of a trace
pub image_of : (version : Version) (dump : Image) → IsDump dump → HasFrames version dump → IsImage version dump
image_of version dump is has = record {
  applied = is.applied_fits;
  root = is.root_fits;
  some_frame = has.0;
  few_frames = has.1;
  nothing = has.2;
  numbers = All-map (λ number. number < 2 ^ 40) (λ (e : ℕ × List ℕ). e.0) (finite.entries dump.frames) is.in_range;
  words = All-map IsFrame (λ (e : ℕ × List ℕ). e.1) (finite.entries dump.frames) is.whole;
}

-- a dump with a frame, after no entries, is a start
pub start_of : (dump : Image) → IsDump dump → 1 ≤ finite.len dump.frames → finite.len dump.frames ≤ FRAMES → dump.applied ≡ 0 → IsStart dump
start_of dump is some few applied = record {
  image = image_of Segment dump is (omega arith, few, λ none. absurd (omega (arith, some, none)));
  some_frame = some;
  applied = applied;
}

-- where there are as many frames as the version allows, it is one where it comes after no entries
pub start_tells : (version : Version) (o : Option Image) (start : Image) (applied count : ℕ) → o ≡ Some start → IsDump start
    → count ≡ finite.len start.frames → 1 ≤ count → count ≤ most_start version → applied ≡ start.applied
    → (IsTrue (eqb applied 0) → IfSome o IsStart × (start_frames o ≤ most_start version))
    × (IfSome o IsStart × (start_frames o ≤ most_start version) → IsTrue (eqb applied 0))
start_tells version o start applied count is dump all some few same =
    subst (λ (o : Option Image). (IsTrue (eqb applied 0) → IfSome o IsStart × (start_frames o ≤ most_start version))
    × (IfSome o IsStart × (start_frames o ≤ most_start version) → IsTrue (eqb applied 0))) (sym is) (there, back) where
      most : most_start version ≤ FRAMES
      most = few_of_start version

      there : IsTrue (eqb applied 0) → IsStart start × (finite.len start.frames ≤ most_start version)
      there test =
          let none : start.applied ≡ 0 = sym same ∙ eqb-true applied 0 test in
          (start_of start dump (omega arith) (omega (arith, most)) none, omega arith)

      back : IsStart start × (finite.len start.frames ≤ most_start version) → IsTrue (eqb applied 0)
      back h = eq-eqb applied 0 (same ∙ h.0.applied)

pub good_counts : (parts : Recording) → IsLayoutWithin (most_threads parts.version) (most_tables parts.version) parts.layout
    → KnowsDepth parts.version parts.layout.depth → HasStart parts → length parts.log ≤ LOG_PLACES → length parts.events ≤ CALLS
    → length parts.dumps ≡ parts.layout.replicas → HasBadCount parts → ⊥
good_counts parts within known start places events dumps bad =
    elim bad [
      | inl w ↦ w within
      | inr s ↦ elim s [
        | inl u ↦ u known
        | inr t ↦ elim t [
          | inl v ↦ v start
          | inr r ↦ elim r [ inl p ↦ absurd (omega arith) | inr q ↦ elim q [ inl e ↦ absurd (omega arith) | inr d ↦ d dumps ] ]
        ]
      ]
    ]
