-- Parts of the bytes of a chain: what one comes to, and which other may come behind it.
use Rattle.std.specs.Prelude.{◌≡◌, ◌⊎◌, ℕ, List, [], ◌∷◌, Option, Some, None}
use Rattle.nr_trace.specs.Recording.{Recording}
use Rattle.nr_audit.specs.Start.{start_space}
use Rattle.nr_audit.specs.Releases.{HasRelease, IsSettled}
use Rattle.nr_touch.specs.declared.releases.release.Release.{Release}
use Rattle.nr_trace.specs.Joined.{joined_traces}
use Rattle.nr_trace.specs.Run.{Run, end_of}
use Rattle.nr_audit.specs.Segments.{run_after}
use Rattle.nr_chain.specs.Bytes.{layout_before, BeginsWith, SpellAll}

-- the bytes spell these segments, one behind the other, behind a run, and with the last of them the chain has come to this run
abbrev pub SpellUpTo : Option Run → List ℕ → List Recording → Run → Type 0
SpellUpTo before bytes [] end = (bytes ≡ []) × (before ≡ Some end)
SpellUpTo before bytes (segment ∷ more) end =
    (rest : List ℕ) × BeginsWith (layout_before before) bytes segment rest × SpellUpTo (Some (run_after before segment)) rest more end

-- at the end of the bytes the chain has come to this run
abbrev pub ComesTo : Option Run → List ℕ → Run → Type 0
ComesTo before bytes end = (segments : List Recording) × SpellUpTo before bytes segments end

-- a run behind another, as one
abbrev pub run_behind : Run → Run → Run
run_behind first second = record { start = first.start; trace = joined_traces first.trace second.trace }

-- some of the segments gives memory away
abbrev pub HaveReleases : List Recording → Type 0
HaveReleases [] = ⊥
HaveReleases (segment ∷ more) = ((release : Release) × HasRelease segment release) ⊎ HaveReleases more

-- a chain that is spelled by itself may come behind one that has come to this. Its first segment is laid out so, and the pages of its
-- start, or none where it has no start, are those of the space after it. Where it gives memory away, the one before is settled
pub record MayFollow (end : Run) (bytes : List ℕ) : Type 0 where
  pub first : Recording
  pub rest : List ℕ
  pub begins : BeginsWith None bytes first rest
  pub layout : first.layout ≡ end.trace.layout
  pub pages : start_space first.layout.depth first.start ≡ end_of end
  pub settled : (segments : List Recording) → SpellAll None bytes segments → HaveReleases segments → IsSettled end
