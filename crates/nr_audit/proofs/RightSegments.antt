-- What a segment is right with where it is sound.
use Rattle.std.proofs.Common.{◌≡◌, ℕ, List, Option}
use Rattle.nr_trace.specs.Orders.{recorded_order}
use Rattle.nr_trace.specs.Recording.{Recording}
use Rattle.nr_trace.proofs.LawsOfHistories.{history_if_faultless}
use Rattle.nr_audit.proofs.Judgements.{faultless_of, releases_of}
use Rattle.nr_audit.proofs.PartsOfVerdicts.{legal_order, dumps_of_order}
use Rattle.nr_audit.specs.Faults.{IsSoundAfter}
use Rattle.nr_trace.specs.Run.{Run}
use Rattle.nr_audit.specs.Start.{begins_in}
use Rattle.nr_audit.specs.Segments.{IsRightAfter}

pub parts_after : (before : Option Run) (segment : Recording) (order : List ℕ) → IsSoundAfter before segment → order ≡ recorded_order segment
    → IsRightAfter before segment order
parts_after before segment order sound is =
    let start = begins_in before segment in
    let faultless = faultless_of before segment sound.faultless in
    let legal = legal_order start segment order faultless is in
    record {
      events = history_if_faultless start segment faultless;
      members = legal.members;
      precedence = legal.precedence;
      answers = legal.answers;
      dumps = dumps_of_order start segment order faultless is;
      touches = sound.touches;
      releases = releases_of before segment sound;
    }
