-- Segments without a fault are right with the orders that they record.
use Rattle.std.proofs.Common.{◌≡◌, ℕ, List, [], ◌∷◌, sym, subst}
use Rattle.vs_types.specs.Config.{Layout}
use Rattle.vs_types.specs.Space.{Space}
use Rattle.nr_trace.specs.Recording.{Recording}
use Rattle.nr_trace.specs.Orders.{recorded_order}
use Rattle.nr_trace.specs.Laws.{IsFaultlessFrom}
use Rattle.nr_trace.proofs.LawsOfHistories.{history_if_faultless}
use Rattle.nr_trace.proofs.LawsOfOrder.{updates_of_order}
use Rattle.nr_trace.proofs.LawsOfDumps.{clean_if_faultless, legal_if_faultless, fits_if_faultless}
use Rattle.nr_chain.specs.Joined.{Segment}
use Rattle.nr_chain.specs.Run.{IsRightFrom, space_behind, AreRightFrom, AreFaultlessFrom}
use Rattle.nr_chain.proofs.History.{history_from}

-- a faultless recording is right with the order that it records
right_if_recorded : (start : Space) (trace : Recording) → IsFaultlessFrom start trace
    → IsRightFrom start (record { trace = trace; order = recorded_order trace })
right_if_recorded start trace faultless =
    let legal = legal_if_faultless start trace faultless in
    record {
      events = history_from trace (history_if_faultless start trace faultless);
      members = legal.members;
      precedence = legal.precedence;
      answers = legal.answers;
      log = updates_of_order trace (clean_if_faultless start trace faultless);
      dumps = λ replica dump is there. fits_if_faultless start trace replica dump faultless is there;
    }

pub right_if_faultless : (start : Space) (segment : Segment) → IsFaultlessFrom start segment.trace → segment.order ≡ recorded_order segment.trace
    → IsRightFrom start segment
right_if_faultless start segment faultless is =
    subst (λ (order : List ℕ). IsRightFrom start (record { trace = segment.trace; order = order })) (sym is) (right_if_recorded start segment.trace faultless)

pub right_all : (start : Space) (layout : Layout) (segments : List Segment) → AreFaultlessFrom start layout segments → AreRightFrom start layout segments
right_all start layout [] faultless = tt
right_all start layout (segment ∷ more) (same_layout, faultless, recorded, rest) =
    (same_layout, right_if_faultless start segment faultless recorded, right_all (space_behind start segment) layout more rest)
