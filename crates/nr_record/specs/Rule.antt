-- The word that stamps are drawn from: what holds of it and of the views of all seats, whatever the threads do. It has five kinds of
-- step: making it with its first seat, splitting a seat, drawing, joining two seats, and closing.
use Rattle.std.specs.Prelude.{◌≡◌, ℕ, ◌+◌, ◌-◌, ◌*◌, ◌<◌, ◌≤◌, List, [], ◌∷◌, ◌++◌, All, length, slice_index}
use Rattle.std.specs.List.{sum_by}
use Rattle.vs_types.specs.declared.addresses.depth.Depth.TheVariants.{Four}
use Rattle.vs_types.specs.declared.limits.TheConstants.{CALLS, LOG_PLACES}
use Rattle.nr_record.specs.Stamps.{times, once_below}
use Rattle.nr_record.specs.declared.view.Plan.{Plan}
use Rattle.nr_record.specs.declared.view.View.{View}

-- The quotas of all seats add up to the calls that may be made, of which there are at most 65,536. No seat has drawn more than two stamps
-- for each call of its quota. The word is the number of stamps drawn, and these are the numbers below it, each once
pub record IsKept (calls : ℕ) (words : List ℕ) (seats : List View) : Type 0 where
  pub one_word : length words ≡ 1
  pub few : calls ≤ LOG_PLACES
  pub quotas : sum_by (λ seat. seat.quota) seats ≡ calls
  pub within : All (λ seat. length seat.stamps ≤ 2 * seat.quota) seats
  pub drawn : slice_index words 0 ≡ sum_by (λ seat. length seat.stamps) seats
  pub each_once : (stamp : ℕ) → sum_by (λ seat. times stamp seat.stamps) seats ≡ once_below (slice_index words 0) stamp

-- what the first seat of a clock has: the whole quota, and no stamp
abbrev pub new_view : Plan → View
new_view plan = record { plan = plan; quota = plan.calls; stamps = [] }

-- a seat gives so much of its quota to a new seat, which has drawn nothing
abbrev pub left_seat : ℕ → View → View
left_seat quota seat = record { plan = seat.plan; quota = seat.quota - quota; stamps = seat.stamps }

-- a new seat with so much of the quota, which has drawn nothing
abbrev pub given : ℕ → View → View
given quota seat = record { plan = seat.plan; quota = quota; stamps = [] }

-- a seat has drawn one stamp more
abbrev pub with_stamp : View → ℕ → View
with_stamp seat stamp = record { plan = seat.plan; quota = seat.quota; stamps = seat.stamps ++ stamp ∷ [] }

-- a seat draws a stamp: it is above those that the seat has drawn, and below 131,072
pub record HasDrawn (before : View) (stamp : ℕ) (after : View) : Type 0 where
  pub view : after ≡ with_stamp before stamp
  pub later : All (λ earlier. earlier < stamp) before.stamps
  pub in_range : stamp < CALLS

-- a seat that is joined by another takes over its quota and its stamps, and the other has none
abbrev pub joint_seat : View → View → View
joint_seat seat other = record { plan = seat.plan; quota = seat.quota + other.quota; stamps = seat.stamps ++ other.stamps }

-- a seat without a quota and without stamps
abbrev pub empty_seat : View
empty_seat = record {
  plan = record { config = record { depth = Four; replicas = 1; threads = 1; tables = 1 }; calls = 0 };
  quota = 0;
  stamps = [];
}
