-- The room for a batch, and what an append answers.
use Rattle.std.proofs.Common.{ℕ, List, All, subst, ◌∙◌, arith}
use Rattle.std.specs.Prelude.{slice_index_or}
use Rattle.std.proofs.lemmas.List.Elements.{All-append}
use Rattle.vs_types.specs.declared.addresses.depth.Depth.{Depth}
use Rattle.nr_ring.specs.LogHistory.{Log}
use Rattle.nr_ring.specs.Calls.{HasLooked, HasMoved}
use Rattle.nr_ring.specs.View.{HasSeenAdvances, IsElse, StartsWith}
use Rattle.nr_ring.specs.declared.ring.log_event.LogEvent.{LogEvent}
use Rattle.nr_ring.specs.declared.ring.view.View.{View}
use Rattle.nr_ring.specs.Entries.{IsReason}
use Rattle.nr_ring.specs.declared.ring.tails.AppendFault.{AppendFault}
use Rattle.nr_ring.specs.declared.ring.tails.AppendFault.TheVariants.{LogEnded, Full, Moved}
use Rattle.nr_ring.specs.inside.Batch.{Bars, Explains}
pub use Rattle.nr_ring.proofs.Histories.{begins}
use Rattle.nr_ring.proofs.Passes.{longer}

pub no_advances : (replica : ℕ) (a b c : List LogEvent) → HasSeenAdvances replica b a → HasSeenAdvances replica c b → HasSeenAdvances replica c a
unfolding begins
no_advances replica a b c first second =
    let all = begins a b c (first.0, first.1) (second.0, second.1) in
    (all.0, all.1, All-append (IsElse replica) first.0 second.0 first.2 second.2)

-- two looks are a look
pub looked_twice : (depth : Depth) (replicas : ℕ) (u v w : View) → HasLooked depth replicas u v → HasLooked depth replicas v w → HasLooked depth replicas u w
looked_twice depth replicas u v w a b =
    let P : List (List LogEvent) → Type 0 = λ l. All (StartsWith w.seen) l in
    let Q : List ℕ → Type 0 = λ l. All (λ replica. HasSeenAdvances replica w.seen v.seen) l in
    let later = subst Q a.owns b.advances in
    record {
      is_history = b.is_history;
      seen = begins u.seen v.seen w.seen a.seen b.seen;
      told = subst P a.told_stays b.told;
      advances = λ k d lt. no_advances (slice_index_or u.owns k d) u.seen v.seen w.seen (a.advances k d lt) (later k d lt);
      told_stays = b.told_stays ∙ a.told_stays;
      mine = b.mine ∙ a.mine;
      owns = b.owns ∙ a.owns;
      rights = b.rights ∙ a.rights;
    }

pub moved_later : (depth : Depth) (replicas : ℕ) (u v w : View) → HasLooked depth replicas u v → HasMoved v w → HasMoved u w
moved_later depth replicas u v w looked moved = (moved.0, omega (arith, longer v.seen u.seen looked.seen, moved.1), moved.2, moved.3)

pub bar_explains : (places : ℕ) (log : Log) (count : ℕ) (fault : AppendFault) → Bars places log count fault → Explains places log count fault
bar_explains places log count LogEnded bars = bars
bar_explains places log count (Full tails) bars = bars
bar_explains places log count (Moved tails) bars = absurd bars

pub reason : (places : ℕ) (log : Log) (count : ℕ) (u w : View) (fault : AppendFault) → Explains places log count fault → HasMoved u w
    → IsReason places log count u w fault
reason places log count u w LogEnded why moved = why
reason places log count u w (Full tails) why moved = why
reason places log count u w (Moved tails) why moved = (why.0, why.1, why.2, moved)

-- a bar that the first look found
pub barred : (places : ℕ) (log : Log) (count : ℕ) (u w : View) (fault : AppendFault) → Bars places log count fault → IsReason places log count u w fault
barred places log count u w LogEnded bars = bars
barred places log count u w (Full tails) bars = bars
barred places log count u w (Moved tails) bars = absurd bars
