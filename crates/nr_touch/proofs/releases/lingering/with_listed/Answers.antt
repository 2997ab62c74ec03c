use Rattle.vs_types.proofs.Lists.{not_in_nil}
use Rattle.nr_touch.proofs.releases.lingering.with_listed.Goals as goal

pub returns-clause-room : goal.returns-clause-room
returns-clause-room c = c.in_ok-note_all.ensures.room (λ page has. absurd (not_in_nil page (rw c.new-2.ensures.items at has)))

pub returns-clause-listed : goal.returns-clause-listed
returns-clause-listed c = c.in_ok-note_all.ensures.own c.none-gone.result (λ key over at. absurd (c.none-gone.ensures key over at))
