use Rattle.audit_texts.specs.Evidence.{two_places_parts}
use Rattle.audit_texts.proofs.evidence.put_two_places.Goals as goal

pub returns : goal.returns
unfolding two_places_parts
returns g c = rw (c.from.ensures, c.from-2.ensures) at c.put_all.ensures
