use Rattle.audit_texts.proofs.Joining.{ranges_parted, ranges_some, ranges_together, same_means}
use Rattle.audit_texts.proofs.laws.ranges_are_the_pages.Goals as goal

pub returns : goal.returns
returns c = record { together = ranges_together; some = ranges_some; parted = ranges_parted; same = same_means }
