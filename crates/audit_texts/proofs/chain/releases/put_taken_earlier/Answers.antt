use Rattle.audit_texts.specs.ChainReleases.{taken_parts}
use Rattle.audit_texts.proofs.chain.releases.put_taken_earlier.Goals as goal

pub returns : goal.returns
unfolding taken_parts
returns g c = c.put_all.ensures
