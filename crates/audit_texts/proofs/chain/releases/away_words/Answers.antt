use Rattle.audit_texts.specs.ChainReleases.{away_words}
use Rattle.audit_texts.proofs.chain.releases.away_words.Goals as goal

pub returns : goal.returns
unfolding away_words
returns c = rw c.in_ok-answered.ensures at c.format.ensures.ok
