use Rattle.std.proofs.Common.{length, ap, ◌∙◌, arith}
use Rattle.vs_walk.specs.Dump.{OpenImage}
use Rattle.vs_walk.proofs.dump.OpenDump.words_come.Goals as goal

pub returns-clause-reads : goal.returns-clause-reads
returns-clause-reads c = c.len.ensures ∙ c.self.inside.coming.ok.0 ∙ ap (λ (d : OpenImage). length d.coming) c.self.view_is

pub returns-clause-few : goal.returns-clause-few
returns-clause-few c = omega (arith, c.len.ensures, c.self.inside.coming.ok.0, c.self.invariant.few)
