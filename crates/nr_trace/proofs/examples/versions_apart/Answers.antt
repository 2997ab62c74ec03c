use Rattle.std.proofs.Common.{◌∙◌, sym, refl, lit<}
use Rattle.nr_trace.specs.Examples.{as_version_2, map_then_resolve}
use Rattle.nr_trace.proofs.LawsOfSpelling.{spelling_behind_version}
use Rattle.nr_trace.proofs.examples.versions_apart.Goals as goal

pub returns-clause-spelling : goal.returns-clause-spelling
returns-clause-spelling c = spelling_behind_version as_version_2 ∙ sym (spelling_behind_version map_then_resolve)

pub returns-clause-second : goal.returns-clause-second
returns-clause-second c = (lit< tt, lit< tt, refl, tt)

pub returns-clause-first : goal.returns-clause-first
returns-clause-first c = λ h. h.3

pub returns-clause-answer : goal.returns-clause-answer
returns-clause-answer c = λ h. h.3

pub returns-clause-five : goal.returns-clause-five
returns-clause-five c = tt

pub returns-clause-not_five : goal.returns-clause-not_five
returns-clause-not_five c = λ h. h
