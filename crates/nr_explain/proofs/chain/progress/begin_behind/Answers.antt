use Rattle.std.proofs.Common.{Option, option_map, ap, subst, sym}
use Rattle.nr_explain.specs.inside.Reading.{BeginsWell}
use Rattle.nr_explain.specs.declared.chain.progress.Progress.{Progress}
use Rattle.nr_explain.proofs.chain.progress.begin_behind.Goals as goal

pub start_space-requires : goal.start_space-requires
start_space-requires c = subst (λ (last : Option Progress). BeginsWell last c.args.segment.now) c.in-None.is c.requires.well

pub begin_first-requires : goal.begin_first-requires
begin_first-requires c = subst (λ (last : Option Progress). BeginsWell last c.args.segment.now) c.in-None.is c.requires.well

pub returns-in-Some-clause-tail : goal.returns-in-Some-clause-tail
returns-in-Some-clause-tail c = ap (λ (last : Option Progress). option_map (λ came. came.tail) last) (sym c.in-Some.is)

pub returns-in_ok-space-in-None-clause-tail : goal.returns-in_ok-space-in-None-clause-tail
returns-in_ok-space-in-None-clause-tail c = ap (λ (last : Option Progress). option_map (λ came. came.tail) last) (sym c.in-None.is)
