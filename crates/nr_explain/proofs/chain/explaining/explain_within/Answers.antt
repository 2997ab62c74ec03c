use Rattle.std.proofs.Common.{subst}
use Rattle.nr_trace.specs.declared.refusals.fault.Fault.{Fault}
use Rattle.nr_explain.specs.inside.Firsts.{IsFirstOver}
use Rattle.nr_audit.specs.Start.{first_space}
use Rattle.nr_explain.specs.inside.Reading.{all_states, space_seen}
use Rattle.nr_explain.proofs.Firsts.{first_within, low_number, no_format, own_from}
use Rattle.nr_explain.proofs.StartsShown.{itself_shown}
use Rattle.nr_explain.proofs.chain.explaining.explain_within.Goals as goal

pub explain_itself-requires : goal.explain_itself-requires
explain_itself-requires c =
    let before = space_seen (all_states c.args.last.now) in
    let segment = c.args.segment.now in
    record {
      own = own_from c.args.fault
          (λ format e. no_format before segment format (subst (λ (f : Fault). IsFirstOver before segment f) e c.requires.first))
          c.in_default.not-WrongAnswer c.in_default.not-Differs;
      first = (first_space before segment, first_within before segment c.args.fault (low_number segment c.args.fault c.requires.own) c.requires.first);
    }

pub returns-in_default : goal.returns-in_default
returns-in_default c = itself_shown c.args.last.now c.args.segment.now c.args.fault c.explain_itself.result
    (own_from c.args.fault
    (λ format e. no_format (space_seen (all_states c.args.last.now)) c.args.segment.now format
    (subst (λ (f : Fault). IsFirstOver (space_seen (all_states c.args.last.now)) c.args.segment.now f) e c.requires.first))
    c.in_default.not-WrongAnswer c.in_default.not-Differs) c.explain_itself.ensures
