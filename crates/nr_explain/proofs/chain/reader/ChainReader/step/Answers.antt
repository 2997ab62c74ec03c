use Rattle.std.proofs.Common.{◌≡◌, ◌≤◌, ◌+◌, ◌++◌, [], length, take, sym, ap, ◌∙◌, subst}
use Rattle.nr_chain.proofs.Pieces.{took}
use Rattle.nr_trace.specs.Feed.Fed.{Taken}
use Rattle.nr_trace.specs.FirstFault.{HasRefusalAs}
use Rattle.nr_trace.specs.declared.refusals.refusal.Refusal.{Refusal}
use Rattle.nr_trace.specs.declared.formats.version.Form.TheVariants as forms
use Rattle.nr_explain.specs.inside.Reading.{all_states, layout_seen}
use Rattle.nr_explain.specs.inside.Steps.{IsRefusalOf}
use Rattle.nr_explain.proofs.Feeding.{ends_within, judged, more_reading, more_taken, piece_has, piece_refused, piece_within, seen_here, took_here}
use Rattle.nr_explain.proofs.chain.reader.ChainReader.step.Goals as goal

pub judge_whole-requires-clause-whole : goal.judge_whole-requires-clause-whole
judge_whole-requires-clause-whole c = c.is_whole.ensures.0 c.if-is_whole.true

pub judge_whole-requires-clause-taken : goal.judge_whole-requires-clause-taken
judge_whole-requires-clause-taken c =
    let bytes = c.self.inside.bytes.items in
    let piece = c.args.piece.now in
    let count = c.in-Ok.count in
    let same : c.deref.result.now ≡ bytes ++ take count piece =
    c.deref.ensures.value ∙ c.in_ok-extend_from_slice-in-Ok.ensures.items in
    (took_here c.self.inside.feed c.feed_or_refuse.new.self bytes piece count c.self.invariant.taken c.in-Ok.ensures.feeds).taken ∙ ap Taken (sym same)

pub judge_whole-requires-clause-behind : goal.judge_whole-requires-clause-behind
judge_whole-requires-clause-behind c =
    (took c.self.inside.feed c.feed_or_refuse.new.self c.args.piece.now c.in-Ok.count c.in-Ok.ensures.feeds).behind ∙ c.self.invariant.behind

pub returns-then-is_whole-clause-steps : goal.returns-then-is_whole-clause-steps
returns-then-is_whole-clause-steps c = λ came seen.
    let bytes = c.self.inside.bytes.items in
    let piece = c.args.piece.now in
    let count = c.in-Ok.count in
    let same : c.deref.result.now ≡ bytes ++ take count piece =
    c.deref.ensures.value ∙ c.in_ok-extend_from_slice-in-Ok.ensures.items in
    judged c.self.inside.last c.self.inside.before bytes c.self.inside.feed c.feed_or_refuse.new.self c.args.self piece c.self.invariant
    c.self.view_is came count
    c.deref.result.now c.judge_whole.result seen same c.in-Ok.ensures.feeds (c.is_whole.ensures.0 c.if-is_whole.true) (c.judge_whole.ensures came)

pub invariant_of-next : goal.invariant_of-next
invariant_of-next c =
    let bytes = c.self.inside.bytes.items in
    let piece = c.args.piece.now in
    let count = c.in-Ok.count in
    more_reading c.self.inside.last c.self.inside.before bytes c.self.inside.feed c.feed_or_refuse.new.self c.args.self piece
    c.self.invariant c.self.view_is count
    c.extend_from_slice.new.self.items (c.in_ok-extend_from_slice-in-Ok.ensures.items)
    c.in-Ok.ensures.feeds (λ whole. let is = c.is_whole.ensures.1 whole in let other = c.if-is_whole.false in cc)

pub returns-then-is_whole-clause-within : goal.returns-then-is_whole-clause-within
returns-then-is_whole-clause-within c =
    let inside = c.self.inside in
    let known = c.self.invariant.known in
    ends_within known.0 c.args.self c.args.piece.now c.judge_whole.result (returns-then-is_whole-clause-steps c known.0
    (seen_here inside.last inside.before inside.bytes.items inside.feed inside.feed c.args.self [] c.self.invariant c.self.view_is known.0 known.1))

pub returns-in-Ok-clause-steps : goal.returns-in-Ok-clause-steps
returns-in-Ok-clause-steps c = λ came seen.
    let bytes = c.self.inside.bytes.items in
    let piece = c.args.piece.now in
    let count = c.in-Ok.count in
    more_taken c.self.inside.last c.self.inside.before bytes c.self.inside.feed c.feed_or_refuse.new.self c.args.self piece c.self.invariant c.self.view_is
    came count c.extend_from_slice.new.self.items seen (c.in_ok-extend_from_slice-in-Ok.ensures.items)
    c.in-Ok.ensures.feeds (λ whole. let is = c.is_whole.ensures.1 whole in let other = c.if-is_whole.false in cc)

pub refused-requires : goal.refused-requires
refused-requires c =
    let inside = c.self.inside in
    let bytes = inside.bytes.items in
    let piece = c.args.piece.now in
    let all = c.extend_from_slice-in-Err-Refused.new.self.items in
    let all_is = c.in_ok-extend_from_slice-in-Err-Refused.ensures.items in
    let refusal = c.in-Err-Refused.refusal in
    let given = (rw c.in-Err-Refused.field-0-is at (c.in-Err-Refused.ensures.refused bytes c.self.invariant.taken)) in
    record {
      within = subst (λ (r : Refusal). r.left ≤ length all) (sym c.in-Err-Refused.refusal-is)
          (piece_within inside.last inside.before bytes inside.feed c.feed_or_refuse.new.self c.args.self piece c.self.invariant c.self.view_is
          (length piece + 23) refusal all all_is given);
      refused = subst (HasRefusalAs (forms.Segment (layout_seen (all_states inside.last))) all) (sym c.in-Err-Refused.refusal-is)
          (piece_has inside.last inside.before bytes inside.feed c.feed_or_refuse.new.self c.args.self piece c.self.invariant c.self.view_is
          (length piece + 23) refusal all all_is given);
    }

pub returns-clause-steps : goal.returns-clause-steps
returns-clause-steps c = λ came seen.
    let inside = c.self.inside in
    let bytes = inside.bytes.items in
    let piece = c.args.piece.now in
    let all = c.extend_from_slice-in-Err-Refused.new.self.items in
    let found = c.in_ok-found-in-Err-Refused.found in
    let given = (rw c.in-Err-Refused.field-0-is at (c.in-Err-Refused.ensures.refused bytes c.self.invariant.taken)) in
    piece_refused inside.last inside.before bytes inside.feed c.feed_or_refuse.new.self c.args.self piece c.self.invariant c.self.view_is
    came (length piece + 23) c.in-Err-Refused.refusal all found seen c.in_ok-extend_from_slice-in-Err-Refused.ensures.items given
    (λ own. subst (λ (r : Refusal). IsRefusalOf came all r.fault found) c.in-Err-Refused.refusal-is
    (c.in_ok-found-in-Err-Refused.ensures came own))

pub judge_whole-requires-clause-twice : goal.judge_whole-requires-clause-twice
judge_whole-requires-clause-twice c = c.self.invariant.twice

pub judge_whole-requires-clause-known : goal.judge_whole-requires-clause-known
judge_whole-requires-clause-known c = c.self.invariant.known
