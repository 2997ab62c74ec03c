use Rattle.std.proofs.Common.{◌≡◌, ◌<◌, ◌++◌, ℕ, List, Ok, ap, sym, ◌∙◌, subst}
use Rattle.std.proofs.lemmas.List.Elements.{All-from_get_or}
use Rattle.nr_trace.specs.FirstFault.{HasRefusalAs}
use Rattle.nr_trace.specs.Feed.{Fed, Feeds, HasNoFaultYet}
use Rattle.nr_trace.specs.Feed.Fed.{Taken}
use Rattle.nr_trace.specs.declared.formats.version.Form.TheVariants as forms
use Rattle.nr_explain.specs.Units.{IsBadUnitAs}
use Rattle.nr_explain.specs.inside.Ends.{taken}
use Rattle.nr_explain.proofs.BadUnits.{bad_unit_lasts, refused_alone}
use Rattle.nr_explain.proofs.TwoEnds.{fed_more}
use Rattle.nr_explain.proofs.unit_feed.UnitFeed.feed.Goals as goal

pub invariant_of-self : goal.invariant_of-self
invariant_of-self c =
    let old = c.feed.inside in
    let piece = c.args.piece.now in
    fed_more (taken old.feed) piece old.feed c.feed_or_refuse.new.self old.ends c.keep.new.self c.feed.invariant
    (All-from_get_or (λ (byte : ℕ). byte < 256) piece 0 (λ i h. (c.type_inv.piece i).fits)) c.in-Ok.ensures.feeds
    (c.in_ok-keep-in-Ok.ensures (taken old.feed) c.feed.invariant.are)

pub returns-in-Ok-clause-fed : goal.returns-in-Ok-clause-fed
returns-in-Ok-clause-fed c =
    let bytes = taken c.feed.inside.feed in
    let piece = c.args.piece.now in
    let new = c.feed_or_refuse.new.self in
    let here : Feeds (Taken bytes) piece new (Ok tt) = subst (λ (f : Fed). Feeds f piece new (Ok tt)) c.feed.invariant.fed c.in-Ok.ensures.feeds in
    let same : bytes ≡ c.args.self.now = c.feed.view_is ∙ c.replace.ensures.value in
    (ap taken here.0 ∙ ap (λ (l : List ℕ). l ++ piece) same, subst (λ (l : List ℕ). HasNoFaultYet (l ++ piece)) same here.1)

pub returns-clause-bad : goal.returns-clause-bad
returns-clause-bad c = λ rest.
    let bytes = taken c.feed.inside.feed in
    let piece = c.args.piece.now in
    let refusal = c.in-Err-Refused.refusal in
    let bad = c.in_ok-bad-in-Err-Refused.bad in
    let given = (rw c.in-Err-Refused.field-0-is at (c.in-Err-Refused.ensures.refused bytes c.feed.invariant.fed)) in
    let is : IsBadUnitAs forms.Trace (bytes ++ piece) bad =
    c.in_ok-bad-in-Err-Refused.ensures forms.Trace bytes c.feed.invariant.are
    (subst (HasRefusalAs forms.Trace (bytes ++ piece)) (sym c.in-Err-Refused.refusal-is)
    (refused_alone forms.Trace (bytes ++ piece) refusal given.refused)) in
    let same : bytes ≡ c.args.self.now = c.feed.view_is ∙ c.replace.ensures.value in
    subst (λ (l : List ℕ). IsBadUnitAs forms.Trace ((l ++ piece) ++ rest) bad) same
    (bad_unit_lasts forms.Trace (bytes ++ piece) rest refusal bad given.refused is)
