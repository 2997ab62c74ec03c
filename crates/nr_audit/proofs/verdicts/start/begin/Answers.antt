use Rattle.std.proofs.Common.{◌≡◌, Option, Some, None, ap, sym, ◌∙◌, subst}
use Rattle.std.specs.Prelude.{IfErr, OnOk}
use Rattle.vs_types.specs.Config.{Layout}
use Rattle.vs_types.specs.Refusal.{IfRefused}
use Rattle.vs_plain.specs.Plain.{BoundedSpace}
use Rattle.nr_audit.specs.Segments.{pages_before, FitsLayout}
use Rattle.nr_audit.specs.Start.{BeginsRight, BeginsWrong}
use Rattle.nr_audit.specs.inside.Begun.{HasNoStartFault, IsFirstOfStart}
use Rattle.nr_audit.proofs.Starts.{begins_right, begins_wrong, if_refused, on_ok}
use Rattle.nr_audit.proofs.verdicts.start.begin.Goals as goal

pub returns-in-Some-before-2-clause-right : goal.returns-in-Some-before-2-clause-right
returns-in-Some-before-2-clause-right c =
    let before = c.in-Some-before-2.before in
    let segment = c.args.segment.now in
    let start = c.in-Some.start.now in
    let fits : FitsLayout segment.layout before = rw c.in-Some-before-2.is at c.requires in
    subst (λ (b : Option BoundedSpace). OnOk c.go_on.result (BeginsRight (pages_before b) segment)) (sym c.in-Some-before-2.is)
    (on_ok (HasNoStartFault before.depth (Some before.space) start) (BeginsRight (Some before.space) segment) c.go_on.result
    (begins_right (Some before.space) segment start before.depth (sym c.in-Some.ensures.reads) fits.depth) c.go_on.ensures.right)

pub returns-in-Some-before-2-clause-first : goal.returns-in-Some-before-2-clause-first
returns-in-Some-before-2-clause-first c =
    let before = c.in-Some-before-2.before in
    let segment = c.args.segment.now in
    let start = c.in-Some.start.now in
    let fits : FitsLayout segment.layout before = rw c.in-Some-before-2.is at c.requires in
    subst (λ (b : Option BoundedSpace). IfErr c.go_on.result (IfRefused (BeginsWrong (pages_before b) segment))) (sym c.in-Some-before-2.is)
    (if_refused (IsFirstOfStart before.depth (Some before.space) start) (BeginsWrong (Some before.space) segment) c.go_on.result
    (λ fault first. begins_wrong (Some before.space) segment start before.depth fault (sym c.in-Some.ensures.reads) fits.depth first)
    c.go_on.ensures.first)

pub returns-in-None-before-clause-right : goal.returns-in-None-before-clause-right
returns-in-None-before-clause-right c =
    let segment = c.args.segment.now in
    let start = c.in-Some.start.now in
    let depth : c.new-empty.result.depth ≡ segment.layout.depth =
    ap (λ (s : BoundedSpace). s.depth) c.new-empty.ensures ∙ c.depth-in-None-before.ensures ∙ ap (λ (l : Layout). l.depth) c.layout-layout.ensures.reads in
    subst (λ (b : Option BoundedSpace). OnOk c.begin_anew.result (BeginsRight (pages_before b) segment)) (sym c.in-None-before.is)
    (on_ok (HasNoStartFault c.new-empty.result.depth None start) (BeginsRight None segment) c.begin_anew.result
    (begins_right None segment start c.new-empty.result.depth (sym c.in-Some.ensures.reads) depth) c.begin_anew.ensures.right)

pub returns-in-None-before-clause-first : goal.returns-in-None-before-clause-first
returns-in-None-before-clause-first c =
    let segment = c.args.segment.now in
    let start = c.in-Some.start.now in
    let depth : c.new-empty.result.depth ≡ segment.layout.depth =
    ap (λ (s : BoundedSpace). s.depth) c.new-empty.ensures ∙ c.depth-in-None-before.ensures ∙ ap (λ (l : Layout). l.depth) c.layout-layout.ensures.reads in
    subst (λ (b : Option BoundedSpace). IfErr c.begin_anew.result (IfRefused (BeginsWrong (pages_before b) segment))) (sym c.in-None-before.is)
    (if_refused (IsFirstOfStart c.new-empty.result.depth None start) (BeginsWrong None segment) c.begin_anew.result
    (λ fault first. begins_wrong None segment start c.new-empty.result.depth fault (sym c.in-Some.ensures.reads) depth first) c.begin_anew.ensures.first)
