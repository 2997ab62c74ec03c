use Rattle.std.proofs.Common.{◌∙◌}
use Rattle.nr_serve.specs.inside.Ending.{answers_of, passes_of}
use Rattle.nr_serve.proofs.Shown.{back_is, refused_with, trace_of_run, verified_with}
use Rattle.nr_serve.proofs.endings.ending.ending.Goals as goal

pub returns-clause-verified : goal.returns-clause-verified
returns-clause-verified g c scripts one_each served =
    let workers = c.args.workers.items in
    let config = c.args.config in
    let bytes = c.in_ok-bytes.bytes.items in
    let parts = c.in_ok-pens.ensures in
    let known = c.deref_mut.ensures.value ∙ parts.passes in
    let back = back_is c.in_ok-pens.field-0.passes c.written.new.passes (c.in_ok-bytes.ensures.passes ∙ c.deref_mut.ensures.value) in
    verified_with c.judged.result config scripts _ (answers_of workers) bytes _ (passes_of workers) parts.answers (back ∙ parts.passes)
    c.judged.ensures.answers c.judged.ensures.bytes c.judged.ensures.passes c.judged.ensures.verdict c.judged.ensures.right
    (trace_of_run c.args.clock g.K.ReplicasName.log config scripts workers _ _ bytes c.requires.config one_each served parts.pens known
    c.in_ok-bytes.ensures.written)

pub returns-clause-refused : goal.returns-clause-refused
returns-clause-refused g c scripts one_each served =
    let workers = c.args.workers.items in
    let config = c.args.config in
    let bytes = c.in_ok-bytes.bytes.items in
    let parts = c.in_ok-pens.ensures in
    let known = c.deref_mut.ensures.value ∙ parts.passes in
    refused_with c.judged.result config scripts (answers_of workers) bytes (passes_of workers) c.judged.ensures.refused_bytes
    c.judged.ensures.refused
    (trace_of_run c.args.clock g.K.ReplicasName.log config scripts workers _ _ bytes c.requires.config one_each served parts.pens known
    c.in_ok-bytes.ensures.written)
