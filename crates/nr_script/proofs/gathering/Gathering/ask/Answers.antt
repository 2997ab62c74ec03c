use Rattle.std.proofs.Common.{◌<◌, length, refl, sym, ◌∙◌, arith}
use Rattle.std.proofs.lemmas.List.{length-map}
use Rattle.std.specs.declared.alloc.Global.{Global}
use Rattle.std.specs.declared.vec.Vec.{Vec}
use Rattle.vs_types.specs.declared.requests.request.Query.{Query}
use Rattle.nr_script.proofs.Gathered.{pushed}
use Rattle.nr_script.proofs.Portions.{counted_more, counted_same, written_back}
use Rattle.nr_script.proofs.gathering.Gathering.ask.Goals as goal

pub returns-clause-lists : goal.returns-clause-lists
returns-clause-lists c =
    let lists = c.args.self.now.lists.items in
    let many = sym (length-map lists (λ (list : Vec Query Global). list.items)) ∙ c.requires.counted.one_each in
    let within : c.args.thread < length lists = omega (arith, c.requires.thread, many) in
    pushed lists c.index_mut.result.now c.push.new.self c.args.thread c.args.request within c.index_mut.ensures.value c.in_ok-push.ensures.items

pub returns-clause-counted : goal.returns-clause-counted
returns-clause-counted c = counted_more c.args.self.now _ c.args.thread c.args.request c.requires.counted c.requires.thread (returns-clause-lists c) refl refl

pub returns-in_err-push-clause-counted : goal.returns-in_err-push-clause-counted
returns-in_err-push-clause-counted c =
    let lists = c.args.self.now.lists.items in
    counted_same c.args.self.now _ c.requires.counted
    (written_back lists c.push.new.self c.args.thread c.index_mut.result.now c.index_mut.ensures.value c.in_err-push.ensures.items) refl
    c.requires.counted.fits
