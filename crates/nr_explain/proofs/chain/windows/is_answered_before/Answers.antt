use Rattle.std.proofs.Common.{ℕ, List, get_or, ap, arith}
use Rattle.nr_explain.proofs.Answering.{answered_so, call_within, less_if, there}
use Rattle.nr_explain.proofs.chain.windows.is_answered_before.Goals as goal

pub bounds-replies-call : goal.bounds-replies-call
bounds-replies-call c =
    let segment = c.args.segment.now in
    let call = get_or c.log.result.now c.args.place 0 in
    let at = there segment c.args.place call c.requires.within (ap (λ (xs : List ℕ). get_or xs c.args.place 0) c.log.ensures.reads) in
    let low = call_within segment call (c.requires.call call at) in
    let all = c.requires.replies.one_each in
    omega (arith, low, all)

pub returns : goal.returns
returns c =
    let segment = c.args.segment.now in
    let replies = c.args.replies.now in
    let call = get_or c.log.result.now c.args.place 0 in
    let at = there segment c.args.place call c.requires.within (ap (λ (xs : List ℕ). get_or xs c.args.place 0) c.log.ensures.reads) in
    let low = call_within segment call (c.requires.call call at) in
    let all = c.requires.replies.one_each in
    let so = answered_so segment replies c.args.place call c.args.event at c.requires.replies (omega (arith, low, all)) (omega arith) in
    let test = less_if (get_or replies call 0) c.args.event in
    ((λ yes. so.0 (test.0 yes)), (λ h. test.1 (so.1 h)))
