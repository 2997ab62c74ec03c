use Rattle.std.proofs.Common.{◌≡◌, Some, sym, ◌∙◌, arith}
use Rattle.nr_touch.specs.Beside.{touched}
use Rattle.nr_touch.proofs.TouchesBeside.{answered_touch, no_touch, not_answered, touch_within}
use Rattle.nr_touch.proofs.touches.beside.is_beside.Goals as goal

pub bounds-replies-call : goal.bounds-replies-call
bounds-replies-call c =
    let within = touch_within c.args.trace.now c.args.call c.in-Some.address (sym c.touched.ensures ∙ c.in-Some.is) in
    let many = c.requires.replies.one_each in
    omega (arith, within, many)

pub returns-in_default : goal.returns-in_default
returns-in_default c = λ start changes clean are numbered openings.
    no_touch start c.args.trace.now clean changes are c.args.replies.now c.requires.replies c.requires.few c.args.call
    (sym c.touched.ensures ∙ c.in_default.is)

pub returns-then-answered-replies : goal.returns-then-answered-replies
returns-then-answered-replies c = λ start changes clean are numbered openings.
    let trace = c.args.trace.now in
    let is : touched trace c.args.call ≡ Some c.in-Some.address = sym c.touched.ensures ∙ c.in-Some.is in
    let within = touch_within trace c.args.call c.in-Some.address is in
    let many = c.requires.replies.one_each in
    not_answered start trace clean changes are c.args.replies.now c.requires.replies c.requires.few c.args.call c.in-Some.address within is
    (omega (arith, many, c.if-answered-replies.true))

pub returns : goal.returns
returns c = λ start changes clean are numbered openings.
    let trace = c.args.trace.now in
    let is : touched trace c.args.call ≡ Some c.in-Some.address = sym c.touched.ensures ∙ c.in-Some.is in
    let within = touch_within trace c.args.call c.in-Some.address is in
    let many = c.requires.replies.one_each in
    answered_touch start trace clean changes are c.args.replies.now c.requires.replies c.requires.few c.args.call c.in-Some.address
    c.is_open_within.result within is
    (omega (arith, many, c.if-answered-replies.false)) (c.is_open_within.ensures changes numbered openings)
