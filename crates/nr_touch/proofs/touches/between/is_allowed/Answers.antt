use Rattle.std.proofs.Common.{◌≡◌, ◌-◌, ◌%◌, ◌≤◌, ap, arith}
use Rattle.std.proofs.lemmas.Bool.Decides.{Decides-like}
use Rattle.vs_types.specs.Page.{bytes_of}
use Rattle.nr_touch.proofs.Looked.{allowed_back, allowed_forth, none_allowed}
use Rattle.nr_touch.proofs.Tests.{no}
use Rattle.nr_touch.proofs.touches.between.is_allowed.Goals as goal

pub returns-then-phys-offset : goal.returns-then-phys-offset
returns-then-phys-offset c = λ is. no (none_allowed c.args.history.now c.requires c.args.touch.now c.args.size c.args.first c.args.last c.args.phys is
    (rw c.bytes.ensures at c.if-phys-offset.true))

pub returns : goal.returns
returns c = λ is.
    let touch = c.args.touch.now in
    let same : touch.address % c.bytes.result ≡ touch.address % bytes_of c.args.size = ap (λ n. touch.address % n) c.bytes.ensures in
    let up : touch.address % bytes_of c.args.size ≤ c.args.phys = omega (arith, same, c.if-phys-offset.false) in
    let at : c.args.phys - touch.address % c.bytes.result ≡ c.args.phys - touch.address % bytes_of c.args.size = ap (λ n. c.args.phys - n) same in
    Decides-like _ (allowed_forth c.args.history.now c.requires touch c.args.size c.args.first c.args.last c.args.phys is c.number_at.result _
    c.number_at.ensures at up)
    (allowed_back c.args.history.now c.requires touch c.args.size c.args.first c.args.last c.args.phys is c.number_at.result _ c.number_at.ensures at up)
    (rw c.deref.ensures.value at c.has_rights.ensures)
