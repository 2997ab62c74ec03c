use Rattle.std.proofs.Common.{◌≡◌, length, arith}
use Rattle.audit_texts.proofs.wording.sentence.cut_text.Goals as goal

pub returns : goal.returns
returns c =
    let read = c.args.bad.now.read in
    let there : c.len-there.result ≡ length read.items = omega (arith, c.len-there.ensures, read.ok.0) in
    rw (c.in_ok-unit.ensures, c.size-size.ensures, there) at c.format.ensures.ok
