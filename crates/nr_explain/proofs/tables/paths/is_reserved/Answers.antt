use Rattle.std.proofs.Common.{◌≡◌, Some, length, sym, ap, ◌∙◌, arith}
use Rattle.std.specs.FinMap as finite
use Rattle.std.proofs.lemmas.Bool.{false≢true}
use Rattle.std.proofs.lemmas.Option.{same_Some}
use Rattle.nr_explain.proofs.tables.paths.is_reserved.Goals as goal

pub returns-then-index-len : goal.returns-then-index-len
returns-then-index-len c =
    let words = c.in-Some.words in
    let some : finite.get c.args.dump.now.frames c.args.frame ≡ Some words = sym c.in-Some.ensures in (
      λ e. absurd (false≢true e),
      λ is.
          let same = same_Some is.words words (sym is.there ∙ some) in
          absurd (omega (arith, ap length same, is.within, c.if-index-len.true, c.len.ensures.reads)),
    )
