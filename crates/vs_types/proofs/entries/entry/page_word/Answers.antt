use Rattle.std.proofs.Common.{◌+◌, ap, ◌∙◌, arith}
use Rattle.vs_types.specs.Entry.{meaning, leaf_word}
use Rattle.vs_types.specs.Page.{level_of}
use Rattle.vs_types.proofs.BitWords.{page_reads, word_room}
use Rattle.vs_types.proofs.entries.entry.page_word.Goals as goal

pub returns-clause-read_back : goal.returns-clause-read_back
returns-clause-read_back c =
    let page = c.args.page in
    ap (λ n. meaning (level_of page.size) (n + c.placed.result)) (c.word.ensures ∙ c.leaf.ensures.written)
    ∙ ap (λ n. meaning (level_of page.size) (leaf_word page.size page.phys page.rights + n)) c.placed.ensures
    ∙ page_reads page.size page.phys c.args.bits page.rights c.requires.aligned c.requires.in_range c.requires.bits

pub overflow_add-result : goal.overflow_add-result
overflow_add-result c =
    let page = c.args.page in
    let few = word_room page.size page.phys c.args.bits page.rights c.requires.aligned c.requires.in_range c.requires.bits
    (c.word.ensures ∙ c.leaf.ensures.written) c.placed.ensures in
    omega (arith, few)
