use Rattle.std.proofs.Common.{◌≡◌, sym, ap, ◌∙◌}
use Rattle.std.specs.Prelude.{slice_index}
use Rattle.vs_types.specs.Entry.{meaning, size_at}
use Rattle.vs_types.specs.Page.{bytes_of}
use Rattle.vs_types.specs.declared.entries.entry.Meaning.TheVariants as entry
use Rattle.vs_types.specs.declared.requests.answer.Answer.TheVariants as answers
use Rattle.vs_types.specs.declared.addresses.page.Size.{Size}
use Rattle.vs_plan.specs.declared.plans.plan.Flush.TheVariants as flushes
use Rattle.vs_plan.specs.declared.plans.plan.Reply.TheVariants as replies
use Rattle.vs_types.specs.Bits.{bits_in, page_word}
use Rattle.vs_plan.specs.Changes.{smaller}
use Rattle.vs_plan.proofs.Divided.{fill_as, frame_few, parts_right, part_aligned}
use Rattle.vs_plan.proofs.Parts.{only_store}
use Rattle.vs_plan.proofs.plans.planner.Planner.divide.Goals as goal

pub page_word-requires-clause-aligned : goal.page_word-requires-clause-aligned
page_word-requires-clause-aligned c =
    let p = c.args.self.now in
    let word = slice_index p.words p.level in
    let says : meaning p.level word ≡ entry.Leaf c.in-Leaf.phys c.in-Leaf.own =
    ap (meaning p.level) (sym c.new.ensures) ∙ sym c.read.ensures ∙ c.in-Leaf.is in
    part_aligned p.level word c.in-Leaf.phys c.in-Leaf.own c.requires.awaits.some says
    (ap bytes_of (c.smaller.ensures ∙ ap smaller c.at_level-size.ensures))

pub table-requires : goal.table-requires
table-requires c = frame_few c.args.self.now.target c.requires.awaits.request.phys_bits c.args.number c.requires.in_range

pub returns-clause-next : goal.returns-clause-next
returns-clause-next c = λ memory divided spare space premise.
    let p = c.args.self.now in
    let number = c.args.number in
    let word = slice_index p.words p.level in
    let phys = c.in-Leaf.phys in
    let own = c.in-Leaf.own in
    let says : meaning p.level word ≡ entry.Leaf phys own = ap (meaning p.level) (sym c.new.ensures) ∙ sym c.read.ensures ∙ c.in-Leaf.is in
    let small : c.smaller.result ≡ smaller (size_at p.level) = c.smaller.ensures ∙ ap smaller c.at_level-size.ensures in
    let bits : c.bits_in-bits.result ≡ bits_in (size_at p.level) word = c.bits_in-bits.ensures.is ∙ ap (λ z. bits_in z word) c.at_level-size.ensures in
    let first : c.page_word.result
    ≡ page_word (record { base = c.args.base; size = smaller (size_at p.level); rights = own; phys = phys }) (bits_in (size_at p.level) word) =
    c.page_word.ensures.written
    ∙ ap (λ (z : Size). page_word (record { base = c.args.base; size = z; rights = own; phys = phys }) c.bits_in-bits.result) small
    ∙ ap (page_word (record { base = c.args.base; size = smaller (size_at p.level); rights = own; phys = phys })) bits in
    parts_right divided c.requires.awaits.request premise c.requires.request says c.requires.in_range spare.spare
    (ap (meaning p.level) (sym c.table.ensures.written) ∙ c.table.ensures.read_back p.level divided.large)
    (c.nothing-plan.ensures.reply_is ∙ ap (λ r. replies.Answer (answers.Changed r)) c.intersection.ensures)
    (c.nothing-plan.ensures.bits_are ∙ bits)
    (fill_as number c.args.gap c.args.gap_count first (c.bytes.ensures ∙ ap bytes_of small))
    (c.push.ensures.items ∙ only_store c.nothing-plan.result.stores.items c.nothing-plan.ensures.stores p.number word c.index_at.ensures.is
    (c.word.ensures ∙ c.table.ensures.written))
    (ap (flushes.Range c.args.base) c.at_level-size.ensures) c.nothing-plan.ensures.unlinked
