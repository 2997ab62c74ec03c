use Rattle.std.proofs.Common.{◌≡◌, ◌+◌, ◌%◌, sym, ap, ◌∙◌}
use Rattle.vs_types.specs.Entry.{meaning, size_at}
use Rattle.vs_types.specs.Page.{bytes_of}
use Rattle.vs_types.specs.declared.entries.entry.Meaning.TheVariants as entry
use Rattle.vs_types.specs.declared.requests.answer.Answer.TheVariants as answers
use Rattle.vs_plan.specs.declared.plans.plan.Reply.TheVariants as replies
use Rattle.vs_types.specs.Bits.{bits_in}
use Rattle.vs_plan.proofs.Asking.{ask_right}
use Rattle.vs_plan.proofs.Parts.{nothing_as}
use Rattle.vs_plan.proofs.plans.planner.Planner.plan_ask.Goals as goal

pub returns : goal.returns
returns c =
    let says : meaning c.args.self.now.level c.args.word ≡ entry.Leaf c.in-Leaf.phys c.in-Leaf.own =
    ap (meaning c.args.self.now.level) (sym c.new.ensures) ∙ sym c.read.ensures ∙ c.in-Leaf.is in
    let bytes : c.bytes.result ≡ bytes_of (size_at c.args.self.now.level) = c.bytes.ensures ∙ ap bytes_of c.at_level-size.ensures in
    ask_right c.requires.end says c.requires.request c.nothing.result
    (nothing_as c.nothing.ensures
    (ap (λ n. replies.Answer (answers.Mapped (c.in-Leaf.phys + c.args.address % n) c.at_level-size.result c.intersection-rights.result)) bytes
    ∙ ap (λ z. replies.Answer (answers.Mapped (c.in-Leaf.phys + c.args.address % bytes_of (size_at c.args.self.now.level)) z c.intersection-rights.result))
    c.at_level-size.ensures
    ∙ ap (λ r. replies.Answer (answers.Mapped (c.in-Leaf.phys + c.args.address % bytes_of (size_at c.args.self.now.level)) (size_at c.args.self.now.level) r))
    c.intersection-rights.ensures)
    (c.bits_in.ensures.is ∙ ap (λ z. bits_in z c.args.word) c.at_level-size.ensures))
