use Rattle.std.proofs.Common.{◌≡◌, ◌%◌, sym, ap, ◌∙◌, subst}
use Rattle.vs_types.specs.Page.{bytes_of}
use Rattle.vs_plan.specs.declared.plans.plan.Flush.TheVariants as flushes
use Rattle.vs_types.specs.Bits.{bits_in}
use Rattle.vs_plan.proofs.Asking.{read_leaf, inside_right}
use Rattle.vs_plan.proofs.Protecting.{less_right, same_right, written_right}
use Rattle.vs_plan.proofs.Parts.{only_store}
use Rattle.vs_plan.proofs.plans.planner.Planner.plan_protect.Goals as goal

pub returns-then-offset-ne0 : goal.returns-then-offset-ne0
returns-then-offset-ne0 c =
    inside_right c.requires.end (read_leaf c.args.self.now.level c.new.ensures c.read.ensures c.in-Leaf.is) c.requires.request tt
    (c.bytes.ensures ∙ ap bytes_of c.at_level-size.ensures) c.if-offset-ne0.true c.nothing.result c.nothing.ensures

pub returns-then-not-permits : goal.returns-then-not-permits
returns-then-not-permits c =
    less_right c.requires.end (read_leaf c.args.self.now.level c.new.ensures c.read.ensures c.in-Leaf.is) c.requires.request
    (subst (λ n. c.args.base % n ≡ 0) (c.bytes.ensures ∙ ap bytes_of c.at_level-size.ensures) c.if-offset-ne0.false)
    (c.permits.ensures.less c.if-not-permits.true) c.nothing-then-not-permits.result c.nothing-then-not-permits.ensures

pub returns-then-new-word : goal.returns-then-new-word
returns-then-new-word c =
    written_right c.requires.end (read_leaf c.args.self.now.level c.new.ensures c.read.ensures c.in-Leaf.is) c.requires.request
    (subst (λ n. c.args.base % n ≡ 0) (c.bytes.ensures ∙ ap bytes_of c.at_level-size.ensures) c.if-offset-ne0.false)
    (c.permits.ensures.all c.if-not-permits.false) c.intersection.ensures (c.bits_in.ensures.is ∙ ap (λ z. bits_in z c.args.word) c.at_level-size.ensures)
    c.nothing-plan.ensures.reply_is c.nothing-plan.ensures.bits_are c.nothing-plan.ensures.fill
    (c.push.ensures.items ∙ only_store c.nothing-plan.result.stores.items c.nothing-plan.ensures.stores c.args.self.now.number c.args.word
    c.index_at.ensures.is c.with_rights-new.ensures)
    (ap (flushes.Page c.args.base) c.at_level-size.ensures) c.nothing-plan.ensures.unlinked
    (λ same. c.if-new-word.true (c.with_rights-new.ensures ∙ sym same))

pub returns-else-new-word : goal.returns-else-new-word
returns-else-new-word c =
    same_right c.requires.end (read_leaf c.args.self.now.level c.new.ensures c.read.ensures c.in-Leaf.is) c.requires.request
    (subst (λ n. c.args.base % n ≡ 0) (c.bytes.ensures ∙ ap bytes_of c.at_level-size.ensures) c.if-offset-ne0.false)
    (c.permits.ensures.all c.if-not-permits.false) c.intersection.ensures (c.bits_in.ensures.is ∙ ap (λ z. bits_in z c.args.word) c.at_level-size.ensures)
    c.nothing-plan.ensures.reply_is c.nothing-plan.ensures.bits_are c.nothing-plan.ensures.fill c.nothing-plan.ensures.stores c.nothing-plan.ensures.flush
    c.nothing-plan.ensures.unlinked (sym (sym c.with_rights-new.ensures ∙ c.if-new-word.false))
