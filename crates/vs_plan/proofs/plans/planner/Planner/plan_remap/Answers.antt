use Rattle.std.proofs.Common.{◌≡◌, ◌%◌, sym, ap, ◌∙◌, subst, arith}
use Rattle.vs_types.specs.Entry.{size_at}
use Rattle.vs_types.specs.Page.{bytes_of}
use Rattle.vs_plan.specs.declared.plans.plan.Flush.TheVariants as flushes
use Rattle.vs_types.specs.Bits.{bits_in, with_address, with_rights}
use Rattle.vs_plan.specs.Changes.{phys_refusal}
use Rattle.vs_plan.proofs.Asking.{read_leaf, inside_right}
use Rattle.vs_plan.proofs.Remapping.{phys_good, refused_right, less_right, same_right, written_right}
use Rattle.vs_plan.proofs.Parts.{only_store}
use Rattle.vs_plan.proofs.plans.planner.Planner.plan_remap.Goals as goal

pub returns-then-offset-ne0 : goal.returns-then-offset-ne0
returns-then-offset-ne0 c =
    inside_right c.requires.end (read_leaf c.args.self.now.level c.new.ensures c.read.ensures c.in-Leaf.is) c.requires.request tt
    (c.bytes.ensures ∙ ap bytes_of c.at_level-size.ensures) c.if-offset-ne0.true c.nothing.result c.nothing.ensures

pub returns-in-Some : goal.returns-in-Some
returns-in-Some c =
    refused_right c.requires.end (read_leaf c.args.self.now.level c.new.ensures c.read.ensures c.in-Leaf.is) c.requires.request
    (subst (λ n. c.args.base % n ≡ 0) (c.bytes.ensures ∙ ap bytes_of c.at_level-size.ensures) c.if-offset-ne0.false)
    (ap (phys_refusal c.args.phys c.args.self.now.target.phys_bits) (sym c.at_level-size.ensures) ∙ sym c.phys_refusal.ensures ∙ c.in-Some.is)
    c.nothing-in-Some.result c.nothing-in-Some.ensures

pub returns-then-not-permits : goal.returns-then-not-permits
returns-then-not-permits c =
    less_right c.requires.end (read_leaf c.args.self.now.level c.new.ensures c.read.ensures c.in-Leaf.is) c.requires.request
    (subst (λ n. c.args.base % n ≡ 0) (c.bytes.ensures ∙ ap bytes_of c.at_level-size.ensures) c.if-offset-ne0.false)
    (ap (phys_refusal c.args.phys c.args.self.now.target.phys_bits) (sym c.at_level-size.ensures) ∙ sym c.phys_refusal.ensures ∙ c.in_default-phys_refusal.is)
    (c.permits.ensures.less c.if-not-permits.true) c.nothing-then-not-permits.result c.nothing-then-not-permits.ensures

pub returns-then-new-word : goal.returns-then-new-word
returns-then-new-word c =
    let level = c.args.self.now.level in
    let written : c.with_rights-new.result ≡ with_rights (with_address (size_at level) c.args.word c.args.phys) c.args.rights =
    c.with_rights-new.ensures ∙ ap (λ w. with_rights w c.args.rights)
    (c.with_address.ensures ∙ ap (λ z. with_address z c.args.word c.args.phys) c.at_level-size.ensures) in
    written_right c.requires.end (read_leaf level c.new.ensures c.read.ensures c.in-Leaf.is) c.requires.request
    (subst (λ n. c.args.base % n ≡ 0) (c.bytes.ensures ∙ ap bytes_of c.at_level-size.ensures) c.if-offset-ne0.false)
    (ap (phys_refusal c.args.phys c.args.self.now.target.phys_bits) (sym c.at_level-size.ensures) ∙ sym c.phys_refusal.ensures ∙ c.in_default-phys_refusal.is)
    (c.permits.ensures.all c.if-not-permits.false) c.intersection.ensures (c.bits_in.ensures.is ∙ ap (λ z. bits_in z c.args.word) c.at_level-size.ensures)
    c.nothing-plan.ensures.reply_is c.nothing-plan.ensures.bits_are c.nothing-plan.ensures.fill
    (c.push.ensures.items ∙ only_store c.nothing-plan.result.stores.items c.nothing-plan.ensures.stores c.args.self.now.number c.args.word
    c.index_at.ensures.is written)
    (ap (flushes.Page c.args.base) c.at_level-size.ensures) c.nothing-plan.ensures.unlinked
    (λ same. c.if-new-word.true (written ∙ sym same))

pub returns-else-new-word : goal.returns-else-new-word
returns-else-new-word c =
    let level = c.args.self.now.level in
    let written : c.with_rights-new.result ≡ with_rights (with_address (size_at level) c.args.word c.args.phys) c.args.rights =
    c.with_rights-new.ensures ∙ ap (λ w. with_rights w c.args.rights)
    (c.with_address.ensures ∙ ap (λ z. with_address z c.args.word c.args.phys) c.at_level-size.ensures) in
    same_right c.requires.end (read_leaf level c.new.ensures c.read.ensures c.in-Leaf.is) c.requires.request
    (subst (λ n. c.args.base % n ≡ 0) (c.bytes.ensures ∙ ap bytes_of c.at_level-size.ensures) c.if-offset-ne0.false)
    (ap (phys_refusal c.args.phys c.args.self.now.target.phys_bits) (sym c.at_level-size.ensures) ∙ sym c.phys_refusal.ensures ∙ c.in_default-phys_refusal.is)
    (c.permits.ensures.all c.if-not-permits.false) c.intersection.ensures (c.bits_in.ensures.is ∙ ap (λ z. bits_in z c.args.word) c.at_level-size.ensures)
    c.nothing-plan.ensures.reply_is c.nothing-plan.ensures.bits_are c.nothing-plan.ensures.fill c.nothing-plan.ensures.stores c.nothing-plan.ensures.flush
    c.nothing-plan.ensures.unlinked (sym (sym written ∙ c.if-new-word.false))

pub with_address-requires : goal.with_address-requires
with_address-requires c =
    let within = phys_good c.args.phys c.args.self.now.target.phys_bits c.at_level-size.result (sym c.phys_refusal.ensures ∙ c.in_default-phys_refusal.is) in
    omega (arith, within.1)
