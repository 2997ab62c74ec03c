use Rattle.std.proofs.Common.{ℕ, ◌/◌, inr, refl, sym, ap, ◌∙◌, arith}
use Rattle.vs_types.specs.Depth.{index_at}
use Rattle.vs_types.specs.Entry.{rights_of}
use Rattle.vs_types.specs.declared.entries.entry.Meaning.TheVariants as entry
use Rattle.vs_walk.proofs.Walks.{few_levels}
use Rattle.vs_plan.specs.Planner.{AwaitsWords}
use Rattle.vs_plan.specs.Shown.{IsDescended}
use Rattle.vs_plan.proofs.Descending.{shown_on}
use Rattle.nrvs_plan_c.specs.Kept.{planner_in}
use Rattle.nrvs_plan_c.proofs.Keeping.{address_in, goes_down}
use Rattle.nrvs_plan_c.proofs.Shown.{awaits_down, descended_down, frame_within, sound_below}
use Rattle.nrvs_plan_c.proofs.ways.down.go_down.Goals as goal

pub goes_on_below-requires : goal.goes_on_below-requires
goes_on_below-requires c = (awaits_down c.args.plan.now c.requires.descent c.requires.sound).some

pub returns-clause-sound : goal.returns-clause-sound
returns-clause-sound c =
    let plan = c.args.plan.now in
    let down = c.if-not-goes_on_below.false in
    let awaits : AwaitsWords (planner_in plan) = awaits_down plan c.requires.descent c.requires.sound in
    sound_below plan c.requires.descent _ _ _ _ c.requires.sound (c.goes_on_below.ensures.some down) refl (c.goes_on_below.ensures.below down)
    (frame_within _ plan.call.phys_bits awaits.request.phys_bits.from c.if-address-plan-ne0.false)

pub returns-clause-shown : goal.returns-clause-shown
returns-clause-shown c = λ did memory words shown read there.
    let p = planner_in c.args.plan.now in
    let descended : IsDescended memory p = descended_down c.args.plan.now c.requires.descent memory shown in
    let awaits : AwaitsWords p = awaits_down c.args.plan.now c.requires.descent c.requires.sound in
    let few = few_levels p.target.depth in
    let link = c.if-not-goes_on_below.false in
    shown_on {stop = c.args.plan.now.way.stop} read descended.met descended.way there
    (ap (index_at c.args.plan.now.way.level) (sym (address_in c.args.plan.now.call)))
    (omega arith) (inr (refl, λ low. absurd (omega (arith, low, c.if-level-plan.false)))) (omega (arith, few, awaits.few)) (omega (arith, few, awaits.few))
    awaits.some (c.is_link.ensures.yes c.if-not-is_link.false c.args.plan.now.way.level (c.goes_on_below.ensures.some link)
    ∙ ap (λ (n : ℕ). entry.Table (n / 4096) (rights_of c.args.word)) (sym c.address_bits-address.ensures))
    c.narrowed-plan.ensures (goes_down c.args.plan.now.way.phase c.requires.descent)

pub returns-clause-link : goal.returns-clause-link
returns-clause-link c = λ did.
    c.is_link.ensures.yes c.if-not-is_link.false c.args.plan.now.way.level (c.goes_on_below.ensures.some c.if-not-goes_on_below.false)
