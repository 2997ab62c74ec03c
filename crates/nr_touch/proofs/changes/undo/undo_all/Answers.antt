use Rattle.std.proofs.Common.{◌≡◌, ℕ, ◌+◌, ◌-◌, ◌<◌, false, List, length, get_or, take, sym, ap, ◌∙◌, subst, refl, arith}
use Rattle.std.proofs.lemmas.List.{take_all}
use Rattle.vs_types.specs.Space.{Space}
use Rattle.vs_types.specs.declared.addresses.depth.Depth.{Depth}
use Rattle.vs_types.specs.declared.addresses.page.Size.TheVariants.{K4}
use Rattle.vs_plain.specs.Plain.{BoundedSpace}
use Rattle.nr_touch.specs.declared.changes.change.Change.{Change}
use Rattle.nr_touch.specs.inside.Undo.{ComesFrom, LeadsTo}
use Rattle.nr_touch.proofs.Undone.{last_of, same_bounded}
use Rattle.nr_touch.proofs.changes.undo.undo_all.Goals as goal

abbrev no_change : Change
no_change = record {
  page = record { base = 0; size = K4; rights = record { write = false; user = false; exec = false }; phys = 0 };
  was_mapped = false;
  takes = false;
}

-- the change that is undone next, and the changes that are then left
next_undone : (depth own : Depth) (before : Space) (changes : List Change) (undone : ℕ) (after : Space) → own ≡ depth → undone < length changes
    → LeadsTo depth before (take (length changes - undone) changes) after
    → (next : Space) × LeadsTo depth before (take (length changes - (undone + 1)) changes) next
    × ComesFrom own next after (get_or changes (length changes - 1 - undone) no_change)
next_undone depth own before changes undone after same within leads =
    let left : ℕ = length changes - 1 - undone in
    let now : length changes - undone ≡ left + 1 = omega (arith, within) in
    let later : left ≡ length changes - (undone + 1) = omega (arith, within) in
    let (next, less, from) = last_of depth before changes left no_change after (omega (arith, within))
    (subst (λ n. LeadsTo depth before (take n changes) after) now leads) in (
      next,
      subst (λ n. LeadsTo depth before (take n changes) next) later less,
      subst (λ d. ComesFrom d next after (get_or changes left no_change)) (sym same) from,
    )

pub loop-undone-init : goal.loop-undone-init
loop-undone-init c = record {
  depth = refl;
  limit = refl;
  leads = λ before leads.
      rw (take_all (length c.args.changes.now - 0) c.args.changes.now (omega arith)) leads;
}

pub undo-requires : goal.undo-requires
undo-requires c =
    let (before, leads) = c.requires in
    let inv = c.loop-undone.invariant in
    let (next, less, from) = next_undone c.args.space.depth c.loop-undone.space.depth before c.args.changes.now c.loop-undone.undone
    c.loop-undone.space.space inv.depth c.loop-undone-test.true (inv.leads before leads) in
    (next, from)

pub loop-undone-preserved : goal.loop-undone-preserved
loop-undone-preserved c =
    let (start, leads) = c.requires in
    let inv = c.loop-undone.invariant in
    let (next, less, from) = next_undone c.args.space.depth c.loop-undone.space.depth start c.args.changes.now c.loop-undone.undone
    c.loop-undone.space.space inv.depth c.loop-undone-test.true (inv.leads start leads) in
    let is = c.in_ok-undo.ensures next from in
    record {
      depth = ap (λ (s : BoundedSpace). s.depth) is ∙ inv.depth;
      limit = ap (λ (s : BoundedSpace). s.limit) is ∙ inv.limit;
      leads = λ before own.
          let (reached, left, last) = next_undone c.args.space.depth c.loop-undone.space.depth before c.args.changes.now c.loop-undone.undone
          c.loop-undone.space.space inv.depth c.loop-undone-test.true (inv.leads before own) in
          subst (LeadsTo c.args.space.depth before (take (length c.args.changes.now - (c.loop-undone.undone + 1)) c.args.changes.now))
          (sym (ap (λ (s : BoundedSpace). s.space) (c.in_ok-undo.ensures reached last))) left;
    }

pub returns : goal.returns
returns c = λ before leads.
    let changes = c.args.changes.now in
    let inv = c.loop-undone.invariant in
    let none : length changes - c.loop-undone.undone ≡ 0 = omega (arith, c.loop-undone-test.false) in
    let same : before ≡ c.loop-undone.space.space =
    subst (λ n. LeadsTo c.args.space.depth before (take n changes) c.loop-undone.space.space) none (inv.leads before leads) in
    same_bounded c.loop-undone.space (record c.args.space { space = before }) inv.depth inv.limit (sym same)
