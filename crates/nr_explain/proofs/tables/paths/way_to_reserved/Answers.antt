use Rattle.std.proofs.Common.{◌≡◌, ℕ, ◌-◌, Some, None, Option, Vec, Global, refl, subst, sym, arith}
use Rattle.vs_types.specs.Depth.{levels}
use Rattle.nr_explain.specs.Evidence.{IsRootPath}
use Rattle.nr_explain.specs.inside.Ways.{IsReservedAt}
use Rattle.nr_explain.specs.declared.trace.evidence.TableEntry.{TableEntry}
use Rattle.nr_explain.specs.declared.tables.paths.Target.{Target}
use Rattle.nr_explain.proofs.Dumped.{IsSought, found_from}
use Rattle.nr_explain.proofs.tables.paths.way_to_reserved.Goals as goal

abbrev word_at : ℕ → ℕ → Target
word_at frame index = record { frame = frame; reserved = Some index; other = None }

pub unreachable-requires : goal.unreachable-requires
unreachable-requires c =
    let target = word_at c.args.frame c.args.index in
    let nowhere = subst (λ (o : Option (Vec TableEntry Global)). IsSought c.args.dump.now target (levels c.args.depth) o) c.in_default.is
    c.in_ok-path.ensures in
    let (steps, level, leads, reserved) = c.requires in
    nowhere steps (record { rest = steps; end = level; goes_on = refl; leads = leads; met = record { reserved = reserved; other = tt } })

pub overflow_cast-len : goal.overflow_cast-len
overflow_cast-len c =
    let found = found_from c.args.depth c.args.dump.now (word_at c.args.frame c.args.index) c.in_ok-path.field-0 c.in-Some.path c.in-Some.is
    c.in_ok-path.ensures in
    omega (arith, found.down, found.few, c.len.ensures, c.in-Some.path.ok.0)

pub overflow_sub-levels : goal.overflow_sub-levels
overflow_sub-levels c =
    let found = found_from c.args.depth c.args.dump.now (word_at c.args.frame c.args.index) c.in_ok-path.field-0 c.in-Some.path c.in-Some.is
    c.in_ok-path.ensures in
    omega (arith, found.down, c.levels.ensures, c.len.ensures, c.in-Some.path.ok.0)

pub entry_at-entry-requires : goal.entry_at-entry-requires
entry_at-entry-requires c =
    let dump = c.args.dump.now in
    let found = found_from c.args.depth dump (word_at c.args.frame c.args.index) c.in_ok-path.field-0 c.in-Some.path c.in-Some.is c.in_ok-path.ensures in
    let level : found.end ≡ c.levels.result - c.len.result = omega (arith, found.down, c.levels.ensures, c.len.ensures, c.in-Some.path.ok.0) in
    subst (λ (l : ℕ). IsReservedAt dump.frames l c.args.frame c.args.index) level found.met.reserved

pub reserved_bit-requires-clause-few_levels : goal.reserved_bit-requires-clause-few_levels
reserved_bit-requires-clause-few_levels c =
    let found = found_from c.args.depth c.args.dump.now (word_at c.args.frame c.args.index) c.in_ok-path.field-0 c.in-Some.path c.in-Some.is
    c.in_ok-path.ensures in
    omega (arith, found.down, found.few, c.levels.ensures, c.entry_at-entry.ensures.level)

pub reserved_bit-requires-clause-reserved : goal.reserved_bit-requires-clause-reserved
reserved_bit-requires-clause-reserved c = c.entry_at-entry.ensures.reserved.reserved

pub returns-clause-leads : goal.returns-clause-leads
returns-clause-leads c =
    let dump = c.args.dump.now in
    let depth = c.args.depth in
    let found = found_from depth dump (word_at c.args.frame c.args.index) c.in_ok-path.field-0 c.in-Some.path c.in-Some.is c.in_ok-path.ensures in
    let entry = c.entry_at-entry in
    let level : found.end ≡ entry.result.level = omega (arith, found.down, c.levels.ensures, c.len.ensures, c.in-Some.path.ok.0, entry.ensures.level) in
    subst (λ (n : ℕ). IsRootPath depth dump entry.result.level n c.in-Some.path.items) (sym entry.ensures.frame)
    (subst (λ (l : ℕ). IsRootPath depth dump l c.args.frame c.in-Some.path.items) level found.leads)
