use Rattle.std.proofs.Common.{◌≡◌, ◌^◌, ◌<◌, None, sym, subst, arith}
use Rattle.vs_types.specs.Page.{IsPage}
use Rattle.vs_types.specs.Space.{least_overlapped}
use Rattle.vs_plain.specs.Plain.{BoundedSpace}
use Rattle.vs_plain.proofs.FewTables.{few_levels, few_tables}
use Rattle.vs_plain.proofs.Tables.{is_with}
use Rattle.vs_plain.proofs.plain.PlainSpace.add.Goals as goal

pub overflow_add-self : goal.overflow_add-self
overflow_add-self c =
    let few : c.self.inside.tables < 2 ^ 46 = subst (λ n. n < 2 ^ 46) (sym c.self.invariant.counted) (few_tables c.self.invariant.is_space) in
    omega (arith, few, c.new_tables-more.ensures.few, few_levels c.self.inside.depth)

pub invariant_of-self-2 : goal.invariant_of-self-2
invariant_of-self-2 c =
    let free : None ≡ least_overlapped c.self.inside.page_map c.args.page =
    subst (λ (k : BoundedSpace). None ≡ least_overlapped k.space c.args.page) (sym c.self.view_is) (sym c.requires.free) in
    let good : IsPage c.self.inside.depth c.args.page = subst (λ (k : BoundedSpace). IsPage k.depth c.args.page) (sym c.self.view_is) c.requires.well_formed in
    rw c.in_ok-insert.ensures.ok record {
      is_space = is_with c.self.invariant.is_space c.args.page good (sym free);
      counted = omega (arith, c.self.invariant.counted, c.new_tables-more.ensures.more);
    }
