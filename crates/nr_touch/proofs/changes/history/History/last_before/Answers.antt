use Rattle.std.proofs.Common.{◌+◌, ◌<◌, length, refl, arith}
use Rattle.std.proofs.lemmas.List.{get_or_read}
use Rattle.nr_touch.specs.inside.Bounds.{IsBoundary}
use Rattle.nr_touch.proofs.Alikes.{before_next, none_behind, some_base}
use Rattle.nr_touch.proofs.Found.{boundary_of}
use Rattle.nr_touch.proofs.changes.history.History.last_before.Goals as goal

pub returns-then-behind-len : goal.returns-then-behind-len
returns-then-behind-len c =
    let h = c.args.self.now in
    let k = c.search-behind.result in
    let found : IsBoundary h.pages.items h.places.items (c.args.address + 4095) 0 k =
    boundary_of _ _ _ _ _ _ _ k c.deref.ensures.value c.deref-2.ensures.value refl c.search-behind.ensures in
    none_behind h c.requires.columns c.args.address k c.requires.frame found (omega (arith, c.if-behind-len.true, c.len.ensures, h.pages.ok.0))
    18446744073709551615 (let fits = c.ranges.address.fits in omega (arith, fits))

pub overflow_sub-result-2 : goal.overflow_sub-result-2
overflow_sub-result-2 c =
    let h = c.args.self.now in
    let k = c.search-behind.result in
    let found : IsBoundary h.pages.items h.places.items (c.args.address + 4095) 0 k =
    boundary_of _ _ _ _ _ _ _ k c.deref.ensures.value c.deref-2.ensures.value refl c.search-behind.ensures in
    let there : k < length h.pages.items = let w = found.within in omega (arith, w, c.if-behind-len.false, c.len.ensures) in
    some_base h c.requires.columns c.args.address k c.requires.frame found there c.index-number.result.now
    (get_or_read h.pages.items k c.index-number.result.now there c.index-number.ensures 0)

pub returns : goal.returns
returns c =
    let h = c.args.self.now in
    let k = c.search-behind.result in
    let found : IsBoundary h.pages.items h.places.items (c.args.address + 4095) 0 k =
    boundary_of _ _ _ _ _ _ _ k c.deref.ensures.value c.deref-2.ensures.value refl c.search-behind.ensures in
    let there : k < length h.pages.items = let w = found.within in omega (arith, w, c.if-behind-len.false, c.len.ensures) in
    let is = get_or_read h.pages.items k c.index-number.result.now there c.index-number.ensures 0 in
    let some = some_base h c.requires.columns c.args.address k c.requires.frame found there c.index-number.result.now is in
    before_next h c.requires.columns c.args.address k c.requires.frame found there c.index-number.result.now _ is (omega (arith, some))
