use Rattle.std.proofs.Common.{◌^◌, ◌<◌, [], ◌∷◌, ◌++◌, length, sym, ap, subst, ◌∙◌, arith, length-append}
use Rattle.std.proofs.lemmas.List.Elements.{All-push}
use Rattle.std.specs.Prelude.{All}
use Rattle.vs_walk.specs.Dump.{OpenImage}
use Rattle.vs_walk.proofs.dump.OpenDump.push.Goals as goal

pub push_reserved-requires : goal.push_reserved-requires
push_reserved-requires c =
    omega (arith, c.requires, ap (λ (d : OpenImage). length d.coming) c.self.view_is, c.self.inside.coming.ok.0, c.self.invariant.room)

pub invariant_of-self : goal.invariant_of-self
invariant_of-self c = record {
  open_for = c.self.invariant.open_for;
  few = omega (
    arith,
    c.requires,
    ap (λ (d : OpenImage). length d.coming) c.self.view_is,
    ap length c.push_reserved.ensures.items,
    length-append c.self.inside.coming.items (c.args.word ∷ []),
  );
  fit = subst (All (λ word. word < 2 ^ 64)) (sym c.push_reserved.ensures.items)
      (All-push (λ word. word < 2 ^ 64) c.self.inside.coming.items c.args.word c.self.invariant.fit c.ranges.word.fits);
  room = omega (arith, c.self.invariant.room, c.push_reserved.ensures.capacity);
}

pub returns : goal.returns
returns c =
    let coming = c.push_reserved.ensures.items ∙ ap (λ (d : OpenImage). d.coming ++ c.args.word ∷ []) c.self.view_is in
    λ i. record { dump = (c.self.view_is i).dump; number = (c.self.view_is i).number; coming = coming i }
