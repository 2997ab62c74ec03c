use Rattle.std.proofs.Common.{List, Contains, refl, sym, subst, arith}
use Rattle.vs_types.specs.declared.requests.answer.Answer.{Answer}
use Rattle.nr_explain.proofs.chain.releases.reach_before.Goals as goal

pub returns-then-window-gt0 : goal.returns-then-window-gt0
returns-then-window-gt0 c = λ none look left leads. omega (arith, none, c.if-window-gt0.true)

pub returns-in-Some : goal.returns-in-Some
returns-in-Some c =
    let found = c.in-Some.ensures in record {
      none = omega (arith, c.if-window-gt0.false);
      seen = c.in-Some.look;
      is = refl;
      left = (c.in_ok-looks.ensures c.in-Some.look).0 (subst (λ (ls : List Answer). Contains ls c.in-Some.look) c.as_slice.ensures.value found.0);
      leads = found.1;
    }

pub returns : goal.returns
returns c = λ none look left leads.
    c.in-None.ensures look (subst (λ (ls : List Answer). Contains ls look) (sym c.as_slice.ensures.value) ((c.in_ok-looks.ensures look).1 left)) leads
