use Rattle.std.proofs.Common.{◌≡◌, ◌<◌, ◌≤◌, [], ◌∷◌, suc, drop, length, slice_index_or, refl, sym, ap, ◌∙◌, rules}
use Rattle.std.proofs.Math.ListN.{drop_of_length-le}
use Rattle.std.proofs.Math.Seq.{drop-cons}
use Rattle.vs_types.specs.Query.{IsQuery}
use Rattle.vs_types.specs.declared.requests.request.Query.{Query}
use Rattle.nr_core.specs.inside.Parts.{thread_in, IsThread}
use Rattle.nr_core.proofs.Keeping.{seen_at, one_of}
use Rattle.nr_core.proofs.states.state.Core.next_request.Goals as goal

pub returns-then-made-len : goal.returns-then-made-len
returns-then-made-len c =
    let threads = c.self.inside.threads.items in
    let x = c.index-state.result.now in
    let within : c.args.thread < length threads = search rules in
    let at : x ≡ slice_index_or threads c.args.thread x = search rules in
    let below : x.made < length x.script.items = search rules in
    let read : c.index.result.now ≡ slice_index_or x.script.items x.made c.index.result.now = search rules in
    let good = one_of (IsThread c.self.inside.config.depth) threads c.args.thread x within at c.self.invariant.each_thread in
    let one = one_of (IsQuery c.self.inside.config.depth) x.script.items x.made c.index.result.now below read good.script in
    rw (← c.self.view_is) record {
      thread = thread_in x;
      left = drop (suc x.made) x.script.items;
      there = seen_at thread_in threads c.args.thread x within at;
      idle = c.in-Idle.is;
      next = drop-cons x.script.items x.made c.index.result.now below ∙ ap (λ (q : Query). q ∷ drop (suc x.made) x.script.items) (sym read);
      fits = one;
      in_range = search rules;
    }

pub returns-else-made-len : goal.returns-else-made-len
returns-else-made-len c =
    let threads = c.self.inside.threads.items in
    let x = c.index-state.result.now in
    let within : c.args.thread < length threads = search rules in
    let at : x ≡ slice_index_or threads c.args.thread x = search rules in
    let past : length x.script.items ≤ x.made = search rules in
    let nothing : (thread_in x).script ≡ [] = drop_of_length-le x.script.items past in
    rw (← c.self.view_is, seen_at thread_in threads c.args.thread x within at, nothing) refl
