use Rattle.std.proofs.Common.{◌≡◌, ◌<◌, ◌++◌, List, [], ◌∷◌, length, ap, sym, subst, ◌∙◌, arith}
use Rattle.std.proofs.Math.Seq.{take-length}
use Rattle.nr_node.specs.inside.AppliedEntry.{AppliedEntry}
use Rattle.vs_types.specs.Step.{step}
use Rattle.vs_space.specs.Table.{IsTableStep}
use Rattle.vs_types.specs.declared.log_entry.LogEntry.{LogEntry}
use Rattle.nr_node.specs.Spaces.{answer_at, space_of}
use Rattle.nr_node.specs.inside.Replica.{IsReplica, ReplicaState, entries_told, most_kept}
use Rattle.nr_node.proofs.Replicas.{as_many, one_more}
use Rattle.nr_node.proofs.replica.Replica.apply.Goals as goal

pub invariant_of-self : goal.invariant_of-self
invariant_of-self g c =
    let told = c.self.inside.told.items in
    let t : AppliedEntry = record { entry = c.args.entry; answer = c.apply-answer.result } in
    let past = c.self.inside.past.entries in
    let few : length told < most_kept = omega (
      arith,
      c.requires.room,
      ap (λ (r : ReplicaState). length r.entries) c.self.view_is,
      ap (λ (r : ReplicaState). r.base) c.self.view_is,
      as_many past told,
      c.self.invariant.base_is,
    ) in
    let P : List AppliedEntry → Type 0 =
    λ l. IsReplica c.apply-answer.new.self c.self.inside.past.count past l
    (Rattle.std.specs.Vec.vec_capacity c.push_reserved.new.self) in
    let Steps : LogEntry → Type 0 = λ e. IsTableStep c.self.inside.space e.op c.apply-answer.result c.apply-answer.new.self in
    subst P (sym (c.push_reserved.ensures.items ∙ ap (λ (u : AppliedEntry). told ++ u ∷ []) c.new.ensures))
    (one_more c.self.inside.space c.apply-answer.new.self c.self.inside.past.count past told t _ _ c.self.invariant
    (subst Steps c.entry-op.ensures.is c.apply-answer.ensures) few
    c.push_reserved.ensures.capacity)

pub returns-clause-answer : goal.returns-clause-answer
returns-clause-answer g c =
    let old = c.self.inside.space in
    let entries = c.self.inside.past.entries ++ entries_told c.self.inside.told.items in
    let op = c.args.entry.op in
    let Steps : LogEntry → Type 0 = λ e. IsTableStep old e.op c.apply-answer.result c.apply-answer.new.self in
    let now = (subst Steps c.entry-op.ensures.is c.apply-answer.ensures).steps (space_of old.depth old.limit entries) c.self.invariant.table_of in
    let At : ReplicaState → Type 0 = λ r. c.apply-answer.result ≡ answer_at r.depth r.tables r.entries (length r.entries) op in
    subst At c.self.view_is
    (now.0 ∙ ap (λ (l : List LogEntry). (step old.depth old.limit (space_of old.depth old.limit l) op).answer) (sym (take-length entries)))
