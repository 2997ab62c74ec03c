-- What stays of a machine in a step that sees, takes and applies no entry.
use Rattle.std.proofs.Common.{◌≡◌, ℕ, ◌+◌, ◌^◌, ◌<◌, ◌≤◌, Option, None, List, length, length-take, ap, sym, subst, ◌∙◌, arith}
use Rattle.nr_machine.specs.declared.asked.Reply.{Reply}
use Rattle.nr_machine.specs.declared.node.Node.{Node}
use Rattle.nr_machine.specs.declared.phase.Phase.{Phase}
use Rattle.nr_machine.specs.declared.words.Update.{Update}
use Rattle.nr_machine.specs.Actor.{update_at}
use Rattle.nr_machine.specs.Fields.{batch_of, got_of, phase_of, replies_of, standing_of}
use Rattle.nr_machine.specs.Sound.{IsIn, IsSound, IsWanting, Replied, StandsBelow}

-- the part of a machine of which `IsSound` speaks in every phase
pub record Core : Type 0 where
  pub nodes : ℕ
  pub number : ℕ
  pub last : ℕ
  pub ring : ℕ
  pub applied : ℕ
  pub taken : ℕ
  pub seen : ℕ
  pub from : ℕ
  pub batch_count : ℕ
  pub got_count : ℕ
  pub reply_count : ℕ
  pub standing : Option ℕ
  pub batch : List Update
  pub got : List Update
  pub replies : List Reply

abbrev pub core_of : Node → Core
core_of node = record {
  nodes = node.nodes;
  number = node.number;
  last = node.last;
  ring = node.ring;
  applied = node.applied;
  taken = node.taken;
  seen = node.seen;
  from = node.from;
  batch_count = node.batch_count;
  got_count = node.got_count;
  reply_count = node.reply_count;
  standing = standing_of node;
  batch = batch_of node;
  got = got_of node;
  replies = replies_of node;
}

-- with the same core, and what is to be known in its phase, a machine is sound
pub still : (old new : Node) → core_of new ≡ core_of old → IsSound old → IsIn (phase_of new) new → IsSound new
still old new same k within = let back = sym same in record {
  nodes = subst (λ (c : Core). c.nodes ≤ 64) back k.nodes;
  number = subst (λ (c : Core). c.number < c.nodes) back k.number;
  links = subst (λ (c : Core). (c.last < c.nodes) × (c.ring < c.nodes)) back k.links;
  few = subst (λ (c : Core). (c.batch_count ≤ 16) × (c.got_count ≤ 16) × (c.reply_count ≤ 16)) back k.few;
  small = subst (λ (c : Core). (i : ℕ) → (update_at c.batch i).second < 2 ^ 57) back k.small;
  seen = subst (λ (c : Core). c.seen < 2 ^ 57) back k.seen;
  order = subst (λ (c : Core). (c.applied ≤ c.taken) × (c.taken ≤ c.seen) × (c.seen ≤ c.taken + 16)) back k.order;
  count = subst (λ (c : Core). c.from + length c.got ≡ c.seen) back k.count;
  standing = subst (λ (c : Core). StandsBelow c.standing (length c.batch) c.seen) back k.standing;
  replied = subst (λ (c : Core). Replied c.standing (length c.batch) c.applied (length c.replies)) back k.replied;
  phase = within;
}

pub wanting_still : (old new : Node) → core_of new ≡ core_of old → IsWanting old → IsWanting new
wanting_still old new same wants = let back = sym same in record {
  standing = subst (λ (c : Core). c.standing ≡ None) back wants.standing;
  some = subst (λ (c : Core). 0 < length c.batch) back wants.some;
  even = subst (λ (c : Core). c.applied ≡ c.taken) back wants.even;
  room = subst (λ (c : Core). c.seen + length c.batch ≤ c.taken + 16) back wants.room;
  within = subst (λ (c : Core). c.seen + 16 < 2 ^ 57) back wants.within;
  last = subst (λ (c : Core). c.last < 128) back wants.last;
}

-- what holds in a phase that the machine is in
pub in_phase : (node : Node) (phase : Phase) → IsSound node → phase_of node ≡ phase → IsIn phase node
in_phase node phase k is = subst (λ p. IsIn p node) is k.phase

-- its updates are no more than a ring has
pub few_updates : (node : Node) → IsSound node → length (batch_of node) ≤ 16
few_updates node k = let most = k.few.0 in let count = length-take node.batch_count node.batch in omega (arith, most, count)
