use Rattle.std.proofs.Common.{◌≡◌, ◌++◌, IfNone, IfSome, length, take}
use Rattle.nr_node.specs.Calls.{IsAnsweredIn, IsOwnPlace, LacksUpdate, entries_of}
use Rattle.nr_node.proofs.replica.Replica.apply_batch.Given as goal

abbrev pub invariant-loop-waiting : goal.invariant-loop-waiting
invariant-loop-waiting g l = (l.self ≡ record l.fn.self { entries = l.fn.self.entries ++ entries_of (take l.waiting-index l.batch.items) })
    × IfSome l.own (λ update. IsAnsweredIn l.fn.self.depth l.fn.self.tables l.self.entries l.wanted update.0 update.1)
    × IfNone l.own (LacksUpdate l.thread l.wanted (take l.waiting-index l.batch.items))
    × IfSome l.own (λ update. IsOwnPlace l.thread l.wanted l.batch.items (length l.fn.self.entries) update.0)
