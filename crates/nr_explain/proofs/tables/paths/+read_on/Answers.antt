use Rattle.std.proofs.Common.{◌≡◌, ℕ, ◌-◌, List, [], ◌∷◌, ◌++◌, Some, None, sym, ap, ◌∙◌, arith}
use Rattle.std.proofs.lemmas.List.{append-nil}
use Rattle.std.proofs.lemmas.Result.{on_ok_weaker}
use Rattle.std.specs.FinMap as finite
use Rattle.vs_types.specs.Entry.{meaning}
use Rattle.nr_explain.specs.Facts.{entries_read}
use Rattle.nr_explain.specs.declared.trace.evidence.TableEntry.{TableEntry}
use Rattle.nr_explain.proofs.Walked.{read_last, read_missing, read_more, read_nowhere, step_at}
use Rattle.nr_explain.proofs.tables.paths.+read_on.Goals as goal

pub returns-then-level-eq0 : goal.returns-then-level-eq0
returns-then-level-eq0 t c =
    let read : List TableEntry = c.args.path.now.items in
    let none = read_nowhere c.args.dump.now.frames c.args.level c.args.number c.args.address (omega (arith, c.if-level-eq0.true)) in
    sym (ap (λ (l : List TableEntry). read ++ l) none ∙ append-nil read)

pub returns-in_default : goal.returns-in_default
returns-in_default t c =
    let read : List TableEntry = c.args.path.now.items in
    let gone : finite.get c.args.dump.now.frames c.args.number ≡ None = sym c.in_default.ensures in
    sym (ap (λ (l : List TableEntry). read ++ l) (read_missing c.args.dump.now.frames c.args.level c.args.number c.args.address gone) ∙ append-nil read)

pub returns-in-Table : goal.returns-in-Table
returns-in-Table t c =
    let memory = c.args.dump.now.frames in
    let level : ℕ = c.args.level in
    let read : List TableEntry = c.args.path.now.items in
    let some : finite.get memory c.args.number ≡ Some c.in-Some.words = sym c.in-Some.ensures in
    let means : c.read.result ≡ meaning level c.word-word.result = c.read.ensures ∙ ap (meaning level) c.new.ensures in
    let pushed : c.push.new.self.items ≡ read ++ step_at level c.args.number c.index_at-index.result c.word-word.result ∷ [] = c.in_ok-push.ensures.items in
    on_ok_weaker c.read_on.result
    (λ goes. read_more memory level c.args.number c.index_at-index.result c.word-word.result c.args.address c.in-Table.next c.in-Table.field-1 c.in-Some.words
    c.read.result read c.read_on.new.path.items (omega (arith, c.if-level-eq0.false)) some c.index_at-index.ensures.is c.word-word.ensures means c.in-Table.is
    (goes ∙ ap (λ (l : List TableEntry). l ++ entries_read memory (level - 1) c.in-Table.next c.args.address) pushed)) c.read_on.ensures

pub returns : goal.returns
returns t c =
    let memory = c.args.dump.now.frames in
    let level : ℕ = c.args.level in
    let read : List TableEntry = c.args.path.now.items in
    let some : finite.get memory c.args.number ≡ Some c.in-Some.words = sym c.in-Some.ensures in
    let means : c.read.result ≡ meaning level c.word-word.result = c.read.ensures ∙ ap (meaning level) c.new.ensures in
    let pushed : c.push.new.self.items ≡ read ++ step_at level c.args.number c.index_at-index.result c.word-word.result ∷ [] = c.in_ok-push.ensures.items in
    pushed ∙ read_last memory level c.args.number c.index_at-index.result c.word-word.result c.args.address c.in-Some.words c.read.result read
    (omega (arith, c.if-level-eq0.false)) some c.index_at-index.ensures.is c.word-word.ensures means c.in_default-read.not-Table
