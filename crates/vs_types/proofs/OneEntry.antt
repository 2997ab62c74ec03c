-- Words determine the entry that they spell; so they spell one entry at most.
use Rattle.std.proofs.Common.{◌≡◌, ℕ, ◌/◌, ◌^◌, Bool, true, false, List, get_or, refl, ap, subst, sym, ◌∙◌}
use Rattle.vs_types.specs.Codes.{size_code, rights_code}
use Rattle.vs_types.specs.Fields.{request_fields}
use Rattle.vs_types.specs.LogEntry.{IsLogEntry, SpellsEntry, log_words}
use Rattle.vs_types.specs.inside.Telling.{action_in, entry_in, is_one, rights_in, size_in}
use Rattle.vs_types.specs.declared.addresses.depth.Depth.{Depth}
use Rattle.vs_types.specs.declared.requests.fields.RequestFields.{RequestFields}
use Rattle.vs_types.specs.declared.log_entry.LogEntry.{LogEntry}
use Rattle.vs_types.specs.declared.requests.op.Action.{Action}
use Rattle.vs_types.specs.declared.requests.op.Action.TheVariants.{Map, Unmap, Protect}
use Rattle.vs_types.specs.declared.addresses.page.Rights.{Rights}
use Rattle.vs_types.specs.declared.addresses.page.Size.{Size}
use Rattle.vs_types.specs.declared.addresses.page.Size.TheVariants.{K4}
use Rattle.vs_types.specs.declared.requests.request.Query.TheVariants.{Update}
use Rattle.vs_types.proofs.LogWords.{fields_at, finds_again}

pub size_back : (size : Size) → size_in (size_code size) ≡ size
unfolding size_in
size_back K4 = refl
size_back _ = refl

bits_back : (w u x : Bool) → rights_in (rights_code (record { write = w; user = u; exec = x })) ≡ record { write = w; user = u; exec = x }
unfolding rights_in is_one
bits_back true true true = refl
bits_back true true false = refl
bits_back true false true = refl
bits_back true false false = refl
bits_back false true true = refl
bits_back false true false = refl
bits_back false false true = refl
bits_back false false false = refl

pub rights_back : (rights : Rights) → rights_in (rights_code rights) ≡ rights
rights_back rights = bits_back rights.write rights.user rights.exec

abbrev pub action_of : RequestFields → Action
action_of f = action_in f.kind f.size f.rights f.address f.physical

action_back : (action : Action) → action_of (request_fields (Update action)) ≡ action
unfolding action_in
action_back (Map page) = λ i. Map (record { base = page.base; size = size_back page.size i; phys = page.phys; rights = rights_back page.rights i })
action_back (Unmap base) = refl
action_back (Protect base rights) = λ i. Protect base (rights_back rights i)

entry_at : (words : List ℕ) → entry_in words ≡ record { call = get_or words 1 0 / 2 ^ 39; op = action_of (fields_at (get_or words 0 0) (get_or words 1 0)) }
unfolding entry_in
entry_at words = refl

-- the operation that words determine is that of the entry that they spell
pub told_op : (depth : Depth) (words : List ℕ) (entry : LogEntry) → SpellsEntry depth words entry
    → action_of (fields_at (get_or words 0 0) (get_or words 1 0)) ≡ entry.op
told_op depth words entry is = ap action_of (finds_again depth words entry is).fields.fields_are ∙ action_back entry.op

-- words determine the entry that they spell
pub tells_it : (depth : Depth) (words : List ℕ) (entry : LogEntry) → SpellsEntry depth words entry → entry_in words ≡ entry
tells_it depth words entry is =
    let call = (finds_again depth words entry is).call in
    let op = told_op depth words entry is in
    entry_at words ∙ (λ i. record { call = call i; op = op i })

-- the words of an entry spell what they determine
pub spells_told : (depth : Depth) (words : List ℕ) (entry : LogEntry) → IsLogEntry depth entry → words ≡ log_words entry
    → SpellsEntry depth words (entry_in words)
spells_told depth words entry is are =
    let it : SpellsEntry depth words entry = record { is_entry = is; spelled = are } in
    subst (SpellsEntry depth words) (sym (tells_it depth words entry it)) it

pub one_entry : (depth other : Depth) (words : List ℕ) (p q : LogEntry) → SpellsEntry depth words p → SpellsEntry other words q → p ≡ q
one_entry depth other words p q ip iq = sym (tells_it depth words p ip) ∙ tells_it other words q iq
