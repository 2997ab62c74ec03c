-- The words of a field of an event that isn't what it may be.
use Rattle.std.specs.Prelude.{ℕ, ◌++◌, ◌==◌, List, [], codes, decimal, Option, Some, None, if◌then◌else◌}
use Rattle.vs_text.specs.Words.{hexadecimal}
use Rattle.nr_explain.specs.declared.fields.EventField.{EventField}
use Rattle.nr_explain.specs.declared.fields.EventField.TheVariants.{Tag, Replica, Thread, Kind, Size, Access, Rights, Mode, Unused, Address, Physical, Answer}
use Rattle.nr_explain.specs.declared.fields.EventField.TheVariants.{Value}
use Rattle.nr_explain.specs.declared.fields.FieldFault.{FieldFault}
use Rattle.nr_explain.specs.declared.fields.FieldFault.TheVariants.{NotBelow, NotCanonical, NotMultiple, Beyond}
use Rattle.nr_explain.specs.declared.fields.BadField.{BadField}

-- the name of a field of an event
unfoldable pub name_text : EventField → List ℕ
name_text Tag = codes "its tag is "
name_text Replica = codes "its replica is "
name_text Thread = codes "its thread is "
name_text Kind = codes "its kind is "
name_text Size = codes "its size is "
name_text Access = codes "its access is "
name_text Rights = codes "its rights are "
name_text Mode = codes "its mode is "
name_text Unused = codes "its unused bytes are "
name_text Address = codes "its address is "
name_text Physical = codes "its physical address is "
name_text Answer = codes "its answer is "
name_text Value = codes "its value is "

-- the number that a field has: an address, or another
unfoldable pub value_text : EventField → ℕ → List ℕ
value_text Address value = hexadecimal value
value_text Physical value = hexadecimal value
value_text Value value = hexadecimal value
value_text field value = decimal value

-- what a number has to be below
unfoldable pub limit_text : ℕ → List ℕ
limit_text limit = if limit == 1 then codes ", and not 0" else codes ", and not below " ++ decimal limit

-- why a field isn't what it may be
unfoldable pub why_text : FieldFault → List ℕ
why_text (NotBelow limit) = limit_text limit
why_text (NotCanonical levels) = codes ", which isn't canonical with " ++ (decimal levels ++ codes " levels")
why_text (NotMultiple bytes) = codes ", which is no multiple of " ++ hexadecimal bytes
why_text Beyond = codes ", and its page ends above 0x8000000000000"

-- a field, its value, and why it isn't what it may be
unfoldable pub field_text : BadField → List ℕ
field_text bad = name_text bad.field ++ (value_text bad.field bad.value ++ why_text bad.fault)

-- the end of a sentence on an event
unfoldable pub since_text : Option BadField → List ℕ
since_text None = []
since_text (Some bad) = codes ", since " ++ field_text bad
