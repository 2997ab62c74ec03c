-- What was written after what was there, whatever it is.
use Rattle.std.proofs.Common.{ℕ, List, [], ◌++◌, Option}
use Rattle.std.proofs.KnownBytes.{Appends-nil, Appends-trans}
use Rattle.audit_readers.specs.inside.Going.{Grows}

pub grows_nothing : (a : Option (List ℕ)) → Grows a a
grows_nothing a = ([], Appends-nil a)

pub grows_on : (a b c : Option (List ℕ)) → Grows a b → Grows b c → Grows a c
grows_on a b c (first, one) (second, other) = (first ++ second, Appends-trans a b c first second one other)
