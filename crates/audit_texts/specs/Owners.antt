-- The owner of tables, in words.
use Rattle.std.specs.Prelude.{ℕ, ◌++◌, List, codes, decimal}
use Rattle.nr_explain.specs.declared.trace.evidence.Owner.{Owner}
use Rattle.nr_explain.specs.declared.trace.evidence.Owner.TheVariants.{Dump, Start}

-- the first text of a dump, the second of a start
unfoldable pub of_owner : Owner → List ℕ → List ℕ → List ℕ
of_owner (Dump replica) dumps starts = dumps
of_owner Start dumps starts = starts

-- the name of what has the tables: the dump of a replica, or the start
unfoldable pub owner_text : Owner → List ℕ
owner_text (Dump replica) = codes "replica " ++ decimal replica
owner_text Start = codes "the start"
