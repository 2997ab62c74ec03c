-- A leaf that is written reads back as its page.
use Rattle.std.proofs.Common.{◌≡◌, ℕ, ◌%◌, ◌^◌, ◌<◌, Bool, true, false, arith}
use Rattle.vs_types.specs.Page.{level_of, bytes_of}
use Rattle.vs_types.specs.Entry.{meaning, leaf_word}
use Rattle.vs_types.specs.declared.addresses.page.Rights.{Rights}
use Rattle.vs_types.specs.declared.addresses.page.Size.{Size}
use Rattle.vs_types.specs.declared.addresses.page.Size.TheVariants.{K4, M2, G1}
use Rattle.vs_types.specs.declared.entries.entry.Meaning.TheVariants.{Leaf}

leaf_reads_bits : (size : Size) (phys : ℕ) (w u x : Bool) → phys % bytes_of size ≡ 0 → phys < 2 ^ 52
    → meaning (level_of size) (leaf_word size phys (record { write = w; user = u; exec = x })) ≡ Leaf phys (record { write = w; user = u; exec = x })
leaf_reads_bits K4 phys true true true a r = grind arith
leaf_reads_bits K4 phys true true false a r = grind arith
leaf_reads_bits K4 phys true false true a r = grind arith
leaf_reads_bits K4 phys true false false a r = grind arith
leaf_reads_bits K4 phys false true true a r = grind arith
leaf_reads_bits K4 phys false true false a r = grind arith
leaf_reads_bits K4 phys false false true a r = grind arith
leaf_reads_bits K4 phys false false false a r = grind arith
leaf_reads_bits M2 phys true true true a r = grind arith
leaf_reads_bits M2 phys true true false a r = grind arith
leaf_reads_bits M2 phys true false true a r = grind arith
leaf_reads_bits M2 phys true false false a r = grind arith
leaf_reads_bits M2 phys false true true a r = grind arith
leaf_reads_bits M2 phys false true false a r = grind arith
leaf_reads_bits M2 phys false false true a r = grind arith
leaf_reads_bits M2 phys false false false a r = grind arith
leaf_reads_bits G1 phys true true true a r = grind arith
leaf_reads_bits G1 phys true true false a r = grind arith
leaf_reads_bits G1 phys true false true a r = grind arith
leaf_reads_bits G1 phys true false false a r = grind arith
leaf_reads_bits G1 phys false true true a r = grind arith
leaf_reads_bits G1 phys false true false a r = grind arith
leaf_reads_bits G1 phys false false true a r = grind arith
leaf_reads_bits G1 phys false false false a r = grind arith

pub leaf_reads : (size : Size) (phys : ℕ) (rights : Rights) (word : ℕ) → word ≡ leaf_word size phys rights → phys % bytes_of size ≡ 0 → phys < 2 ^ 52
    → meaning (level_of size) word ≡ Leaf phys rights
leaf_reads size phys rights word e a r = rw e (leaf_reads_bits size phys rights.write rights.user rights.exec a r)
