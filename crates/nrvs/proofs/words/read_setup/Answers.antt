use Rattle.std.proofs.Common.{ℕ, codes, subst, sym}
use Rattle.clap.specs.Words.{found_of, rows_of}
use Rattle.clap.specs.Walk.{one_of}
use Rattle.clap.proofs.WalkLemmas.{one_text-rows}
use Rattle.nrvs.specs.CommandLine.{IsNumber}
use Rattle.nrvs.proofs.CommandLines.{number_of}
use Rattle.nrvs.proofs.words.read_setup.Goals as goal

pub returns : goal.returns
returns c =
    let found = found_of c.args.given.now in
    let levels = number_of 4 5 4 _ _ _ (one_text-rows found (codes "levels")) c.read_number.ensures.number in
    record {
      depth = subst (λ (n : ℕ). IsNumber 4 5 4 (one_of (codes "levels") (rows_of found)) n) (sym c.depth_of-depth.ensures) levels;
      replicas = number_of 1 4 1 _ _ _ (one_text-rows found (codes "replicas")) c.read_number-replicas.ensures.number;
      tables = number_of 1 4096 4096 _ _ _ (one_text-rows found (codes "tables")) c.read_number-tables.ensures.number;
    }
