-- What a configuration is, and what is wrong with numbers that are none.
use Rattle.std.specs.Prelude.{ℕ, ◌≤◌, ◌||◌, nat_lt, Option, Some, None, if◌then◌else◌}
use Rattle.vs_types.specs.declared.limits.TheConstants.{REPLICAS, THREADS, TABLES}
use Rattle.vs_types.specs.declared.addresses.depth.Depth.{Depth}
use Rattle.vs_types.specs.declared.addresses.config.BadConfig.{BadConfig}
use Rattle.vs_types.specs.declared.addresses.config.BadConfig.TheVariants.{Replicas, Threads, Tables}

-- the parts of a configuration
pub record Layout : Type 0 where
  pub depth : Depth
  pub replicas : ℕ
  pub threads : ℕ
  pub tables : ℕ

-- 1 to 4 replicas, and at least one thread, and one table for each replica, but no more than these
pub record IsLayoutWithin (threads tables : ℕ) (layout : Layout) : Type 0 where
  pub some_replica : 1 ≤ layout.replicas
  pub few_replicas : layout.replicas ≤ REPLICAS
  pub some_thread : 1 ≤ layout.threads
  pub few_threads : layout.threads ≤ threads
  pub some_table : 1 ≤ layout.tables
  pub few_tables : layout.tables ≤ tables

-- 1 to 4 replicas, 1 to 64 threads, 1 to 4,096 tables for each replica
abbrev pub IsLayout : Layout → Type 0
IsLayout layout = IsLayoutWithin THREADS TABLES layout

-- the first part that is out of its range
abbrev pub config_fault : Layout → Option BadConfig
config_fault layout =
    if nat_lt layout.replicas 1 || nat_lt REPLICAS layout.replicas then Some Replicas
    else if nat_lt layout.threads 1 || nat_lt THREADS layout.threads then Some Threads
    else if nat_lt layout.tables 1 || nat_lt TABLES layout.tables then Some Tables
    else None
