use Rattle.std.proofs.Common.{inl}
use Rattle.nr_audit.proofs.OneReplica.{in_time_alone, in_time_behind}
use Rattle.nr_audit.proofs.laws.one_replica_never_lags.Goals as goal

pub returns-clause-alone : goal.returns-clause-alone
returns-clause-alone c = λ start segment touch in_range one clean has. (in_time_alone segment in_range one clean touch has start, λ in_time. inl in_time)

pub returns-clause-behind : goal.returns-clause-behind
returns-clause-behind c = λ run start segment touch in_range one clean has orderly.
    (in_time_behind segment in_range one clean touch has run orderly, λ in_time. inl in_time)
