use Rattle.vs_range.proofs.Several.{lived_suffice, lived_unreached, lived_freed}
use Rattle.vs_range.proofs.Between.{lived_between}
use Rattle.vs_range.proofs.Reading.{lived_reading, lived_flushing}
use Rattle.vs_range.proofs.laws.flushes_of_several_plans_suffice.Goals as goal

pub returns : goal.returns
returns c = record {
  after = λ target memory now space calls. lived_suffice target memory now space calls;
  read = λ target memory now space calls. lived_reading target memory now space calls;
  unreached = λ target memory now space calls. lived_unreached target memory now space calls;
  freed = λ target memory now space calls. lived_freed target memory now space calls;
  between = lived_between;
  flushing = lived_flushing;
}
