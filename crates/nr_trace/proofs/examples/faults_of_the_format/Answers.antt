use Rattle.nr_trace.proofs.ExamplesOfFormats as formats
use Rattle.nr_trace.proofs.examples.faults_of_the_format.Goals as goal

pub returns-clause-nothing : goal.returns-clause-nothing
returns-clause-nothing c = formats.nothing

pub returns-clause-magic : goal.returns-clause-magic
returns-clause-magic c = formats.magic

pub returns-clause-version : goal.returns-clause-version
returns-clause-version c = formats.version

pub returns-clause-less : goal.returns-clause-less
returns-clause-less c = formats.less

pub returns-clause-more : goal.returns-clause-more
returns-clause-more c = formats.more
