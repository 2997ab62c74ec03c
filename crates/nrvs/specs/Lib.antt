pub mod Program
pub mod CommandLine
pub mod RunText
pub mod Simulation
pub mod ServedRun
pub mod ServedChain
-- models and loops
pub mod inside
pub use Rattle.vs_types.specs.Config
pub use Rattle.vs_types.specs.Depth
pub use Rattle.vs_types.specs.Refusal
pub use Rattle.vs_text.specs.Words
pub use Rattle.nr_trace.specs.Recording
pub use Rattle.nr_trace.specs.Spelling
pub use Rattle.nr_audit.specs.Headline
pub use Rattle.nr_core.specs.State
pub use Rattle.nr_core.specs.Run
pub use Rattle.nr_script.specs.Script
pub use Rattle.audit_readers.specs.Answers
pub use Rattle.audit_readers.specs.Refusals
pub use Rattle.audit_texts.specs.Text
pub use Rattle.audit_commands.specs.Words as CommandWords
pub use Rattle.audit_commands.specs.Tasks
pub use Rattle.clap.specs.Words as ClapWords
