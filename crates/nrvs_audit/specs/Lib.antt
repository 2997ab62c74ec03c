pub mod CommandLine
pub use Rattle.audit_commands.specs.Words
pub use Rattle.audit_commands.specs.Tasks
pub use Rattle.clap.specs.Words as ClapWords
