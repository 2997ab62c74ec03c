pub mod Words
pub mod Tasks
pub use Rattle.audit_readers.specs.Answers
pub use Rattle.audit_texts.specs.AuditJson
pub use Rattle.audit_texts.specs.Explained
pub use Rattle.audit_readers.specs.Refusals
pub use Rattle.audit_readers.specs.ChainAudit
pub use Rattle.audit_readers.specs.ChainPages
pub use Rattle.audit_texts.specs.ChainJson
pub use Rattle.audit_texts.specs.ChainText
pub use Rattle.audit_readers.specs.PagesAnswers as PagesAnswers
pub use Rattle.clap.specs.Words as ClapWords
