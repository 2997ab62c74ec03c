-- Loop invariants and the insides of models: no public clause cites them.
pub mod Begun
pub mod Chains
pub mod Dumps
pub mod Indexes
pub mod LastCalls
pub mod LastEvents
pub mod Meetings
pub mod Passes
pub mod Prefixes
pub mod Replies
pub mod Search
pub mod Tables
