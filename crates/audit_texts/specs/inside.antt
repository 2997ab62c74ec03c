-- Steps on the way to what public clauses say: none cites them.
pub mod Taking
