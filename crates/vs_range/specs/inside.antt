-- What comes of the words of a frame that are shown on the way down: no public clause cites it.
pub mod Entry
