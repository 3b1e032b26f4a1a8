-- The intake of IDENTIFY data off the wire, and a stream that arrives as runs.
pub mod Intake
pub mod Stream
