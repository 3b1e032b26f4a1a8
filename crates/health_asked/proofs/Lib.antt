-- What a drive's answers stand for.
pub mod Answers
