-- What is promised: the page of promises, and the definitions and soundings that it names.
pub mod FirstEdition
pub mod Promises
pub mod Counts
pub mod InquiryRead
pub mod Answerable
pub mod Read
pub mod Counted
pub mod Soundings
