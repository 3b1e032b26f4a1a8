-- The pending record: a command submitted to it, the completion of what it holds, and a history of both.
pub mod Record
pub mod Submit
pub mod Complete
pub mod History
