-- Lists of calls played on the machine: the operations, what happened, what refutes each part of the two rules; a list that breaks the
-- agreement rule; short lists at windows that are too short.
pub mod Play
pub mod Events
pub mod Refuted
pub mod PollRefuted
pub mod Breaks
pub mod Table
