-- Windows that are too short: the theorem, of sessions and of polls. (It stands here, and not in specs/, so that an edit of a list in
-- specs/ is refused because the theorem is false of the edited list.)
pub mod Theorem
pub mod PollTheorem
