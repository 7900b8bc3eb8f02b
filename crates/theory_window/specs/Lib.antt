-- Windows that are too short: a list of calls for every window, that more processes and rounds change nothing of it, and that it breaks the
-- rule; the same of polls. The theorems that rest on these lists stand in proofs/.
pub mod Construction
pub mod More
pub mod Broken
pub mod PollBroken
pub mod PollMore
