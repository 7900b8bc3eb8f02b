-- The rules as statements: what happened, machines and calls, the agreement rule, the same of polls; safe windows, contested.
pub mod Event
pub mod System
pub mod Calls
pub mod Rule
pub mod PollCalls
pub mod PollRule
pub mod Safe
pub mod Contested
