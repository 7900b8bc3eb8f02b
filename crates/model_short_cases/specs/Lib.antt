-- Cases of short lists (document 02, wish 12).
pub mod Table
