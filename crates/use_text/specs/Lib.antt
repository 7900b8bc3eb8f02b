-- The page that text is put on, and laws about it.
pub mod Page
pub mod Numbers
