-- The definition of the sheet writer, and its round trips with the reader.
pub mod Write
pub mod WriteExport
pub mod RoundTrip
