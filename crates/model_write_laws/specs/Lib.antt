-- Laws of the sheet writer's definition.
pub mod Sizes
pub mod Laid
pub mod Facts
pub mod Stored
