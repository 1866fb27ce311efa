-- Patterns of the binary formats, over the widths of their fields.
pub mod Patterns
