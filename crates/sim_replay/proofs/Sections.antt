-- The lines of a text in front of its sections, and the lines of a section.
pub mod LinesBehind
pub mod SaidForms
pub mod PlainLines
pub mod SectionLines
pub mod SectionAdditions
pub mod FrontOfSections
pub mod WholeOfFront
