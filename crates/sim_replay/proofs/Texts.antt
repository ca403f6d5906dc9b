-- A text with a journal behind its other lines.
pub mod EndedLines
pub mod LinesWithJournals
pub mod TextsWithJournals
