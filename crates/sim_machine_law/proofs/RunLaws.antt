-- Units, runs, what they write and what they draw.
pub mod UnitLaws
pub mod WrittenLines
pub mod LineLaws
pub mod TraceLaws
pub mod JournalLaws
pub mod MadeUnits
pub mod DrawnNumbers
