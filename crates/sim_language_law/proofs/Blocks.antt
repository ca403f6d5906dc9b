-- Blocks are closed, and statements go on where they should.
pub mod ClosedBlocks
pub mod BlockFrames
pub mod OpenWiths
pub mod MadeStatements
pub mod ProcessFirsts
pub mod StandingCode
pub mod ClosedTexts
