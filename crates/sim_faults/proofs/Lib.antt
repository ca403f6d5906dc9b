mod LongerTables
mod OpenBlocks
mod OperandTests
mod SortCounts
mod VariablesSoFar
