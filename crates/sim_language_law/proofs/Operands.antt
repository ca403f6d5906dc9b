-- Words where operands are wanted, and the operands of a line by the shape of its form.
pub mod Literals
pub mod ByShape
pub mod ShapeLengths
