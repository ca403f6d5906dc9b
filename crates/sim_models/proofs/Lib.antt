pub mod ModelsAreRead
