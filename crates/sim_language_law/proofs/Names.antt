-- Lists of things with names, and the names that are declared in a text without a fault.
pub mod NamedLists
pub mod NamesApart
pub mod DeclaredNames
pub mod GoodNames
