pub mod Posters
