mod Cuts
pub mod LineLaws
mod Numbers
mod Ranges
mod ReadBack
mod Words
