mod CountsOfLines
mod Cuts
mod FirstLines
mod HeadsOfLines
mod NamesSoFar
mod NarrowLiterals
mod SaidByLines
mod SlotsOfWords
