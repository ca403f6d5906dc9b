mod DigitCounts
mod LineTexts
mod PairsBehind
mod WordsBehind
