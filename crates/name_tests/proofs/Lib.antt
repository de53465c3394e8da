mod Odds
mod Valid
