mod Sums
mod Rounds
mod Owners
