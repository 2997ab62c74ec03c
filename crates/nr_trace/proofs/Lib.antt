pub mod Events
pub mod Words
pub mod Counts
pub mod Touches
pub mod Units
pub mod Spelled
pub mod Taken
pub mod Frames
pub mod DumpHeads
pub mod Whole
mod ExamplesOfSpelling
mod ExamplesOfAnswers
mod ExamplesOfOrders
pub mod ExamplesOfFaults
mod ExamplesOfDumps
mod ExamplesOfFormats
pub mod ExamplesOfRanges
mod ExamplesOfSegments
pub mod LawsOfUnits
pub mod EventsApart
pub mod LawsOfSpelling
pub mod LawsOfLength
pub mod LawsOfFormat
pub mod LawsOfFronts
pub mod Assembled
pub mod Known
pub mod UnitsOfBytes
pub mod LawsOfBytes
pub mod LawsOfLists
pub mod LawsOfCalls
pub mod LawsOfHistories
pub mod LawsOfOrder
pub mod LawsOfPrecedence
pub mod LawsOfFaults
pub mod LawsOfDumps
pub mod LawsOfSteps
pub mod OnlySpelled
pub mod LawsOfPieces
pub mod Images
pub mod Written
pub mod Framed
pub mod Feeding
pub mod FeedingSegments
pub mod Runs
pub mod Lengths
pub mod Lists
pub mod Parts
pub mod Orders
pub mod Places
pub mod Orderly
pub mod Associated
