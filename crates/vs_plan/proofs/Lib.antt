pub mod Kept
pub mod Orders
pub mod Stays
pub mod Replaced
pub mod WordOrders
pub mod Sufficing
pub mod Unread
pub mod Given
pub mod OneEntry
pub mod Forms
pub mod Apart
pub mod PlansSuffice
pub mod OtherRoots
pub mod BesidePlans
mod BesideRoots
pub mod UnstoredJoins
pub mod FirstRoots
pub mod EntryStores
pub mod Unlinks
pub mod RunWords
pub mod PartSpaces
mod OtherFlags
pub mod FlagsKept
mod FlaggedEntries
mod RightAgain
mod PutAgain
mod ToldAgain
mod AgainParts
pub mod Ways
pub mod Stored
pub mod Filled
pub mod Pages
pub mod Descending
pub mod Parts
pub mod Changing
pub mod Asking
pub mod Steps
pub mod Protecting
pub mod Addresses
pub mod Remapping
pub mod Unmapping
pub mod Linking
pub mod Runs
pub mod Growing
pub mod Mapping
pub mod Splitting
pub mod Dividing
pub mod Divided
mod FillsAgain
pub mod Searching
pub mod Grown
pub mod Requests
pub mod Giving
pub mod FoundAgain
pub mod Following
pub mod JoinedMemory
pub mod JoinedSpace
pub mod Joining
pub mod JoinedParts
pub mod Pruning
pub mod FollowParts
mod WrittenFrames
pub mod CollapsedSpace
pub mod Collapsing
pub mod PartsUnmapped
pub mod Gaps
mod LinkedEntries
mod OnWalks
