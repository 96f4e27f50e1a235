mod PolicyRows
mod LeavingRows
pub mod AllowedContents
pub mod Numbers
pub mod Comparisons
pub mod Holdings
pub mod Replays
pub mod Entries
pub mod Removals
pub mod Sound
pub mod MemberLemmas
pub mod Parts
pub mod SieveSound
pub mod S3FifoSound
pub mod AgingSound
pub mod WTinyLfuSound
pub mod RulesSound
pub mod Leavings
pub mod Settled
pub mod Writing
