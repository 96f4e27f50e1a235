pub mod RecentLemmas
pub mod RefusalLemmas
pub mod ShownLemmas
