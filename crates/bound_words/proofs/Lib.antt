pub mod GivenByName
pub mod NamedLists
pub mod NamesLemmas
pub mod Needed
pub mod PolicyListRows
pub mod RisingLists
pub mod WordRows
