pub mod Items
pub mod SieveQueues
pub mod Lines
pub mod ThreeParts
pub mod SmallAndMain
pub mod Rings
pub mod Circles
