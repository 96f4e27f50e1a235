pub mod Places
pub mod SlotPlaces
