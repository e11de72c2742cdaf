pub mod SetLaws
pub mod BlockLaws
pub mod KeepLaws
pub mod SlotLaws
