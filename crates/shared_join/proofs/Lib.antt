pub mod WalkLaws
pub mod AlikeLaws
pub mod LaneLaws
pub mod RangeLaws
pub mod JoinLaws
pub mod NameLaws
