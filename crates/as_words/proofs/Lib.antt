pub mod NumberLaws
pub mod PartLaws
pub mod WordLaws
pub mod AppendsLaws
pub mod JoinedLaws
pub mod WideLaws
