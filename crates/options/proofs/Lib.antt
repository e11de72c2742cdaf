pub mod NumberLaws
pub mod PairLaws
