pub mod TimesLaws
pub mod WindowLaws
pub mod RangeLaws
