pub mod SelectLaws
