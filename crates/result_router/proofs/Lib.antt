pub mod RunLaws
pub mod CutLaws
pub mod SoundLaws
pub mod OrderLaws
pub mod HeldLaws
pub mod FewLaws
pub mod PieceLaws
