pub mod PieceLaws
pub mod CutLaws
pub mod WrittenLaws
pub mod ToldLaws
pub mod ReadLaws
pub mod BackLaws
pub mod KindLaws
