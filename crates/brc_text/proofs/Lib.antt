pub mod NumberLaws
pub mod KeywordLaws
pub mod TokenLaws
pub mod LineLaws
pub mod PutLaws
mod Input_Read
pub mod Filling
