pub mod CoverLaws
pub mod Covers
pub mod Either
pub mod Marks
pub mod Sheets
