pub mod Findings
pub mod Texts
