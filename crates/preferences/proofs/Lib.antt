pub mod Certificates
pub mod FurtherRows
pub mod Held
pub mod Judged
pub mod Lists
pub mod Rankings
pub mod Rules
