pub mod ConfFiles
pub mod PqactFiles
pub mod Texts
pub mod Words
