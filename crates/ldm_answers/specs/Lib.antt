pub mod Number
pub mod Texts
pub mod TextReads
pub mod Answer
pub mod ReadsBack
