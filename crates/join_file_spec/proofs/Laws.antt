pub mod Contents
pub mod Asked
pub mod Read
pub mod Answers
pub mod Promised
