pub mod Answers
pub mod Contents
pub mod Decoding
pub mod Laws
pub mod Named
pub mod Refused
pub mod Searched
pub mod Words
