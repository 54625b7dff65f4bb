pub mod GivenEach
pub mod TakenEach
