pub mod Written
pub mod Answers
pub mod Played
pub mod ReachedByNumber
pub mod Marks
