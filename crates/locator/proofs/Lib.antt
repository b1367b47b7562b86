pub mod Numbers
pub mod WordsRead
pub mod Written
