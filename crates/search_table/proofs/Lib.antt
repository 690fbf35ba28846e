mod RowLemmas
mod Worths
mod Tables
mod Steps
