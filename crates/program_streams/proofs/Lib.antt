pub mod Facts
mod Filling
mod FourStatuses
mod FrontWritten
mod WholeInput
