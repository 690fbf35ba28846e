mod FrameTexts
mod Requests
mod FoundTexts
mod Standing
mod Turning
mod Holding
mod Keeping
mod SessionLemmas
pub mod Facts
