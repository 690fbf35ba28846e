mod Feeding
mod LineLemmas
mod SizeLemmas
mod DeskLemmas
