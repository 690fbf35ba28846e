mod Walks
mod Steps
mod Passing
mod ItemStarts
mod Words
mod Along
mod Journeys
