mod CountedWays
mod Ends
mod Targets
