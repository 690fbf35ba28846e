mod LintRuns
mod Telling
mod Findings
mod Works
pub mod Facts
