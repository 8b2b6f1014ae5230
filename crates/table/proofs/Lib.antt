pub mod Bytes
mod Runs
mod Tables
mod Stored
mod Named
mod Judged
mod Kept
mod Apart
mod Flaws
mod Only
mod Steps
mod Cases
