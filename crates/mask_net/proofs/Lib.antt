mod Verdict
mod Steps
