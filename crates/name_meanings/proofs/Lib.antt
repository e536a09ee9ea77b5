mod Noting
mod Definitions
