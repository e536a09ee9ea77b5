mod Naming
mod Tagging
mod Driving
mod Nodes
mod Overs
mod Extracting
mod Finishing
