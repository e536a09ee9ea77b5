pub mod FirstNumbers
mod BodyOwners
mod NotedFunctions
mod MeantExprs
