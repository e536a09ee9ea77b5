mod Lines
mod Planning
mod CommandsExist
