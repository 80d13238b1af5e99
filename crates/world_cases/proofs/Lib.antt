mod Commands
mod Following
