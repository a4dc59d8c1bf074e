mod Exits
mod Heads
mod Taken
mod Contents
mod Ahead
mod Spaces
