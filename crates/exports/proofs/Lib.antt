mod Analysis
mod Appending
mod Onward
mod Progress
mod Standard
mod WithinRoom
