mod Loops
mod Copies
mod Machines
mod Steps
