mod Bits
mod Taken
mod Progress
