mod FirstFaults
mod Heard
mod Held
