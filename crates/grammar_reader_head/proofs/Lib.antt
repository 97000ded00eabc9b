mod Defaults
mod Begun
