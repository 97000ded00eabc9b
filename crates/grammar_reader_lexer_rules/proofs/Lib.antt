mod Views
mod OneChars
mod Defaults
