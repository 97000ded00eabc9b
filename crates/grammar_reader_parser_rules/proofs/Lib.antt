mod TermViews
mod Views
mod Defaults
