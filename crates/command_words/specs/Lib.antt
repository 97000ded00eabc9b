pub mod Options
pub mod Tables
pub mod Commands
pub mod Lines
pub mod Worked
-- what is found before a command is made of it, which the code's own contracts cite
pub mod inner
