pub mod FormedProp
pub mod InputParts
