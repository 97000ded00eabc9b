pub mod LevelForms
