pub mod TextIndex
