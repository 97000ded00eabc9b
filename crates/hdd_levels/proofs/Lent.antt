-- What other crates' proofs cite of this crate's.
pub use Rattle.hdd_levels.proofs.InLevels.{level_apart, dropped_in, dropped_apart, level_all, level_next, AreOf, rising_bound}
pub use Rattle.hdd_levels.proofs.KeptTrees.{dropped_of, level_split, own_level}
