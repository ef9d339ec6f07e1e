-- The names that the proofs of this crate cite most.
pub use Rattle.std.proofs.Common.{sym}
