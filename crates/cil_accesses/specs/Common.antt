-- The names from elsewhere that this crate's contracts cite most, passed on from one place.
pub use Rattle.cil_accesses.specs.Chunks.{IsAccessOf, IsGiven, chunk_cmp, numbers_cmp, ones_of}
pub use Rattle.cil_accesses.specs.Merged.{merged, of_one_key, taking_up}
pub use Rattle.cil_accesses.specs.Renumbered.{IsMoved, IsRenumbered, IsRenumberedIn, IsTarget, IsWithin, MovesUp, renumbered}
pub use Rattle.cil_accesses.specs.View.{AreChunks, IsNextBit, NoBitFrom, access_at, accesses_of, at_bit, has_bit, in_run, run_accesses}
pub use Rattle.std.specs.Int.{bit_at}
pub use Rattle.std.specs.List.{All, prefix_len}
