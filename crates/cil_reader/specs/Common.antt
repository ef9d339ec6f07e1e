-- The names from elsewhere that this crate's contracts cite most, passed on from one place.
pub use Rattle.cil_reader.specs.Forest.{forest_of}
pub use Rattle.cil_reader.specs.Image.{FaultIs, IsMemory, place_of, tree_then, trees_of, word_of}
pub use Rattle.cil_reader.specs.Tree.{is_nothing, tree_count}
pub use Rattle.cil_specs.specs.Reading.{IsReadingFault, IsStuck, Stops}
pub use Rattle.cil_specs.specs.Trees.{Reads, Trees, none}
pub use Rattle.std.specs.List.{list_all, prefix_len}
