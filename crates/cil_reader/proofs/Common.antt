-- The names from elsewhere that this crate's proofs cite most, passed on from one place.
pub use Rattle.cil_reader.specs.Image.{FaultIs, IsMemory, kind_of, place_of, shown, tree_then, trees_in, trees_of, trees_upto}
pub use Rattle.cil_reader.specs.Reader.{AreWhole, GoesOver, HasRead, HaveMarks, IsPlaced, IsRead, IsStopped, open_lists}
pub use Rattle.cil_reader.specs.Tree.{tree_count}
pub use Rattle.cil_reader.specs.declared.node.Node.{Node}
pub use Rattle.cil_reader.specs.declared.place.Place.{Place}
pub use Rattle.cil_reader.specs.declared.reader.Open.{Open}
pub use Rattle.cil_reader.specs.declared.reader.Reader.{Reader}
pub use Rattle.cil_reader.specs.declared.tree.Tree.{Tree}
pub use Rattle.cil_specs.proofs.Runs.{StopsBefore, all-at, both_true, ends-closing, ends-comment, ends-opening, ends-string, ends-word, run-passes, run-stops, same_run, second_true}
pub use Rattle.cil_specs.proofs.Stuck.{no-fault}
pub use Rattle.cil_specs.specs.Bytes.{is_comment_byte, is_string_byte, is_word_byte}
pub use Rattle.cil_specs.specs.Parts.{EndsBefore, IsClean, IsPart, Moves, Part, closing, comment, opening, spelling, string, word}
pub use Rattle.cil_specs.specs.Place.{is_line_feed, place_at}
pub use Rattle.cil_specs.specs.Reading.{IsReadingFault, IsUnclosed, Stops}
pub use Rattle.cil_specs.specs.TextFault.{bare_word, unclosed}
pub use Rattle.cil_specs.specs.Trees.{Mark, Reads, Trees, a_list, a_string, a_word, closing_before, marks, none, opening_at, string_at, told, word_at}
pub use Rattle.std.proofs.Common.{Bool, Err, IfErr, IsTrue, List, Ok, Result, [], add-zero, ap, append-nil, append_assoc, arith, cond, drop, false, get_or, get_or-drop, inr, length, length-append, length-drop, map, not, refl, reverse, rules, subst, suc, sym, take, true, zero, ℕ, ◌&&◌, ◌++◌, ◌+◌, ◌-◌, ◌<◌, ◌∙◌, ◌∷◌, ◌≡◌, ◌≢◌, ◌≤◌}
pub use Rattle.std.proofs.Math.Seq.{drop-append_seam, drop-cons, set-append_seam, take-append_seam}
pub use Rattle.std.proofs.lemmas.Bool.{eqb-true}
pub use Rattle.std.proofs.lemmas.List.Sums.{prefix_len-le-length}
pub use Rattle.std.proofs.lemmas.List.{drop-drop, drop_min, get_or_append_left, length-map, length-reverse, length-set, length-take, length-take-le, map-append, reverse-append, take-append-drop, take_min, take_rest}
pub use Rattle.std.specs.List.{AllByRecursion, list_all, prefix_len}
