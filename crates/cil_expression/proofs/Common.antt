-- The names from elsewhere that this crate's proofs cite most, passed on from one place.
pub use Rattle.cil_expression.specs.Holds.{Answers, holds_by}
pub use Rattle.cil_expression.specs.Same.{AnswersPairs, all_same, are_same, same_node}
pub use Rattle.cil_expression.specs.Spelling.{IsSpelt, IsWhole, expr_of, exprs_of, first_or_nothing, nodes_of, with_one, with_two}
pub use Rattle.cil_parse.specs.declared.row.SetNode.{SetNode}
pub use Rattle.cil_specs.proofs.NamesLemmas.{contains-first, contains-other}
pub use Rattle.cil_specs.specs.Expr.{Expr, WordExpr, both, either, elements, every, leaves, map_leaves, named, nothing, one_of, opposite}
pub use Rattle.std.proofs.Common.{Bool, Contains, List, [], ap, append-nil, append_assoc, arith, false, length, map, not, refl, subst, suc, sym, true, true≢false, zero, ℕ, ◌&&◌, ◌++◌, ◌+◌, ◌==◌, ◌||◌, ◌∙◌, ◌∷◌, ◌≡◌}
