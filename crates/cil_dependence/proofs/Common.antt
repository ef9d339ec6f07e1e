-- The names from elsewhere that this crate's proofs cite most, passed on from one place.
pub use Rattle.cil_dependence.specs.Dependence.{IsCircular, IsOrder}
pub use Rattle.cil_dependence.specs.Graph.{AreNodes, IsEdge, Leads, LeadsThrough}
pub use Rattle.cil_dependence.specs.Items.{AreEachOnce, AreGroups, ComesBefore, StandsBefore, items_among, items_by_node, items_of}
pub use Rattle.cil_dependence.specs.Walk.{EndsIn, HasKnown, IsStepped, IsVisited, IsWalk, IsWalking, StillKnows, steps_left, weight}
pub use Rattle.cil_dependence.specs.declared.order.State.TheVariants.{Done, New, Open}
pub use Rattle.std.proofs.Common.{All, AllPairs, Bool, Contains, List, MatchOption, Option, Some, Vec, [], ap, arith, below_more, cond, count_by, eq-eqb, eqb-true, false, filter, get_or, inl, inr, length, map, ne_eqb, not, refl, replicate, set, slice_get, subst, suc, sum, sum_by, sym, take, true, true≢false, zero, ℕ, ◌*◌, ◌++◌, ◌+◌, ◌-◌, ◌<◌, ◌==◌, ◌↔◌, ◌∙◌, ◌∷◌, ◌≡◌, ◌≢◌, ◌≤◌, ◌⊎◌}
pub use Rattle.std.proofs.lemmas.Bool.{cases_eq, cases_lt}
pub use Rattle.std.proofs.lemmas.List.{append-nil, get_or-map, get_or-set_other, get_or-set_same, get_or_append_left, get_or_default, length-append, length-map, length-replicate, length-set, nil_from_length, take_all}
pub use Rattle.std.proofs.lemmas.List.Elements.{All-append, All-contains, All-filter, All-head, All-nil, All-tail, All-weaker, Contains-append_cases, Contains-append_left, Contains-append_right, Contains-get_or, Contains-push, Contains-push_cases, filter-append, filter_passes}
pub use Rattle.std.proofs.lemmas.Option.{get_or_from_slice_get, none-some, same_Some, slice_get-get_or, slice_get_read, slice_get_within}
