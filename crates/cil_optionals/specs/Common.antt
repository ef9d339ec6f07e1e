-- The names from elsewhere that this crate's contracts cite most, passed on from one place.
pub use Rattle.cil_bind.specs.Lookup.{IsLead, Knows, namespace_at, table_of, word_at}
pub use Rattle.cil_bind.specs.declared.joined.NamedModule.{NamedModule}
pub use Rattle.cil_optionals.specs.Asks.{AddsNeed, Asks, IsOf, LeadsOutside, are_found, are_there, optional_at}
pub use Rattle.cil_needs.specs.Needs.{are_met, has_node, is_met, is_need_below}
pub use Rattle.cil_optionals.specs.Others.{AreNeeds, AreOthers, AreOthersTo, HasUnmet}
pub use Rattle.cil_optionals.specs.Permissions.{HavePermissions}
pub use Rattle.cil_optionals.specs.Providers.{IsReady}
pub use Rattle.cil_parse.specs.Builder.{read}
pub use Rattle.cil_parse.specs.Parsed.{texts_of}
pub use Rattle.cil_specs.specs.Joined.{Placed}
pub use Rattle.cil_specs.specs.Kept.{AreApart, Optionals, is_within, restricted}
pub use Rattle.cil_specs.specs.Lookup.{has_name, texts}
pub use Rattle.cil_specs.specs.Names.{Word}
pub use Rattle.std.specs.List.{list_all, list_any, range_with_len}
