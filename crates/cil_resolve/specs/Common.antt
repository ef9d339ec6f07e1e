-- The names from elsewhere that this crate's contracts cite most, passed on from one place.
pub use Rattle.cil_bind.specs.Lookup.{IsFirstOf, IsLead, named, namespace_at}
pub use Rattle.cil_bind.specs.Policy.{IsBoundTo, fault_of}
pub use Rattle.cil_bind.specs.Written.{IsOneName}
pub use Rattle.cil_check.specs.Bound.{IsOf, IsSeen, Reads}
pub use Rattle.cil_check.specs.Checker.{IsNoted}
pub use Rattle.cil_check.specs.Image.{IsFoundFault, PolicyFaultIs}
pub use Rattle.cil_check.specs.Ordered.{IsFaultIn, IsFaultless}
pub use Rattle.cil_expression.specs.Holds.{holds_by}
pub use Rattle.cil_parse.specs.Builder.{read}
pub use Rattle.cil_parse.specs.Parsed.{texts_of}
pub use Rattle.cil_resolve.specs.Apart.{StandApart}
pub use Rattle.cil_resolve.specs.Below.{is_element_below, is_rule_below, is_written_below}
pub use Rattle.cil_resolve.specs.FullNames.{full_name_of, is_numbered, is_numbered_kind, numbered_id, space_text}
pub use Rattle.cil_resolve.specs.Judged.{AreJudged, IsInOrder, IsJudged, IsWhole}
pub use Rattle.cil_resolve.specs.KnownPermissions.{AddsRuleAt, AreListNumbers, HaveNumbers, IsRuleAt, KnowNumbers, NamesAt, PermitsAt, StayKnown, known_at, list_at, lists_of}
pub use Rattle.cil_resolve.specs.Lowering.{AddsClass, AddsRule, AddsSetAt, AreElements, ArePartsOf, ArePermissionSets, ArePermissions, AreRules, AreSets, HaveElements, IsClass, IsDeclared, IsElement, IsExpression, IsIn, IsLowering, IsPermissionSet, IsRule, IsRuleOfClass, IsRuleOfSet, IsRuleStart, IsSeenExpression, IsSet, IsSpeltBy, KnowSets, Refers, SeenAt, SeesSet, StandsAt, WritesPermissions, common_of, is_set, modules_of, permission_set_if, rule_if, rule_with, set_if}
pub use Rattle.cil_resolve.specs.Meter.{adjustments_in, evaluations_in}
pub use Rattle.cil_resolve.specs.Modules.{AreParsedFrom}
pub use Rattle.cil_resolve.specs.Naming.{AreNaming, is_naming, naming}
pub use Rattle.cil_resolve.specs.Numbering.{AreNumbersIn, HavePlaces, listed_names, number_in}
pub use Rattle.cil_resolve.specs.Numbers.{GivesNumbered, dropped_with, element_of, keeps_no_list, resolved_target_of, set_of}
pub use Rattle.cil_resolve.specs.Resolved.{meaning_in}
pub use Rattle.cil_resolve.specs.Sets.{IsAnswer, TellsMembers, name_in, sets_in}
pub use Rattle.cil_specs.specs.Expr.{Expr, WordExpr, leaves, map_leaves}
pub use Rattle.cil_specs.specs.Joined.{Placed}
pub use Rattle.cil_specs.specs.Kept.{AreApart, AreKept, IsFirstFault, IsGood, IsWithin, Optionals, dropped_of, restricted}
pub use Rattle.cil_specs.specs.Lookup.{Table, classes, commons, distinct, has_name, leads, own_permissions, permission_sets, permissions_of, references, scopes, texts, types, with_name}
pub use Rattle.cil_specs.specs.Meaning.{Meaning, Means, holds, is_in, keeps_type, meaning_of, permits}
pub use Rattle.cil_specs.specs.Members.{HasSoundSets, is_member, keeps_attribute}
pub use Rattle.cil_specs.specs.Names.{Word}
pub use Rattle.cil_specs.specs.Report.{name_cmp, names_rise}
pub use Rattle.cil_specs.specs.Rule.{Element, IsSameSet, Rule, SetStatement, declared_as}
pub use Rattle.cil_specs.specs.Statements.{attribute_set, is_optional}
pub use Rattle.cil_specs.specs.Violations.{rule_cmp}
pub use Rattle.std.specs.List.{list_all, prefix_len}
pub use Rattle.std.specs.List.Sorted.{IsStrictlySortedBy}
pub use Rattle.std.specs.Option.{option_and_then, option_to_list}
