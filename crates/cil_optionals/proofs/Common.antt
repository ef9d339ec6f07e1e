-- The names from elsewhere that this crate's proofs cite most, passed on from one place.
pub use Rattle.cil_bind.proofs.DeclareLemmas.{row-at, rows-length, same_namespace-refl}
pub use Rattle.cil_bind.proofs.PermissionLemmas.{as-many, names-next, none-listed, own-listed, spread, word-read}
pub use Rattle.cil_bind.proofs.PositionLemmas.{any-last, any-position, at_if, position-append, take-last, take-length, take-next}
pub use Rattle.cil_bind.proofs.ScopeLemmas.{read-text, read-within}
pub use Rattle.cil_bind.specs.Lookup.{IsFirstOf, IsLead, namespace_at, table_of, word_at}
pub use Rattle.cil_bind.specs.Nested.{AreNested, IsInnermost}
pub use Rattle.cil_bind.specs.declared.joined.NamedModule.{NamedModule}
pub use Rattle.cil_bind.specs.declared.policy.Policy.{Policy}
pub use Rattle.cil_bind.specs.declared.rows.Row.{Row}
pub use Rattle.cil_optionals.specs.Asks.{AddsNeed, Asks, IsOf, LeadsOutside, are_found, are_there, is_need_of, optional_at, row_optional}
pub use Rattle.cil_needs.specs.Dependents.{AreDependents, AreReopened, IsDependent, dependent, dependents_of_node, node_of}
pub use Rattle.cil_optionals.specs.Given.{AreAnswers, AreRecent, IsInverse, IsUpTo, common_passes, commons_at, gift, given_at, gives_common, gives_passing, has_gift, has_list, last_bound, listers_at, lists, lists_at, names_permissions, permissions_in, places_in}
pub use Rattle.cil_needs.specs.Needs.{are_met, has_node, is_met, is_need_below, meeting}
pub use Rattle.cil_optionals.specs.Nested.{ShowsKept, mark_at, set_of}
pub use Rattle.cil_optionals.specs.Nodes.{AreNodesOf, AreOptionalsOf, declared_table, declared_text, is_naming, is_plain, is_provided, is_single}
pub use Rattle.cil_optionals.specs.Others.{AreFoundWithin, AreOthers, AreOthersTo, HasUnmet, is_need_within}
pub use Rattle.cil_optionals.specs.Permissions.{HavePermissions, SeenPermissions}
pub use Rattle.cil_optionals.specs.Providers.{AreProviders, IsDeclaration, IsProvidedBy, IsReady, alternatives, further_out}
pub use Rattle.cil_needs.specs.declared.dependents.Dependent.{Dependent}
pub use Rattle.cil_needs.specs.declared.greatest.Need.{Need}
pub use Rattle.cil_optionals.specs.declared.listed.Permission.{Permission}
pub use Rattle.cil_parse.specs.Builder.{read}
pub use Rattle.cil_parse.specs.Parsed.{Spells, texts_of}
pub use Rattle.cil_parse.specs.declared.row.NumberedWord.{NumberedWord}
pub use Rattle.cil_specs.proofs.DeclaredLemmas.{AtMostOne, declared-once, declared-within, one-namespace}
pub use Rattle.cil_specs.proofs.Runs.{both_true, first_true, second_true}
pub use Rattle.cil_specs.specs.Joined.{Placed}
pub use Rattle.cil_specs.specs.Kept.{AreApart, AreKept, IsGood, Optionals, has_innermost, is_directly_in, is_member, is_optional_at, is_within, restricted}
pub use Rattle.cil_specs.specs.Lookup.{Table, classes, commons, declaration, declared_in, declares, from_namespace, has_block, has_name, holds_of, inside, is_global, is_word, leads, named_permissions, nearest_block, outward, permission_sets, references, same_namespace, scopes, texts, types, with_name, word_text}
pub use Rattle.cil_specs.specs.Names.{Word, components}
pub use Rattle.cil_specs.specs.PolicyFault.{IsFaultOf, PolicyFault, is_lacking, is_unfound, missing_words, twice}
pub use Rattle.cil_specs.specs.Statements.{Form, Statements, alias_actual, anonymous, attribute_set, block, by_name, class, class_common, class_order, class_permission, class_permission_set, common, is_optional, itself, optional, rule, the_named, type_alias, type_attribute, type_name}
pub use Rattle.std.proofs.Common.{All, Bool, Contains, Err, IfSome, IsTrue, List, None, Ok, OnErr, OnOk, Option, Result, Some, Vec, [], add-one, ap, append-nil, append_assoc, arith, bytes_eq, cond, count_by, false, filter, find, flat_map, get_or, if◌then◌else◌, inl, inr, is_some, leb, length, ltb, map, nat_lt, not, position, refl, replicate, rules, set, slice_get, subst, suc, sym, take, true, true≢false, zero, ℕ, ◌&&◌, ◌*◌, ◌++◌, ◌+◌, ◌-◌, ◌<◌, ◌==◌, ◌||◌, ◌∙◌, ◌∷◌, ◌≡◌, ◌≢◌, ◌≤◌, ◌⊎◌}
pub use Rattle.std.proofs.lemmas.Bool.{and_parts, cases_eq, cases_lt, eq-eqb, eqb-true, leb-false, leb-true, lt-ltb, ltb-false, ltb-true, ne_eqb, not-false, not-true, or_cases, or_left, or_parts, or_right}
pub use Rattle.std.proofs.lemmas.List.{get_or-replicate, get_or-set_other, get_or-set_same, get_or-take, length-append, length-map, length-replicate, length-set, length-take, nil_from_length, take_all, take_more}
pub use Rattle.std.proofs.lemmas.List.Elements.{All-append, All-contains, All-pop, All-same, All-weaker, Contains-append_cases, Contains-append_left, Contains-append_right, Contains-get_or, Contains-push_cases}
pub use Rattle.std.proofs.lemmas.List.Folds.{list_all-append, list_any-append}
pub use Rattle.std.proofs.lemmas.List.Quantifiers.{position-Some}
pub use Rattle.std.proofs.lemmas.List.Sorted.{Contains-permutation, IsNonDecreasingBy-from_sort_by_key, IsPartitionPoint-from_clause, IsPartitionedBy-leb, IsPartitionedBy-ltb, IsPermutation-sym}
pub use Rattle.std.proofs.lemmas.Option.{get_or_from_slice_get, none-some, same_Some, slice_get-get_or, slice_get_cases, slice_get_read, slice_get_within}
pub use Rattle.std.proofs.lemmas.Result.{IfOk-weaker, on_ok_weaker}
pub use Rattle.std.proofs.lemmas.Slice.Eq.{bytes_eq-Decides}
pub use Rattle.std.specs.List.{list_all, list_any, range_with_len}
pub use Rattle.std.specs.Option.{option_and_then, option_or, option_to_list}
