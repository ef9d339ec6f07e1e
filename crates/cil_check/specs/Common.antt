-- The names from elsewhere that this crate's contracts cite most, passed on from one place.
pub use Rattle.cil_bind.specs.Lookup.{IsFirstOf, IsLead, word_at}
pub use Rattle.cil_bind.specs.Ordered.{IsLeast}
pub use Rattle.cil_check.specs.Associations.{HasFirsts, association_table, first_at, given_kind, given_lead, with_first}
pub use Rattle.cil_check.specs.Bound.{IsOf, IsSeen, Reads}
pub use Rattle.cil_check.specs.Checker.{IsNoted, first_unfound}
pub use Rattle.cil_check.specs.Image.{IsFoundFault, PolicyFaultIs, fault_at, policy_kind_of}
pub use Rattle.cil_check.specs.Inherited.{HasInherited}
pub use Rattle.cil_check.specs.Kinds.{again_words, is_kind, test_of, word_if}
pub use Rattle.cil_check.specs.Missing.{class_lead, has_list, lacking_words}
pub use Rattle.cil_check.specs.Ordered.{HasNoneBelow, IsCleanAt, IsFaultIn, IsFaultless}
pub use Rattle.cil_check.specs.Permissions.{HaveListed, HaveWords, is_listed, lists_own}
pub use Rattle.cil_parse.specs.Builder.{read}
pub use Rattle.cil_parse.specs.Forms.{kind_of, words_in}
pub use Rattle.cil_parse.specs.Lexicon.{AreNumbersOf}
pub use Rattle.cil_parse.specs.Parsed.{names_of, texts_of}
pub use Rattle.cil_specs.specs.Joined.{Placed}
pub use Rattle.cil_specs.specs.Lookup.{classes, distinct, has_name, permissions_of, references, texts, types}
pub use Rattle.cil_specs.specs.Names.{Word, components}
pub use Rattle.cil_specs.specs.PolicyFault.{IsFaultOf, alias_unset_words, circular, has_too_many, is_of_another_kind, is_unset, missing_words, too_many_words, wrong_kind_words}
