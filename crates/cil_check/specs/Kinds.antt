-- What is asked of words.
use Rattle.std.specs.Prelude.{Bool, true, false, List, Option, Some, None, if◌then◌else◌}
use Rattle.cil_specs.specs.Names.{Word}
use Rattle.cil_specs.specs.Statements.{Form}
use Rattle.cil_specs.specs.Joined.{Placed}
use Rattle.cil_specs.specs.Lookup.{is_type, is_alias, is_attribute}
use Rattle.cil_specs.specs.PolicyFault.{alias_twice_words, second_common_words}
use Rattle.cil_parse.specs.declared.row.StatementKind.{StatementKind}
use Rattle.cil_parse.specs.declared.row.StatementKind.TheVariants as statements
use Rattle.cil_check.specs.declared.kinds.Kind.{Kind}
use Rattle.cil_check.specs.declared.kinds.Kind.TheVariants.{«Type», Alias, Attribute}
use Rattle.cil_check.specs.declared.firsts.Association.{Association}
use Rattle.cil_check.specs.declared.firsts.Association.TheVariants.{Actual, Common}

-- a word, if a test of it passes
abbrev pub word_if : Bool → Word → Option Word
word_if passes word = if passes then Some word else None

-- the test of a kind
abbrev pub test_of : Kind → Form → Bool
test_of «Type» = is_type
test_of Alias = is_alias
test_of Attribute = is_attribute

-- the same of a statement's kind
abbrev pub is_kind : Kind → StatementKind → Bool
is_kind «Type» statements.TypeName = true
is_kind Alias statements.TypeAlias = true
is_kind Attribute statements.TypeAttribute = true
is_kind _ _ = false

-- whether statements of a kind name permissions of a class, which is the last of their references
abbrev pub names_permissions : StatementKind → Bool
names_permissions statements.ClassPermissionSet = true
names_permissions (statements.Rule kind) = true
names_permissions (statements.RuleToSelf kind) = true
names_permissions _ = false

-- whether statements of a kind are rules that name a permission set
abbrev pub is_rule_of_set : StatementKind → Bool
is_rule_of_set (statements.RuleOfSet kind) = true
is_rule_of_set (statements.RuleToSelfOfSet kind) = true
is_rule_of_set _ = false

-- whether statements of a kind have no reference and give nothing, and are no classes
abbrev pub is_plain : StatementKind → Bool
is_plain statements.Block = true
is_plain statements.Optional = true
is_plain statements.TypeName = true
is_plain statements.TypeAlias = true
is_plain statements.TypeAttribute = true
is_plain statements.Common = true
is_plain statements.ClassPermission = true
is_plain _ = false

-- the words to which a statement gives something again
abbrev pub again_words : Association → List Placed → List Placed → Placed → List Word
again_words Actual policy before s = alias_twice_words policy before s
again_words Common policy before s = second_common_words policy before s
