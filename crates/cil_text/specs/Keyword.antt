-- How keywords are spelt.
use Rattle.std.specs.Prelude.{ℕ, Bool, true, false, List, codes}
use Rattle.cil_specs.specs.Statements.{rule_word}
use Rattle.cil_text.specs.Image.{rule_kind_of}
use Rattle.cil_text.specs.declared.keyword.Keyword.{Keyword}
use Rattle.cil_text.specs.declared.keyword.Keyword.TheVariants.{Block, Optional, TypeName, TypeAlias, TypeAliasActual, TypeAttribute, TypeAttributeSet, Common, Class, ClassCommon, ClassOrder, ClassPermission, ClassPermissionSet, Rule}

abbrev pub spelling : Keyword → List ℕ
spelling Block = codes "block"
spelling Optional = codes "optional"
spelling TypeName = codes "type"
spelling TypeAlias = codes "typealias"
spelling TypeAliasActual = codes "typealiasactual"
spelling TypeAttribute = codes "typeattribute"
spelling TypeAttributeSet = codes "typeattributeset"
spelling Common = codes "common"
spelling Class = codes "class"
spelling ClassCommon = codes "classcommon"
spelling ClassOrder = codes "classorder"
spelling ClassPermission = codes "classpermission"
spelling ClassPermissionSet = codes "classpermissionset"
spelling (Rule kind) = rule_word (rule_kind_of kind)

-- whether statements may stand inside a statement with this first word
abbrev pub opens : Keyword → Bool
opens Block = true
opens Optional = true
opens _ = false
