-- Which statements may hold others.
use Rattle.cil_text.proofs.Common.{if◌then◌else◌, Vec, has_body, Statement-F, out-Statement, roll-Statement, roll-out-Statement, ◌≡◌, Bool, true, false, ◌∷◌, [], List, ℕ, codes, refl, sym, ap, ◌∙◌, IsTrue, true≢false, Trees, a_word, are_lists, is_among, Form, Statements, no_more, statement, rule, block, optional, put_word, Fits, first_word, fits_parts, fits_from, OperandsFit, words_of, as_declared, is_optional, opens, spelling, scope_form, statement_then, form_of, at_of, Statement, Block', Optional'}
use Rattle.cil_specs.specs.Place.{Place}
use Rattle.cil_reader.specs.declared.place.Place as places
use Rattle.cil_reader.specs.declared.word.Word as words
use Rattle.cil_text.specs.declared.statement.Statement.TheOpen as opened
use Rattle.cil_text.specs.declared.statement.Statement.TheVariants as made
use Rattle.cil_specs.specs.Names.{Word}
use Rattle.cil_specs.specs.Statements.{allow, auditallow, dontaudit, neverallow}
use Rattle.cil_text.specs.declared.statement.RuleKind.TheVariants.{Allow, AuditAllow, DontAudit, NeverAllow}
use Rattle.cil_text.specs.declared.keyword.Keyword.{Keyword}
use Rattle.cil_text.specs.declared.keyword.Keyword.TheVariants.{Block, Optional, Rule}

-- a statement that may have none inside it
pub leaf_then : {A : Type 0} → (s : Statement A) (body more : Statements) → has_body (form_of s) ≡ false → statement_then s more ≡ statement (at_of s) (form_of s) (if has_body (form_of s) then body else no_more) more
leaf_then (Block' at id shape row) body more leaf = absurd cc
leaf_then (Optional' at id shape row) body more leaf = absurd cc
leaf_then _ body more leaf = refl

-- a statement that is neither a block nor an optional may have none inside it
pub leaf_form : {A : Type 0} → (s : Statement A) → ((at : places.Place) (id : words.Word) (v : Vec (Statement A) A) → s ≡ made.Block at id v → ⊥) → ((at : places.Place) (id : words.Word) (v : Vec (Statement A) A) → s ≡ made.Optional at id v → ⊥) → has_body (form_of s) ≡ false
leaf_form {A} s no_block no_optional = by (out-Statement A s) (sym (roll-out-Statement A s))
  where
    by : (o : Statement-F A (Statement A)) → s ≡ roll-Statement A o → has_body (form_of s) ≡ false
    by (opened.Block at id v) is = absurd (no_block at id v (is ∙ made.rolls-Block at id v))
    by (opened.Optional at id v) is = absurd (no_optional at id v (is ∙ made.rolls-Optional at id v))
    by (opened.TypeName at id) is = ap (λ s. has_body (form_of s)) (is ∙ made.rolls-TypeName at id)
    by (opened.TypeAlias at id) is = ap (λ s. has_body (form_of s)) (is ∙ made.rolls-TypeAlias at id)
    by (opened.TypeAliasActual at alias actual) is = ap (λ s. has_body (form_of s)) (is ∙ made.rolls-TypeAliasActual at alias actual)
    by (opened.TypeAttribute at id) is = ap (λ s. has_body (form_of s)) (is ∙ made.rolls-TypeAttribute at id)
    by (opened.TypeAttributeSet at attribute expr) is = ap (λ s. has_body (form_of s)) (is ∙ made.rolls-TypeAttributeSet at attribute expr)
    by (opened.Common at id permissions) is = ap (λ s. has_body (form_of s)) (is ∙ made.rolls-Common at id permissions)
    by (opened.Class at id permissions) is = ap (λ s. has_body (form_of s)) (is ∙ made.rolls-Class at id permissions)
    by (opened.ClassCommon at the_class the_common) is = ap (λ s. has_body (form_of s)) (is ∙ made.rolls-ClassCommon at the_class the_common)
    by (opened.ClassOrder at the_classes) is = ap (λ s. has_body (form_of s)) (is ∙ made.rolls-ClassOrder at the_classes)
    by (opened.ClassPermission at id) is = ap (λ s. has_body (form_of s)) (is ∙ made.rolls-ClassPermission at id)
    by (opened.ClassPermissionSet at set the_class permissions) is = ap (λ s. has_body (form_of s)) (is ∙ made.rolls-ClassPermissionSet at set the_class permissions)
    by (opened.Rule at kind source target permissions) is = ap (λ s. has_body (form_of s)) (is ∙ made.rolls-Rule at kind source target permissions)

-- whether the first word is that of a statement that may hold others
abbrev is-opener : List ℕ → Bool
is-opener text = is_among (codes "block" ∷ codes "optional" ∷ []) text

opener-form : (form : Form) → has_body form ≡ is-opener (first_word form)
opener-form (rule allow source target permissions) = refl
opener-form (rule auditallow source target permissions) = refl
opener-form (rule dontaudit source target permissions) = refl
opener-form (rule neverallow source target permissions) = refl
opener-form _ = refl

opener-keyword : (keyword : Keyword) → is-opener (spelling keyword) ≡ opens keyword
opener-keyword (Rule Allow) = refl
opener-keyword (Rule AuditAllow) = refl
opener-keyword (Rule DontAudit) = refl
opener-keyword (Rule NeverAllow) = refl
opener-keyword _ = refl

-- the keyword says whether statements may stand inside a statement of a form that its operands fit
pub has_body_is : (place : Place) (keyword : Keyword) (operands : Trees) (form : Form) (inner : Trees) → Fits (a_word place (spelling keyword) operands) form inner → has_body form ≡ opens keyword
has_body_is place keyword operands form inner fits = opener-form form ∙ ap is-opener (sym (fits_parts place (spelling keyword) operands form inner fits).0) ∙ opener-keyword keyword

-- a keyword that is neither of the two holds no others
pub leaf_keyword : (keyword : Keyword) → (keyword ≡ Block → ⊥) → (keyword ≡ Optional → ⊥) → opens keyword ≡ false
leaf_keyword Block no_block no_optional = absurd (no_block refl)
leaf_keyword Optional no_block no_optional = absurd (no_optional refl)
leaf_keyword _ no_block no_optional = refl

-- operands that are no word with lists behind it fit no form of a block or an optional
pub no_scope : (place : Place) (keyword : Keyword) (operands : Trees) (form : Form) (inner : Trees) → opens keyword ≡ true → ((word : Word) (lists : Trees) → operands ≡ put_word word lists → are_lists lists ≡ false)
    → Fits (a_word place (spelling keyword) operands) form inner → ⊥
no_scope place keyword operands form inner is other fits =
    by form (has_body_is place keyword operands form inner fits ∙ is) (fits_parts place (spelling keyword) operands form inner fits).1
  where
    by : (form : Form) → has_body form ≡ true → OperandsFit operands form inner → ⊥
    by (block id) has h = true≢false (sym h.1 ∙ other id inner h.0)
    by (optional id) has h = true≢false (sym h.1 ∙ other id inner h.0)
    by _ has h = true≢false (sym has)

-- a word and lists behind it fit the form of a block or an optional
pub scope_fits : (place : Place) (keyword : Keyword) (operands : Trees) (id : Word) (inner : Trees) → opens keyword ≡ true → operands ≡ put_word id inner → IsTrue (are_lists inner)
    → Fits (a_word place (spelling keyword) operands) (scope_form keyword id) inner
scope_fits place Block operands id inner is begins lists = fits_from place operands (block id) inner (begins, lists)
scope_fits place Optional operands id inner is begins lists = fits_from place operands (optional id) inner (begins, lists)
scope_fits place _ operands id inner is begins lists = absurd (true≢false (sym is))

-- the words of a block or an optional are its name
pub scope_words : (keyword : Keyword) (id : Word) → as_declared id ∷ [] ≡ words_of (scope_form keyword id)
scope_words Optional id = refl
scope_words _ id = refl

-- a block is no optional
pub no_optional_form : (keyword : Keyword) (id : Word) → (keyword ≡ Optional → ⊥) → is_optional (scope_form keyword id) ≡ false
no_optional_form Optional id other = absurd (other refl)
no_optional_form _ id other = refl
