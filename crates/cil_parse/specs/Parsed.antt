-- Modules kept parsed.
use Rattle.std.specs.Prelude.{◌≡◌, ℕ, List, [], map, length, slice_index_or, Some}
use Rattle.cil_specs.specs.Statements.{Statements}
use Rattle.cil_specs.specs.ModuleText.{IsModuleText}
use Rattle.cil_parse.specs.Lexicon.{texts_in}
use Rattle.cil_parse.specs.Forms.{words_in, nodes_in}
use Rattle.cil_parse.specs.Flat.{FlatStatement, flat}
use Rattle.cil_parse.specs.Builder.{read, row_of, row_for, IsAt}
use Rattle.cil_parse.specs.declared.builder.Builder.{Builder}
use Rattle.cil_parse.specs.declared.citations.Citation.{Citation}
use Rattle.cil_parse.specs.declared.parsed.ParsedModule.{ParsedModule}

-- the distinct texts of its words, by their numbers
abbrev pub texts_of : {A : Type 0} → ParsedModule A → List (List ℕ)
texts_of p = p.texts.0

-- the distinct names between the dots of texts, by their numbers
abbrev pub names_of : {A : Type 0} → ParsedModule A → List (List ℕ)
names_of p = p.names.0

-- the distinct lists of permissions of its statements, by their numbers
abbrev pub permission_lists_of : {A : Type 0} → ParsedModule A → List (List (List ℕ))
permission_lists_of p = map (map (λ n. slice_index_or (texts_of p) n [])) p.permission_lists.lists.0

-- what the references of its statements look up, each once, by their numbers
abbrev pub citations_of : {A : Type 0} → ParsedModule A → List Citation
citations_of p = p.citations.distinct.items

-- the numbers of what the references of the statement of an index look up
abbrev pub cited_by : {A : Type 0} → ParsedModule A → ℕ → List ℕ
cited_by p i = slice_index_or p.citations.numbers.0 i []

abbrev pub statement_count : {A : Type 0} → ParsedModule A → ℕ
statement_count p = length p.rows.items

-- The module has these statements and no other: one behind the other with their places, kinds and numbers, each with its words and the
-- nodes of its expression.
pub record Spells {A : Type 0} (p : ParsedModule A) (statements : Statements) : Type 0 where
  pub rows : map row_of p.rows.items ≡ map row_for (flat 0 0 0 statements)
  pub words : map (map (read (texts_of p))) p.words.0 ≡ map (λ f. map Some (words_in f.form)) (flat 0 0 0 statements)
  pub nodes : p.nodes.0 ≡ map (λ f. nodes_in f.form) (flat 0 0 0 statements)

-- statements were gone over, and none is begun
abbrev pub IsWhole : {A : Type 0} → Builder A → Type 0
IsWhole b = (list : List FlatStatement) × IsAt b list [] []

-- the module is what the builder went over
pub record IsOwned {A : Type 0} (b : Builder A) (p : ParsedModule A) : Type 0 where
  pub texts : texts_of p ≡ texts_in b.lexicon
  pub words : p.words ≡ b.words
  pub nodes : p.nodes ≡ b.nodes
  pub rows : p.rows.items ≡ b.rows.items

-- the module is that of the text
pub record IsParsed {A : Type 0} (bytes : List ℕ) (p : ParsedModule A) : Type 0 where
  pub statements : Statements
  pub is_text : IsModuleText bytes statements
  pub spells : Spells p statements
