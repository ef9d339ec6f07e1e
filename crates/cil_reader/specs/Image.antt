-- The values of the definitions that places, words, trees and faults of the code stand for.
use Rattle.std.specs.Prelude.{ℕ, zero, suc, List, [], ◌∷◌, length, take, drop}
use Rattle.cil_specs.specs.Bytes.{hex}
use Rattle.cil_specs.specs.Place as spec
use Rattle.cil_specs.specs.Names as spec_names
use Rattle.cil_specs.specs.Trees.{Trees, none, a_word, a_string, a_list}
use Rattle.cil_specs.specs.TextFault as spec_faults
use Rattle.cil_specs.specs.TextFault.{bad_byte, unbalanced, unclosed, unclosed_string, too_deep, bare_word, unsupported, misshapen, bad_name, reserved, not_in_optional}
use Rattle.cil_reader.specs.declared.place.Place.{Place}
use Rattle.cil_reader.specs.declared.word.Word.{Word}
use Rattle.cil_reader.specs.declared.node.Node.{Node}
use Rattle.cil_reader.specs.declared.node.Node.TheVariants as nodes
use Rattle.cil_reader.specs.declared.tree.Tree.{Tree}
use Rattle.cil_reader.specs.declared.tree.Tree.TheVariants as trees
use Rattle.cil_reader.specs.declared.tree.TreeSlice.{TreeSlice}
use Rattle.cil_reader.specs.declared.fault.TextFaultKind.{TextFaultKind}
use Rattle.cil_reader.specs.declared.fault.TextFaultKind.TheVariants.{BadByte, Unbalanced, Unclosed, UnclosedString, TooDeep, BareWord, Unsupported, Misshapen, BadName, Reserved, NotInOptional}
use Rattle.cil_reader.specs.declared.fault.ShownWord.{ShownWord}
use Rattle.cil_reader.specs.declared.fault.ShownWord.TheVariants.{Byte, Text}
use Rattle.cil_reader.specs.declared.fault.TextFault.{TextFault}
use Rattle.cil_reader.specs.declared.fault.TextFault.TheVariants.{Memory, Found}

abbrev pub place_of : Place → spec.Place
place_of p = record { offset = p.offset; line = p.line; column = p.column }

abbrev pub word_of : Word → spec_names.Word
word_of w = record { at = place_of w.at; text = w.text.now }

-- The trees that nodes stand for, of the first so many of them. The trees of a list are as many nodes behind it as it says, or
-- all where there are fewer.
abbrev pub trees_upto : List ℕ → ℕ → List Node → Trees
trees_upto text zero nodes = none
trees_upto text (suc n) [] = none
trees_upto text (suc n) (nodes.Word at len ∷ behind) = a_word (place_of at) (take len (drop at.offset text)) (trees_upto text n behind)
trees_upto text (suc n) (nodes.String at len ∷ behind) = a_string (place_of at) (take len (drop at.offset text)) (trees_upto text n behind)
trees_upto text (suc n) (nodes.List at end inner ∷ behind) = a_list (place_of at) end (trees_upto text n (take inner behind)) (trees_upto text n (drop inner behind))

-- the trees of a text that nodes stand for
abbrev pub trees_in : List ℕ → List Node → Trees
trees_in text nodes = trees_upto text (length nodes) nodes

abbrev pub trees_of : TreeSlice → Trees
trees_of s = trees_in s.text.now s.nodes.now

-- the tree, and then the rest
abbrev pub tree_then : Tree → Trees → Trees
tree_then (trees.Word w) rest = a_word (place_of w.at) w.text.now rest
tree_then (trees.String w) rest = a_string (place_of w.at) w.text.now rest
tree_then (trees.List at end items) rest = a_list (place_of at) end (trees_of items) rest

abbrev pub kind_of : TextFaultKind → spec_faults.TextFaultKind
kind_of BadByte = bad_byte
kind_of Unbalanced = unbalanced
kind_of Unclosed = unclosed
kind_of UnclosedString = unclosed_string
kind_of TooDeep = too_deep
kind_of BareWord = bare_word
kind_of Unsupported = unsupported
kind_of Misshapen = misshapen
kind_of BadName = bad_name
kind_of Reserved = reserved
kind_of NotInOptional = not_in_optional

-- the bytes of the word that shows a fault
abbrev pub shown : ShownWord → List ℕ
shown (Byte b) = hex b
shown (Text text) = text.now

-- The fault is none but out of memory, or P holds of it.
abbrev pub FaultIs : TextFault → (spec_faults.TextFault → Type 0) → Type 0
FaultIs Memory P = Unit {0}
FaultIs (Found kind at word) P = P (record { kind = kind_of kind; at = place_of at; word = shown word })

abbrev pub IsMemory : TextFault → Type 0
IsMemory Memory = Unit {0}
IsMemory (Found kind at word) = ⊥
