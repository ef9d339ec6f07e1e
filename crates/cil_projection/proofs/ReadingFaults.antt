-- A first word that is no keyword stands at a fault 20.
use Rattle.std.specs.Prelude.{◌≡◌, ℕ, ◌||◌, not, Bool, true, false, List, Some, None, codes, bytes_eq, if◌then◌else◌, refl}
use Rattle.std.specs.List.{list_any}
use Rattle.std.proofs.Common.{sym, ap, ◌∙◌, inl, inr, arith}
use Rattle.cil_specs.specs.Names.{Role, components, is_reserved, is_spelt, name_fault}
use Rattle.cil_specs.specs.Place.{Place}
use Rattle.cil_specs.specs.TextFault.{TextFault, TextFaultKind, bad_name, code_of, reserved, unsupported}
use Rattle.cil_specs.specs.Trees.{Trees, none, a_word, a_string, a_list}
use Rattle.cil_specs.specs.Shape.{IsBodyFault, IsInnerFault, IsListFault, IsShapeFault, IsWordFault, holds_others, in_optional, is_among, keywords, no_fit, no_keyword, no_name}
use Rattle.cil_projection.specs.Conditions.{containers}
use Rattle.cil_projection.specs.Readings.{AreStatement, BodyHas, HasStatement, NamedBodyHas, without_places}

-- the faults of names are others
name_kind : (role : Role) (text : List ℕ) (kind : TextFaultKind) → name_fault role text ≡ Some kind → kind ≡ unsupported → ⊥
name_kind role text kind is same = by (is_spelt role text) (list_any is_reserved (components text)) is
  where
    by : (p q : Bool) → (if not p then Some bad_name else if q then Some reserved else None) ≡ Some kind → ⊥
    by true true e = absurd (cc)
    by true false e = absurd (cc)
    by false q e = absurd (cc)

-- a first word that is no keyword
abbrev Stands : (Trees → Type 0) → TextFault → Type 0
Stands Has fault = (arguments : Trees) × Has arguments × (is_among keywords fault.word ≡ false)

word_stands : (inside : Bool) (place : Place) (text : List ℕ) (rest : Trees) (fault : TextFault) → IsWordFault inside (a_word place text rest) (record { at = place; text = text }) fault → fault.kind ≡ unsupported
    → Stands (λ arguments. AreStatement fault.word arguments (without_places (a_word place text rest))) fault
word_stands inside place text rest fault (no_keyword free is) same =
    let word_is : fault.word ≡ text = ap (λ f. f.word) is in
    (without_places rest, (word_is, refl), ap (is_among keywords) word_is ∙ free)
word_stands inside place text rest fault (no_fit has none_fits is) same = absurd (omega (arith, ap (λ f. code_of f.kind) is, ap code_of same))
word_stands inside place text rest fault (in_optional held outside is) same = absurd (omega (arith, ap (λ f. code_of f.kind) is, ap code_of same))
word_stands inside place text rest fault (no_name form inner role word kind fits has bad is) same =
    absurd (name_kind role word.text kind bad (sym (ap (λ f. f.kind) is) ∙ same))

list_stands : (inside : Bool) (at : Place) (items : Trees) (fault : TextFault) → IsListFault inside at items fault → fault.kind ≡ unsupported
    → Stands (λ arguments. AreStatement fault.word arguments (without_places items)) fault
list_stands inside at none fault is same = absurd (omega (arith, ap (λ f. code_of f.kind) is, ap code_of same))
list_stands inside at (a_word place text rest) fault is same = word_stands inside place text rest fault is same
list_stands inside at (a_string place text rest) fault is same = absurd (omega (arith, ap (λ f. code_of f.kind) is, ap code_of same))
list_stands inside at (a_list place end items rest) fault is same = absurd (omega (arith, ap (λ f. code_of f.kind) is, ap code_of same))

holds_container : (text : List ℕ) → holds_others text ≡ true → is_among containers text ≡ true
holds_container text h = by (bytes_eq text (codes "block")) (bytes_eq text (codes "optional")) h
  where
    by : (p q : Bool) → (p || q) ≡ true → (p || (q || false)) ≡ true
    by true q e = refl
    by false true e = refl
    by false false e = e

mutual
  pub fault_stands : (trees : Trees) (inside : Bool) (fault : TextFault) → IsShapeFault inside trees fault → fault.kind ≡ unsupported
      → Stands (λ arguments. HasStatement fault.word arguments (without_places trees)) fault
  fault_stands none inside fault h same = absurd h
  fault_stands (a_word at text rest) inside fault h same = fault_stands rest inside fault h same
  fault_stands (a_string at text rest) inside fault h same = fault_stands rest inside fault h same
  fault_stands (a_list at end items rest) inside fault (inl h) same = let s = list_stands inside at items fault h same in (s.0, inl s.1, s.2)
  fault_stands (a_list at end items rest) inside fault (inr (inl h)) same = let s = inner_stands items inside fault h same in (s.0, inr (inl s.1), s.2)
  fault_stands (a_list at end items rest) inside fault (inr (inr h)) same = let s = fault_stands rest inside fault h same in (s.0, inr (inr s.1), s.2)

  inner_stands : (items : Trees) (inside : Bool) (fault : TextFault) → IsInnerFault inside items fault → fault.kind ≡ unsupported
      → Stands (λ arguments. BodyHas fault.word arguments (without_places items)) fault
  inner_stands none inside fault h same = absurd h
  inner_stands (a_word at text rest) inside fault h same =
      let s = body_stands rest (inside || bytes_eq text (codes "optional")) fault h.1 same in
      (s.0, (holds_container text h.0, s.1), s.2)
  inner_stands (a_string at text rest) inside fault h same = absurd h
  inner_stands (a_list at end items rest) inside fault h same = absurd h

  body_stands : (operands : Trees) (inside : Bool) (fault : TextFault) → IsBodyFault inside operands fault → fault.kind ≡ unsupported
      → Stands (λ arguments. NamedBodyHas fault.word arguments (without_places operands)) fault
  body_stands none inside fault h same = absurd h
  body_stands (a_word at id rest) inside fault h same = fault_stands rest inside fault h.1 same
  body_stands (a_string at text rest) inside fault h same = absurd h
  body_stands (a_list at end items rest) inside fault h same = absurd h
