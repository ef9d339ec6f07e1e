-- Whether an attribute is declared that depends on itself is decided.
use Rattle.cil_specs.proofs.Common.{◌≡◌, ◌↔◌, inl, inr, Bool, true, false, List, [], ◌∷◌, refl, sym, subst, cond, arith, Word, Form, type_attribute, Placed, types, declared_name, is_attribute, IsCircular, sets_of}
use Rattle.std.proofs.Common.{filter, Contains, true≢false}
use Rattle.cil_specs.proofs.NamesLemmas.{contains-first, contains-cases}
use Rattle.cil_specs.proofs.DependsLemmas.{depends_on, depends-decided}

-- the word that a statement declares as an attribute
pub attribute-word : (form : Form) → is_attribute form ≡ true → (id : Word) × (form ≡ type_attribute id)
attribute-word (type_attribute id) e = (id, refl)
attribute-word _ e = absurd (true≢false (sym e))

-- the same, if it declares one
abbrev pub attribute_words : Form → List Word
attribute_words (type_attribute id) = id ∷ []
attribute_words _ = []

-- the word of an attribute that depends on itself
abbrev pub circular_words : List Placed → Placed → List Word
circular_words policy s = filter (λ id. depends_on (sets_of policy) (declared_name types s) (declared_name types s)) (attribute_words s.form)

pub circular-listed : (policy : List Placed) (s : Placed) (word : Word) → Contains (circular_words policy s) word ↔ IsCircular policy s word
circular-listed policy s word = (from s.form refl, to)
  where
    itself : Bool
    itself = depends_on (sets_of policy) (declared_name types s) (declared_name types s)

    from : (form : Form) → s.form ≡ form → Contains (filter (λ id. depends_on (sets_of policy) (declared_name types s) (declared_name types s)) (attribute_words form)) word → IsCircular policy s word
    from (type_attribute id) e c = by (depends_on (sets_of policy) (declared_name types s) (declared_name types s)) refl c
      where
        by : (b : Bool) → depends_on (sets_of policy) (declared_name types s) (declared_name types s) ≡ b → Contains (cond b (id ∷ []) []) word → IsCircular policy s word
        by true is d = elim (contains-cases id [] word d) [
          | inl same ↦ record { declares = subst (λ w. s.form ≡ type_attribute w) same e; depends = (depends-decided (sets_of policy) (declared_name types s) (declared_name types s)).0 is }
          | inr none ↦ absurd (omega (arith, none.1))
        ]
        by false is d = absurd (omega (arith, d.1))
    from _ e c = absurd (omega (arith, c.1))

    to : IsCircular policy s word → Contains (circular_words policy s) word
    to is =
        subst (λ form. Contains (filter (λ id. depends_on (sets_of policy) (declared_name types s) (declared_name types s)) (attribute_words form)) word) (sym is.declares)
        (subst (λ b. Contains (cond b (word ∷ []) []) word) (sym ((depends-decided (sets_of policy) (declared_name types s) (declared_name types s)).1 is.depends)) (contains-first word []))
