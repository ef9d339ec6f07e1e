-- The parsed modules of entries stand for the modules of their texts.
use Rattle.cil_store.proofs.Common.{List, ℕ, [], ◌∷◌, refl, Module, AreModules, Entry, NamedModule, AreParsedOf}
use Rattle.cil_specs.specs.ModuleText.{IsModuleText}
use Rattle.cil_bind.specs.Written.{IsWritten}
use Rattle.cil_resolve.specs.Modules.{AreParsedFrom}

-- the module of a text is written
text-written : (bytes : List ℕ) (m : Module) → IsModuleText bytes m.statements → IsWritten m
text-written bytes m text = record { bytes = bytes; trees = text.trees; reads = text.reads; shapes = text.shapes }

pub kept-modules : {A : Type 0} (entries : List Entry) (parsed : List (NamedModule A)) → AreParsedOf entries parsed → (modules : List Module) × AreParsedFrom parsed modules × AreModules entries modules
kept-modules [] [] are = ([], record { spelt = tt; written = tt }, tt)
kept-modules [] (n ∷ parsed) are = absurd are
kept-modules (e ∷ entries) [] are = absurd are
kept-modules (e ∷ entries) (n ∷ parsed) are =
    let others = kept-modules entries parsed are.2 in
    let m : Module = record { name = n.name.now; statements = are.1.statements } in
    (m ∷ others.0, record { spelt = (refl, are.1.spells, others.1.spelt); written = (text-written e.text m are.1.is_text, others.1.written) }, (are.0, are.1.is_text, others.2))
