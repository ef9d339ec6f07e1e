-- How values are added one behind the other.
use Rattle.std.specs.Prelude.{◌≡◌, ℕ, ◌++◌, Bool, true, false, List, [], ◌∷◌, Option, Some, None, option_map, refl}
use Rattle.std.proofs.Common.{◌∙◌, sym, ap, subst, append_assoc, append-nil}
use Rattle.cil_specs.specs.Trees.{Trees}
use Rattle.cil_reader.specs.declared.tree.Tree.{Tree}
use Rattle.cil_reader.specs.declared.tree.Tree.TheVariants as trees
use Rattle.cil_reader.specs.Common.{tree_then}
use Rattle.cil_projection.specs.Conditions.{in_front, values, first_value, AddsValues}

-- what is added to some values completes what was to be added to others
abbrev pub CompletesValues : List Bool → Option (List Bool) → List Bool → Option (List Bool) → Type 0
CompletesValues start all now rest = (after : List Bool) (fits : Bool) → AddsValues now after fits rest → AddsValues start after fits all

pub values_first : (value : List ℕ → Option Bool) (tree : Tree) (all rest : Trees) → all ≡ tree_then tree rest
    → values value all ≡ in_front (first_value value (tree_then tree rest)) (values value rest)
values_first value (trees.Word w) all rest is = ap (values value) is
values_first value (trees.String w) all rest is = ap (values value) is
values_first value (trees.List at end items) all rest is = ap (values value) is

pub none_left : (now : List Bool) → AddsValues now now true (Some [])
none_left now = ap (λ l. Some l) (append-nil now)

in_front_of : (now : List Bool) (x : Bool) (found : Option (List Bool)) → option_map (λ l. (now ++ x ∷ []) ++ l) found ≡ option_map (λ l. now ++ l) (in_front (Some x) found)
in_front_of now x None = refl
in_front_of now x (Some l) = ap (λ l. Some l) (append_assoc now (x ∷ []) l)

adds_first : (now after : List Bool) (fits : Bool) (x : Bool) (found : Option (List Bool)) → AddsValues (now ++ x ∷ []) after fits found → AddsValues now after fits (in_front (Some x) found)
adds_first now after true x found is = sym (in_front_of now x found) ∙ is
adds_first now after false x found is = ap (in_front (Some x)) is

pub completes_more : (start now : List Bool) (all rest behind : Option (List Bool)) (x : Bool) → CompletesValues start all now rest → rest ≡ in_front (Some x) behind
    → CompletesValues start all (now ++ x ∷ []) behind
completes_more start now all rest behind x completes is after fits adds =
    completes after fits (subst (AddsValues now after fits) (sym is) (adds_first now after fits x behind adds))
