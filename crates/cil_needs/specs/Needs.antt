-- What nodes need of others, by their numbers.
use Rattle.std.specs.Prelude.{ℕ, Bool, false, not, ◌&&◌, ◌||◌, nat_lt, List, ◌++◌, Option, None, Some}
use Rattle.std.specs.List.{list_all, list_any}
use Rattle.std.specs.Option.{option_to_list}
use Rattle.cil_needs.specs.declared.greatest.Need.{Need}

-- the nodes that can meet a need
abbrev pub meeting : Need → List ℕ
meeting need = option_to_list need.first ++ option_to_list need.second

-- whether a set has a node, if there is one
abbrev pub has_node : (ℕ → Bool) → Option ℕ → Bool
has_node has None = false
has_node has (Some n) = has n

-- a node that a set has is met where the set has one of those that it needs
abbrev pub is_met : (ℕ → Bool) → Need → Bool
is_met has need = not (has need.optional) || list_any has (meeting need)

abbrev pub are_met : (ℕ → Bool) → List Need → Bool
are_met has needs = list_all (is_met has) needs

-- the numbers are below this one, and that of the node isn't 0
abbrev pub is_need_below : ℕ → Need → Bool
is_need_below n need = nat_lt 0 need.optional && (nat_lt need.optional n && list_all (λ o. nat_lt o n) (meeting need))
