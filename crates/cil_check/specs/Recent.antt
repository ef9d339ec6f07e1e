-- What classes are known to have.
use Rattle.std.specs.Prelude.{◌≡◌, ◌==◌, ◌&&◌, ℕ, Bool, true, List, Option, Some, slice_get}
use Rattle.cil_specs.specs.Joined.{Placed}
use Rattle.cil_specs.specs.Lookup.{holds_of, has_name, permissions_of}
use Rattle.cil_bind.specs.Lookup.{word_at}
use Rattle.cil_check.specs.Missing.{has_list}
use Rattle.cil_check.specs.declared.checker.Checker.{Checker}
use Rattle.cil_check.specs.declared.held.Held.{Held}
use Rattle.cil_check.specs.declared.known.Known.{Known}
use Rattle.cil_check.specs.declared.permissions.Listed.{Listed}

-- The permissions in some slots are ones that their classes have.
abbrev pub AreRecent : (ℕ → ℕ → Bool) → List (Option Listed) → Type 0
AreRecent has slots = (i : ℕ) (p : Listed) → slice_get slots i ≡ Some (Some p) → has p.owner p.word ≡ true

-- whether this is a list, by the number of its module and its own, and a class
abbrev pub is_held : Held → ℕ → ℕ → ℕ → Bool
is_held held number list owner = (held.owner == owner && held.list == list) && held.«module» == number

-- The lists in some slots are ones that their classes have.
abbrev pub AreHeld : (ℕ → ℕ → ℕ → Bool) → List (Option Held) → Type 0
AreHeld holds slots = (i : ℕ) (p : Held) → slice_get slots i ≡ Some (Some p) → holds p.«module» p.list p.owner ≡ true

-- whether the class of a place has the permission of a number
abbrev pub has_permission : List (List ℕ) → List Placed → ℕ → ℕ → Bool
has_permission names policy owner word = holds_of (λ c. has_name (permissions_of policy c) (word_at names word)) (slice_get policy owner)

-- What is known holds in a policy.
pub record IsKnown {A : Type 0} (checker : Checker A) (policy : List Placed) (known : Known A) : Type 0 where
  pub lists : AreHeld (has_list checker.bound.joined.now.modules.items policy) known.lists.slots.items
  pub recent : AreRecent (has_permission checker.bound.policy.now.names policy) known.recent.items
