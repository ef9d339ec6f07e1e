-- Where trees in order stand.
use Rattle.std.specs.Prelude.{ℕ, ◌+◌, ◌-◌, ◌≤◌, List, length, IsTrue}
use Rattle.std.proofs.Common.{arith}
use Rattle.cil_specs.specs.Place.{Place}
use Rattle.cil_specs.specs.Trees.{Trees, Reads, a_word, a_string, a_list, in_order}
use Rattle.cil_specs.proofs.Order.{reading-in_order}
use Rattle.cil_specs.proofs.OrderLemmas.{order_word, order_list, order_le}

-- the trees stand in order between two offsets
abbrev pub Stands : ℕ → Trees → ℕ → Type 0
Stands from trees to = (low high : ℕ) × (from ≤ low) × (high ≤ to) × IsTrue (in_order low trees high)

pub reading_stands : (text : List ℕ) (trees : Trees) → Reads text trees → Stands 0 trees (length text)
reading_stands text trees reads = (0, length text, omega arith, omega arith, reading-in_order text trees (length text) reads (omega arith))

pub stands_le : (from : ℕ) (trees : Trees) (to : ℕ) → Stands from trees to → from ≤ to
stands_le from trees to h = omega (arith, h.2, h.3, order_le h.0 trees h.1 h.4)

pub stands_wide : (lower from : ℕ) (trees : Trees) (to higher : ℕ) → lower ≤ from → to ≤ higher → Stands from trees to → Stands lower trees higher
stands_wide lower from trees to higher le more h = (h.0, h.1, omega (arith, h.2, le), omega (arith, h.3, more), h.4)

pub stands_word : (from : ℕ) (at : Place) (word : List ℕ) (rest : Trees) (to : ℕ) → Stands from (a_word at word rest) to → Stands from rest to
stands_word from at word rest to h =
    let p = order_word h.0 at word rest h.1 h.4 in
    (at.offset + length word, h.1, omega (arith, h.2, p.0, p.1), h.3, p.2)

pub stands_string : (from : ℕ) (at : Place) (text : List ℕ) (rest : Trees) (to : ℕ) → Stands from (a_string at text rest) to → Stands from rest to
stands_string from at text rest to h =
    let p = order_word h.0 at text rest h.1 h.4 in
    (at.offset + length text, h.1, omega (arith, h.2, p.0, p.1), h.3, p.2)

-- a list begins behind the first offset, and what stands in it stands before its end, and the rest behind it
pub stands_list : (from : ℕ) (at : Place) (end : ℕ) (items rest : Trees) (to : ℕ) → Stands from (a_list at end items rest) to
    → (from ≤ at.offset) × (at.offset ≤ end) × (end ≤ to) × Stands at.offset items end × Stands end rest to
stands_list from at end items rest to h =
    let p = order_list h.0 at end items rest h.1 h.4 in
    let inside = order_le (at.offset + 1) items (end - 1) p.2 in (
      omega (arith, h.2, p.0),
      omega (arith, inside),
      omega (arith, h.3, order_le end rest h.1 p.3),
      (at.offset + 1, end - 1, omega arith, omega arith, p.2),
      (end, h.1, omega arith, h.3, p.3),
    )

-- what stands behind the list, from the first offset on
pub stands_behind : (from : ℕ) (at : Place) (end : ℕ) (items rest : Trees) (to : ℕ) → Stands from (a_list at end items rest) to → Stands from rest to
stands_behind from at end items rest to h =
    let p = stands_list from at end items rest to h in
    stands_wide from end rest to to (omega (arith, p.0, p.1)) (omega arith) p.4
