-- Bytes that are owned.
use Rattle.std.specs.Prelude.{ℕ, List}
use Rattle.cil_resolve.specs.declared.text.Bytes.{Bytes}
use Rattle.cil_resolve.specs.declared.text.Bytes.TheVariants.{Own, Shared}

-- the bytes of a text
abbrev pub bytes_of : {A : Type 0} → Bytes A → List ℕ
bytes_of (Own bytes) = bytes.items
bytes_of (Shared part) = part
