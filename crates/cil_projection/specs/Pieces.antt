-- The pieces of a projected text, and the bytes that they spell.
use Rattle.std.specs.Prelude.{ℕ, ◌-◌, ◌==◌, Bool, cond, List, [], ◌∷◌, ◌++◌, length, take, drop, map, codes}
use Rattle.std.specs.List.{list_any}
use Rattle.cil_projection.specs.declared.table.Table.{Table}
use Rattle.cil_projection.specs.declared.table.Table.TheVariants.{Types, Roles, Users, Booleans, Tunables, Categories, Sensitivities, Levels, Ranges, Contexts, Sids, Addresses, ExtendedPermissions}
use Rattle.cil_projection.specs.declared.piece.Piece as code
use Rattle.cil_projection.specs.declared.piece.Piece.TheVariants.{Copied, Blanked, Taken, Declared, Needed, Class, PermissionSet, Opened, Permission, Closed}

-- Bytes of the text as they are, or blanked; that a statement with this first word was taken by its names; a declaration of a name; a rule
-- that needs a name, or a class, or a permission set; the front of a rule that needs a class and permissions, each of them, and its end. Offsets are those of
-- the text.
pub data Piece : Type 0 where
  copied : ℕ → ℕ → Piece
  blanked : ℕ → ℕ → Piece
  taken : List ℕ → Piece
  declared : Table → List ℕ → Piece
  needed : Table → List ℕ → Piece
  a_class : List ℕ → Piece
  a_permission_set : List ℕ → Piece
  opened : List ℕ → Piece
  permission : List ℕ → Piece
  closed : Piece

abbrev pub piece_of : code.Piece → Piece
piece_of (Copied from to) = copied from to
piece_of (Blanked from to) = blanked from to
piece_of (Taken keyword) = taken keyword.now
piece_of (Declared table name) = declared table name.now
piece_of (Needed table name) = needed table name.now
piece_of (Class name) = a_class name.now
piece_of (PermissionSet name) = a_permission_set name.now
piece_of (Opened the_class) = opened the_class.now
piece_of (Permission name) = permission name.now
piece_of Closed = closed

abbrev pub pieces_of : List code.Piece → List Piece
pieces_of = map piece_of

abbrev pub prefix : Table → List ℕ
prefix Types = []
prefix Roles = codes "cilsem__role__"
prefix Users = codes "cilsem__user__"
prefix Booleans = codes "cilsem__boolean__"
prefix Tunables = codes "cilsem__tunable__"
prefix Categories = codes "cilsem__category__"
prefix Sensitivities = codes "cilsem__sensitivity__"
prefix Levels = codes "cilsem__level__"
prefix Ranges = codes "cilsem__range__"
prefix Contexts = codes "cilsem__context__"
prefix Sids = codes "cilsem__sid__"
prefix Addresses = codes "cilsem__address__"
prefix ExtendedPermissions = codes "cilsem__permissionx__"

-- whether a name has a dot
abbrev pub is_dotted : List ℕ → Bool
is_dotted = list_any (λ b. b == 46)

-- what stands behind the last dot of a name, or all of it
abbrev pub last_component : List ℕ → List ℕ
last_component [] = []
last_component (b ∷ name) = cond (is_dotted (b ∷ name)) (last_component name) (b ∷ name)

-- the attribute that stands for a name of a table: the name with the table's prefix in front of its last component
abbrev pub attribute_of : Table → List ℕ → List ℕ
attribute_of table name = take (length name - length (last_component name)) name ++ prefix table ++ last_component name

-- the bytes of a text from one offset up to another
abbrev pub part_of : List ℕ → ℕ → ℕ → List ℕ
part_of text from to = take (to - from) (drop from text)

-- a line feed, or a space for any other byte
abbrev pub blank : ℕ → ℕ
blank b = cond (b == 10) 10 32

abbrev pub spelled : List ℕ → Piece → List ℕ
spelled text (copied from to) = part_of text from to
spelled text (blanked from to) = map blank (part_of text from to)
spelled text (taken keyword) = []
spelled text (declared table name) = codes "(typeattribute " ++ attribute_of table name ++ codes ")"
spelled text (needed table name) = codes "(dontaudit " ++ attribute_of table name ++ codes " cilsem__none (cilsem__none ()))"
spelled text (a_class name) = codes "(dontaudit cilsem__none self (" ++ name ++ codes " ()))"
spelled text (a_permission_set name) = codes "(dontaudit cilsem__none self " ++ name ++ codes ")"
spelled text (opened the_class) = codes "(dontaudit cilsem__none self (" ++ the_class ++ codes " ("
spelled text (permission name) = name ++ codes " "
spelled text closed = codes ")))"

-- the bytes of pieces one after the other
abbrev pub rendered : List ℕ → List Piece → List ℕ
rendered text [] = []
rendered text (piece ∷ pieces) = spelled text piece ++ rendered text pieces
