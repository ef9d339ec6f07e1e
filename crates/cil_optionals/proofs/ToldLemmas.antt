-- Statements that aren't about names tell nothing of names and permissions.
use Rattle.cil_optionals.proofs.Common.{◌≡◌, ◌<◌, ℕ, false, List, length, get_or, Some, refl, sym, ap, ◌∙◌, arith, is_some, true≢false, slice_get_within, rows-length, gives_common, Placed, Policy, NamedModule, IsReady, AreProviders, IsUpTo, Need}
use Rattle.std.proofs.Common.{slice_get}
use Rattle.std.proofs.lemmas.Option.{get_or_from_slice_get, slice_get-get_or}
use Rattle.cil_parse.specs.Forms.{kind_of}
use Rattle.cil_parse.specs.declared.row.StatementKind.{StatementKind}
use Rattle.cil_parse.specs.declared.row.StatementKind.TheVariants as kinds
use Rattle.cil_bind.specs.Listing.{lists_own}
use Rattle.cil_bind.specs.Rows.{declares_name}
use Rattle.cil_bind.specs.AboutNames.{is_about_names}
use Rattle.cil_bind.proofs.BindingLemmas.{kind-at}
use Rattle.cil_bind.proofs.ScopeLemmas.{kind-nothing}
use Rattle.cil_bind.proofs.AboutNamesLemmas.{StaysAt, other-declares-none}
use Rattle.cil_optionals.specs.Nodes.{declared_table}
use Rattle.cil_optionals.specs.declared.listed.Listed.{Listed}
use Rattle.cil_optionals.proofs.AsksLemmas.{kinds-long}
use Rattle.cil_optionals.proofs.PermissionLemmas.{upto-other}
use Rattle.cil_optionals.proofs.ProviderLemmas.{providers-skip, statement-at}

-- the place that is read at an index of the places
pub place-read : (places : List ℕ) (k i : ℕ) → k < length places → i ≡ get_or places k i → i ≡ get_or places k 0
place-read places k i low is = is ∙ sym (get_or_from_slice_get places k (get_or places k i) 0 (slice_get-get_or places k i low))

other-lists-none : (kind : StatementKind) → is_about_names kind ≡ false → lists_own kind ≡ false
other-lists-none kinds.Class e = absurd (true≢false e)
other-lists-none kinds.Common e = absurd (true≢false e)
other-lists-none _ e = refl

other-gives-none : (kind : StatementKind) → is_about_names kind ≡ false → gives_common kind ≡ false
other-gives-none kinds.ClassCommon e = absurd (true≢false e)
other-gives-none _ e = refl

module _ {A : Type 0} (p : Policy A) (parsed : List (NamedModule A)) (all : List Placed) (ready : IsReady p parsed all) where
  kind-there : (i : ℕ) (kind : StatementKind) (s : Placed) → slice_get p.kinds.items i ≡ Some kind → slice_get all i ≡ Some s → kind ≡ kind_of s.form
  kind-there i kind s at here = sym (get_or_from_slice_get p.kinds.items i kind kind at) ∙ kind-at all p.kinds.items i s kind ready.bound.kinds here

  pub providers-over : (needs : List Need) → StaysAt (λ i. AreProviders all p.rows.items i needs) p.kinds.items
  providers-over needs i kind at other are =
      providers-skip all p.rows.items i needs
      (λ row s there here declared.
      let none = ap declares_name (sym (kind-there i kind s at here)) ∙ other-declares-none kind other in
      absurd (true≢false (sym declared.some ∙ ap is_some (kind-nothing (declared_table s.form) s.form none)))) are

  pub upto-over : (listed : Listed A) → StaysAt (λ i. IsUpTo all i listed) p.kinds.items
  upto-over listed i kind at other are =
      let long = rows-length p.names p.lookup.namespaces p.rows.items all ready.bound.stands.rows_are in
      let kinds = kinds-long p parsed all ready in
      let less = slice_get_within p.kinds.items i kind at in
      let (s, here) = statement-at p parsed all i ready (omega (arith, long, kinds, less)) in
      let is = sym (kind-there i kind s at here) in
      upto-other all i s listed here (ap lists_own is ∙ other-lists-none kind other) (ap gives_common is ∙ other-gives-none kind other) are
