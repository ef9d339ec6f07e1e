-- A `&` to an allocator that refuses is a `&` to the allocator inside, beside one to the growths. Assumes `Logic`.
use Rattle.std.proofs.Common.{ℕ, ◌+◌, List, [], ◌∷◌, Bor, refl}
use seplogic.Ra.Ura.{Ura}
use mir.Syntax.{Args, a_type, dcons, dnil, named}
use mir.Val.{Val}
use base.Logic.{SProp, ent, sep, via, fst∗}
use base.Fml.{Lft, Fml}
use prog.Memory.{size, align, up}
use types.Logic.{Logic, sem}
use types.Kit.{‵, ◌⊛◌, ◌$◌, ◌∵◌, !, qed, keep, move, drop, use1, split, fsplit, fjoin, feq_i, done}
use denote.RattleType.{RattleType}
use denote.Opens.{unhide}
use denote.Memory.{hidden_shr}
use denote.Param.{bounded, param}
use denote.Ref.{ShrRef, shr_vals}
use Rattle.std.proofs.alloc.Calls.{Al, α, seen}
use Rattle.refusing.specs.contracts.Growths as growths
use Rattle.refusing.specs.contracts.Refusing as refusing

module _ (inside : Al) where
  -- by which the code is told its heap
  abbrev pub kinds : Args
  kinds = bounded (a_type ∷ []) (inside.row, tt) (dcons inside.d (dcons inside.drops dnil))

  abbrev pub Refuser : RattleType
  Refuser = refusing.the_row (param 0 inside.row)

  -- where the two fields lie
  abbrev pub inner_at : ℕ × ℕ → ℕ × ℕ
  inner_at p = (p.0, p.1 + up (align (α inside)) 0)

  abbrev pub growths_at : ℕ × ℕ → ℕ × ℕ
  growths_at p = (p.0, p.1 + up 8 (up (align (α inside)) 0 + size (α inside)))

  -- the references that the code makes of its own
  abbrev pub to_inner : Bor Refuser.Denot → Bor inside.row.Denot
  to_inner r = record { ref_ptr = inner_at r.ref_ptr; now = r.now.heap }

  abbrev pub to_growths : Bor Refuser.Denot → Bor (growths.the_row).Denot
  to_growths r = record { ref_ptr = growths_at r.ref_ptr; now = r.now.growths }

module _ (inside : Al) {M : Type 1} {𝓤 : Ura M} (𝓛 : Logic 𝓤) (κ : Lft) where
  abbrev ⟦◌⟧ : Fml → SProp 𝓤
  ⟦ P ⟧ = sem 𝓛 P

  -- the padding of the struct is let go
  fields_seen : (x : (Refuser inside).Denot) (p : ℕ × ℕ)
      → ent 𝓤 ⟦ hidden_shr (Refuser inside) κ x p.0 p.1 ⟧ (sep 𝓤 ⟦ seen inside κ (inner_at inside p) x.heap ⟧ ⟦ hidden_shr growths.the_row κ x.growths (growths_at inside p).0 (growths_at inside p).1 ⟧)
  fields_seen x p = qed 𝓛 (‵ (hidden_shr (Refuser inside) κ x p.0 p.1) ∷ []) ∵ unhide ! $ fsplit ! $ fsplit ! $ move ! (1 ∷ []) $ fsplit ! $ keep ! (2 ∷ 0 ∷ []) $ done !

  -- what a reference to an R owns, at the one machine value that it has
  abbrev pub Refers : (R : RattleType) → Bor R.Denot → SProp 𝓤
  Refers R r = ⟦ (ShrRef (named 0) κ R).own_val r (shr_vals r) ⟧

  -- so who has the one reference has two
  pub refers_to_fields : (r : Bor (Refuser inside).Denot) (vs : List Val)
      → ent 𝓤 ⟦ (ShrRef (named 0) κ (Refuser inside)).own_val r vs ⟧ (sep 𝓤 (Refers (param 0 inside.row) (to_inner inside r)) (Refers growths.the_row (to_growths inside r)))
  refers_to_fields r vs =
      let p = r.ref_ptr in let inner = shr_vals (to_inner inside r) in let counts = shr_vals (to_growths inside r) in
      qed 𝓛 (‵ ((ShrRef (named 0) κ (Refuser inside)).own_val r vs) ∷ []) ∵ fsplit ! $ drop ! $
      use1 𝓛 (‵ (seen inside κ (inner_at inside p) r.now.heap) ⊛ ‵ (hidden_shr growths.the_row κ r.now.growths (growths_at inside p).0 (growths_at inside p).1)) (fields_seen r.now p) $ split ! $
      feq_i ! (List Val) inner inner refl $ fjoin ! $ move ! (1 ∷ []) $ feq_i ! (List Val) counts counts refl $ fjoin ! $ move ! (1 ∷ []) $ done !

  pub refers_inside : (r : Bor (Refuser inside).Denot) (vs : List Val)
      → ent 𝓤 ⟦ (ShrRef (named 0) κ (Refuser inside)).own_val r vs ⟧ (Refers (param 0 inside.row) (to_inner inside r))
  refers_inside r vs =
      let inner = Refers (param 0 inside.row) (to_inner inside r) in let counts = Refers growths.the_row (to_growths inside r) in
      via 𝓤 (sep 𝓤 inner counts) (refers_to_fields r vs) (fst∗ 𝓤 inner counts)
