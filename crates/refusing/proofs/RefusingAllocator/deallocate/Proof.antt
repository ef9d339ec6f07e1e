-- A block goes back to the allocator inside. What the call is handed is what the inner call is handed, but for the reference, so the walk is one call. Assumes `Logic`.
use Rattle.refusing.proofs.Steps.{◌≡◌, [], ◌∷◌, ap, refl, w64, Ura, Fn, named, inst_fn, Val, vunit, SProp, ent, guard, mono_l, mono_r, Memory, Routine, Tables, WpFn, Logic, sem, raw, later, given, ◌$◌, ◌∵◌, !, qed, by, use1, await, learn, rewrite, stop, fld, addr, no_more, and_then, of_opd, returns, enter, unit_lit, alloc_all, pass_all, free_all, look_at, get, through, sets, lands_as, Lfts, Fun, tables, tables_of, fm_of, RawPtr, usize, Spells, Tellss, Ises, Are, uint_vals, uint_Tells, Nothing-Tells, owns, shr_vals, shr_Tells, Signature, types_at, only, calls_at, alive, Spec, triple_of, Contract, Triple, entered, Al, Gives, gives_key, rawptr_vals, rawptr_Tells, rawptr_Lawful}
use Rattle.std.specs.contracts.alloc.Allocator.deallocate as method
use Rattle.refusing.proofs.Answers.{Had, answer_shows}
use Rattle.refusing.proofs.Shared.{Refuser, kinds, to_inner, refers_inside}
use Rattle.refusing.proofs.Spelt.{met_if_spelt, spelt}
use Rattle.refusing.specs.contracts.RefusingAllocator.deallocate as outer
use Rattle.refusing.specs.contracts.RefusingAllocator.deallocate.Key as key
use Rattle.refusing.proofs.RefusingAllocator.deallocate.Statement.{statement}
use Rattle.refusing.proofs.RefusingAllocator.deallocate.Code as code

module _ (inside : Al) where
  abbrev S : Signature
  S = outer.signature inside.row

  abbrev spells : (κs : Lfts S.lifetimes) → Spells (types_at S.params κs)
  spells κs = (shr_vals, (rawptr_vals, (uint_vals w64, (uint_vals w64, tt))))

  abbrev tells : (κs : Lfts S.lifetimes) → Tellss (types_at S.params κs) (Ises (types_at S.params κs)) (spells κs)
  tells κs = (shr_Tells (named 0) κs.0 (Refuser inside), (rawptr_Tells, (uint_Tells w64, (uint_Tells w64, tt))))

  abbrev body : Fn
  body = inst_fn (kinds inside) code.function

module _ (inside : Al) {M : Type 1} {𝓤 : Ura M} (𝓛 : Logic 𝓤) (at_mem : Memory → SProp 𝓤) (run : Routine → Fun 𝓤) where
  open 𝓛 use {H}

  abbrev clauses : Spec 𝓤 (S inside)
  clauses = outer.spec inside.row inside.g inside.d inside.drops 𝓛 at_mem run

  abbrev Called : Contract 𝓤
  Called = triple_of 𝓛 (S inside) clauses

  abbrev Passed : Contract 𝓤
  Passed = Gives inside 𝓛 at_mem run

  -- the inner call, which is the outer one at another reference
  abbrev handed : Called.Ghost → Passed.Ghost
  handed x = let inner = to_inner inside x.0.3.0 in ((x.0.0, x.0.1, x.0.2, (inner, x.0.3.1), (shr_vals inner, x.0.4.1)), x.1)

  hands_on : (x : Called.Ghost) → ent 𝓤 (Called.pre x) (Passed.pre (handed x))
  hands_on x =
      let κs = x.0.0 in let a = x.0.3 in let vss = x.0.4 in
      mono_l 𝓤 ((clauses κs a).requires x.1) (mono_r 𝓤 (alive 𝓛 (S inside) κs x.0.1)
      (mono_l 𝓤 (sem 𝓛 (owns (RawPtr ∷ usize ∷ usize ∷ []) a.1 vss.1)) (refers_inside inside 𝓛 κs.0 a.0 vss.0)))

  -- what the inner call gives back
  abbrev Back : Called.Ghost → Val → SProp 𝓤
  Back x v = Had 𝓛 (method.signature inside.row) (method.spec inside.row inside.g inside.d inside.drops 𝓛 at_mem run) (handed x) v

  is_unit : (x : Called.Ghost) (v : Val) → ent 𝓤 (Passed.post (handed x) v) (H.⇛ (guard 𝓤 (v ≡ vunit) (Back x v)))
  is_unit x v = answer_shows 𝓛 (method.signature inside.row) (method.spec inside.row inside.g inside.d inside.drops 𝓛 at_mem run) (handed x) v (v ≡ vunit) (λ r is. ap only (Nothing-Tells r (v ∷ []) is))

  takes_back : (x : Called.Ghost) → ent 𝓤 (Back x vunit) (Called.post x vunit)
  takes_back x = 𝓛.laws.⇛_intro (Back x vunit)

  abbrev plainly : Called.Ghost → Called.Ghost
  plainly = spelt 𝓛 (S inside) clauses (spells inside)

  module _ (𝓣 : Tables 𝓤 H) (met : Triple 𝓤 (𝓣.C (gives_key inside)) Passed) where
    walk : (x : Called.Ghost) → Are (types_at (S inside).params x.0.0) (Ises (types_at (S inside).params x.0.0)) x.0.3 (plainly x).0.4
        → ent 𝓤 (Called.pre (plainly x)) (WpFn 𝓤 H 𝓣.C 𝓣.Λ (body inside) (Called.args (plainly x)) (Called.post (plainly x)))
    walk x are =
        let y = plainly x in
        qed 𝓛 (raw (Called.pre y) ∷ []) ∵ use1 𝓛 (raw (Passed.pre (handed y))) (hands_on y) $
        enter ! _ _ _ _ _ $ alloc_all ! (λ l.
        pass_all ! refl ((tt, tt), (((rawptr_Lawful 𝓛).typed y.0.3.1.0 _ are.1.0).0, ((tt, record { fits = are.1.1.0.1 }), ((tt, record { fits = are.1.1.1.0.1 }), tt)))) $
        sets ! (addr ! (through ! refl (fld ! refl (stop !)))) refl (tt, tt) $
        calls_at ! (fm_of 𝓤 H 𝓛.laws 𝓣) Passed met (handed y) (and_then ! (get ! refl) (and_then ! (get ! refl) (and_then ! (get ! refl) (and_then ! (get ! refl) (no_more !))))) (λ v.
        use1 𝓛 (later (given (v ≡ vunit) (raw (Back y v)))) (is_unit y v) $ await ! tt $ learn ! (λ unit.
        lands_as ! unit refl (tt, tt) $ sets ! (of_opd ! (unit_lit !)) refl (tt, tt) $ returns ! (look_at ! 0 refl) $ free_all ! refl $
        rewrite ! 0 (λ (w : Val). raw (Back y w)) unit refl $ by ! (takes_back y))))

pub deallocate_spec : {M : Type 1} → statement M
unfolding tables_of
deallocate_spec 𝓤 𝓛 𝓜 𝓡 wired row laws g d drops met _ =
    let inside : Al = record { row = row; laws = laws; g = g; d = d; drops = drops } in
    let 𝓣 : Tables 𝓤 𝓛.H = tables_of 𝓤 𝓛.H 𝓜 (tables 𝓤 𝓛.H 𝓜 𝓡 𝓡.env) in
    entered 𝓤 𝓛.H (Called inside 𝓛 𝓜.mem 𝓡.returns) 𝓣.C 𝓣.Λ (key.name (kinds inside)) (body inside) (code.unfolded 𝓤 𝓛.H 𝓜 𝓡 wired (row, tt) d drops)
    (met_if_spelt 𝓛 (S inside) (clauses inside 𝓛 𝓜.mem 𝓡.returns) (WpFn 𝓤 𝓛.H 𝓣.C 𝓣.Λ (body inside)) (spells inside) (tells inside) (walk inside 𝓛 𝓜.mem 𝓡.returns 𝓣 (met.deallocate drops)))
