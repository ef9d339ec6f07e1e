-- A growth is counted, and then refused or passed on. What is left behind the count is what the inner call is handed, and that is enough to refuse too. Assumes `Logic`.
use Rattle.refusing.proofs.Steps.{◌≡◌, Bool, false, Err, [], ◌∷◌, ap, refl, T, w64, Ura, Fn, named, inst_fn, Val, vbool, has_ty, WT, SProp, ent, emp, sep, wand, fst∗, guard, via, apply∗, flft, Memory, Routine, Tables, WpFn, Logic, sem, ‵, raw, ◌⊛◌, later, given, ◌$◌, ◌∵◌, !, qed, by, move, use1, use2, split, join, await, learn, frame, assume, group, use0, show, at_ret, done, stop, fld, addr, no_more, and_then, lit, of_opd, returns, enter, first, branches, exec, agg, alloc_all, pass_all, free_all, look_at, get, through, sets, sets_last, lands_as, lands_last, env, Lfts, Fun, tables, tables_of, fm_of, RawPtr, usize, Spells, Tellss, Ises, Are, layout, param, Laws, bool_Tells, uint_vals, uint_Tells, owns, ShrRef, shr_vals, shr_Tells, Signature, types_at, only, nothing, calls_at, calls_at_last, Lasts, lasts, alive, Spec, triple_of, Contract, Triple, cited, entered, Al, Answer, Answer-err, Answer-typed, Takes, answer_val, takes_key, ptr_laws, after}
use Rattle.std.proofs.alloc.AllocError.TheLaws.{the_row_laws as error_laws}
use Rattle.std.proofs.result.Result.TheLaws.{the_row_laws as result_laws}
use Rattle.std.specs.contracts.alloc.AllocError as error
use Rattle.std.specs.contracts.alloc.Allocator.allocate as method
use Rattle.refusing.proofs.Answers.{Had, answer_shows, given_back, tokens_back}
use Rattle.refusing.proofs.Shared.{Refuser, kinds, Refers, to_inner, to_growths, refers_to_fields}
use Rattle.refusing.proofs.Spelt.{met_if_spelt, spelt}
use Rattle.refusing.specs.contracts.Growths as growths
use Rattle.refusing.specs.contracts.is_refused as count
use Rattle.refusing.proofs.is_refused.Symbol as count_symbol
use Rattle.refusing.proofs.is_refused.Met as count_met
use Rattle.refusing.specs.contracts.RefusingAllocator.allocate as outer
use Rattle.refusing.specs.contracts.RefusingAllocator.allocate.Key as key
use Rattle.refusing.proofs.RefusingAllocator.allocate.Statement.{statement}
use Rattle.refusing.proofs.RefusingAllocator.allocate.Code as code

abbrev answer_laws : Laws Answer
answer_laws = result_laws RawPtr error.the_row ptr_laws error_laws

module _ (inside : Al) where
  abbrev S : Signature
  S = outer.signature inside.row

  abbrev spells : (κs : Lfts S.lifetimes) → Spells (types_at S.params κs)
  spells κs = (shr_vals, (uint_vals w64, (uint_vals w64, tt)))

  abbrev tells : (κs : Lfts S.lifetimes) → Tellss (types_at S.params κs) (Ises (types_at S.params κs)) (spells κs)
  tells κs = (shr_Tells (named 0) κs.0 (Refuser inside), (uint_Tells w64, (uint_Tells w64, tt)))

  abbrev body : Fn
  body = inst_fn (kinds inside) code.function

module _ (inside : Al) {M : Type 1} {𝓤 : Ura M} (𝓛 : Logic 𝓤) (at_mem : Memory → SProp 𝓤) (run : Routine → Fun 𝓤) where
  open 𝓛 use {H, A}

  abbrev clauses : Spec 𝓤 (S inside)
  clauses = outer.spec inside.row inside.g inside.d inside.drops 𝓛 at_mem run

  abbrev Called : Contract 𝓤
  Called = triple_of 𝓛 (S inside) clauses

  abbrev inner_clauses : Spec 𝓤 (method.signature inside.row)
  inner_clauses = method.spec inside.row inside.g inside.d inside.drops 𝓛 at_mem run

  abbrev Passed : Contract 𝓤
  Passed = Takes inside 𝓛 at_mem run

  abbrev Counts : Contract 𝓤
  Counts = triple_of 𝓛 count.signature (count.spec 𝓛 at_mem run)

  -- the inner call, which is the outer one at another reference
  abbrev handed : Called.Ghost → Passed.Ghost
  handed x = let inner = to_inner inside x.0.3.0 in ((x.0.0, x.0.1, x.0.2, (inner, x.0.3.1), (shr_vals inner, x.0.4.1)), x.1)

  -- the count, at the lifetime of the outer call's reference
  abbrev counted : Called.Ghost → Counts.Ghost
  counted x = let own = to_growths inside x.0.3.0 in (((x.0.0.0, tt), (x.0.1.0, tt), tt, (own, tt), (shr_vals own, tt)), tt)

  -- the count borrows the token, and what is left waits for it
  abbrev Waits : Called.Ghost → SProp 𝓤
  Waits x = wand 𝓤 (A.lft x.0.0.0 x.0.1.0) (Passed.pre (handed x))

  lends : (x : Called.Ghost) → ent 𝓤 (sep 𝓤 (Refers inside 𝓛 x.0.0.0 growths.the_row (to_growths inside x.0.3.0)) (A.lft x.0.0.0 x.0.1.0)) (Counts.pre (counted x))
  lends x = qed 𝓛 (raw (Refers inside 𝓛 x.0.0.0 growths.the_row (to_growths inside x.0.3.0)) ∷ ‵ (flft x.0.0.0 x.0.1.0) ∷ []) ∵
      nothing ! $ move ! (1 ∷ 0 ∷ []) $ join ! $ nothing ! $ move ! (2 ∷ 0 ∷ []) $ join ! $ join ! $ nothing ! $ move ! (1 ∷ []) $ done !

  counts_first : (x : Called.Ghost) → ent 𝓤 (Called.pre x) (sep 𝓤 (Counts.pre (counted x)) (Waits x))
  counts_first x =
      let κs = x.0.0 in let a = x.0.3 in let vss = x.0.4 in
      let token = flft κs.0 x.0.1.0 in let longer = sep 𝓤 (A.lft κs.1.0 x.0.1.1.0) (emp 𝓤) in
      let inner = Refers inside 𝓛 κs.0 (param 0 inside.row) (to_inner inside a.0) in let own = Refers inside 𝓛 κs.0 growths.the_row (to_growths inside a.0) in
      qed 𝓛 (((‵ token ⊛ raw longer) ⊛ (‵ ((ShrRef (named 0) κs.0 (Refuser inside)).own_val a.0 vss.0) ⊛ ‵ (owns (usize ∷ usize ∷ []) a.1 vss.1))) ∷ raw ((clauses κs a).requires x.1) ∷ []) ∵
      split ! $ move ! (1 ∷ []) $ split ! $ use1 𝓛 (raw inner ⊛ raw own) (refers_to_fields inside 𝓛 κs.0 a.0 vss.0) $ split ! $ move ! (3 ∷ []) $ split ! $
      -- [the token; the longer lifetime's; the inner reference; the count's; the other arguments; the `requires`]
      move ! (3 ∷ 0 ∷ []) $ use2 𝓛 (raw (Counts.pre (counted x))) (lends x) $ frame ! $ assume ! (‵ token) $ move ! (0 ∷ 1 ∷ []) $ join ! $ move ! (1 ∷ 2 ∷ []) $ join ! $ move ! (1 ∷ []) $ join ! $ done !

  abbrev Back : Called.Ghost → Val → SProp 𝓤
  Back x = Had 𝓛 (method.signature inside.row) inner_clauses (handed x)

  passes_back : (x : Called.Ghost) (v : Val) → ent 𝓤 (Back x v) (Called.post x v)
  passes_back x v = 𝓛.laws.⇛_intro (Back x v)

  is_typed : (x : Called.Ghost) (v : Val) → ent 𝓤 (Passed.post (handed x) v) (H.⇛ (guard 𝓤 (T (has_ty (layout Answer) v) × WT v) (Back x v)))
  is_typed x v = answer_shows 𝓛 (method.signature inside.row) inner_clauses (handed x) v (T (has_ty (layout Answer) v) × WT v) (λ r is. ((answer_laws.lawful 𝓛).typed r (v ∷ []) is).0)

  -- whoever may ask for a block may be refused it: nothing is owed then but the tokens
  nothing_owed : (y : Passed.Ghost) → ent 𝓤 (emp 𝓤) ((inner_clauses y.0.0 y.0.3).ensures y.1 (Err (record {})))
  nothing_owed y =
      let call = method.ended inside.row inside.g inside.d inside.drops in
      qed 𝓛 [] ∵ show ! (λ (ws : Lasts call y.0.0 y.0.3). sep 𝓤 (sem 𝓛 (lasts call y.0.0 y.0.3 ws)) (emp 𝓤)) (tt, (tt, (tt, tt))) $ nothing ! $ nothing ! $ nothing ! $ nothing ! $ nothing ! $ group ! 4 $ done !

  refuses : (x : Called.Ghost) → ent 𝓤 (Passed.pre (handed x)) (Back x (answer_val false 0 0))
  refuses x =
      let κs = x.0.0 in let a = (handed x).0.3 in let vss = (handed x).0.4 in let tokens = alive 𝓛 (S inside) κs x.0.1 in
      let passed = sem 𝓛 (owns (types_at (method.signature inside.row).params κs) a vss) in let requires = (inner_clauses κs a).requires x.1 in
      let refused = ‵ (Answer.own_val (Err (record {})) (answer_val false 0 0 ∷ [])) in let owed = raw ((inner_clauses κs a).ensures x.1 (Err (record {}))) in
      via 𝓤 tokens (via 𝓤 (sep 𝓤 tokens passed) (fst∗ 𝓤 (sep 𝓤 tokens passed) requires) (fst∗ 𝓤 tokens passed))
      (qed 𝓛 (raw tokens ∷ []) ∵ show ! (given_back 𝓛 (method.signature inside.row) inner_clauses (handed x) (answer_val false 0 0)) (Err (record {})) $
      use0 𝓛 owed (nothing_owed (handed x)) $ use0 𝓛 refused (Answer-err 𝓛) $ move ! (2 ∷ 0 ∷ []) $ join ! $ done !)

  abbrev plainly : Called.Ghost → Called.Ghost
  plainly = spelt 𝓛 (S inside) clauses (spells inside)

  -- which answer the count gave
  abbrev Told : Val → Type 0
  Told u = (is : Bool) × (u ≡ vbool is)

  abbrev Counted : Called.Ghost → Val → SProp 𝓤
  Counted x = Had 𝓛 count.signature (count.spec 𝓛 at_mem run) (counted x)

  tells_which : (x : Called.Ghost) (u : Val) → ent 𝓤 (Counts.post (counted x) u) (H.⇛ (guard 𝓤 (Told u) (Counted x u)))
  tells_which x u = answer_shows 𝓛 count.signature (count.spec 𝓛 at_mem run) (counted x) u (Told u) (λ is told. (is, ap only (bool_Tells is (u ∷ []) told)))

  token_back : (x : Called.Ghost) (u : Val) → ent 𝓤 (Counted x u) (A.lft x.0.0.0 x.0.1.0)
  token_back x u = via 𝓤 (sep 𝓤 (A.lft x.0.0.0 x.0.1.0) (emp 𝓤)) (tokens_back 𝓛 count.signature (count.spec 𝓛 at_mem run) (counted x) u) (fst∗ 𝓤 (A.lft x.0.0.0 x.0.1.0) (emp 𝓤))

  module _ (𝓣 : Tables 𝓤 H) (met : Triple 𝓤 (𝓣.C (takes_key inside)) Passed) (counts : Triple 𝓤 (𝓣.C count_symbol.name) Counts) where
    walk : (x : Called.Ghost) → Are (types_at (S inside).params x.0.0) (Ises (types_at (S inside).params x.0.0)) x.0.3 (plainly x).0.4
        → ent 𝓤 (Called.pre (plainly x)) (WpFn 𝓤 H 𝓣.C 𝓣.Λ (body inside) (Called.args (plainly x)) (Called.post (plainly x)))
    walk x are =
        let y = plainly x in let framed = fm_of 𝓤 H 𝓛.laws 𝓣 in let Typed = λ (v : Val). T (has_ty (layout Answer) v) × WT v in let refusal = answer_val false 0 0 in let leaves = after 3 (body inside).body in
        qed 𝓛 (raw (Called.pre y) ∷ []) ∵ use1 𝓛 (raw (Counts.pre (counted y)) ⊛ raw (Waits y)) (counts_first y) $ split ! $
        enter ! _ _ _ _ _ $ alloc_all ! (λ l. pass_all ! refl ((tt, tt), ((tt, record { fits = are.1.0.1 }), ((tt, record { fits = are.1.1.0.1 }), tt))) $
        sets ! (addr ! (through ! refl (fld ! refl (stop !)))) refl (tt, tt) $
        calls_at ! framed Counts counts (counted y) (and_then ! (get ! refl) (no_more !)) (λ u.
        use1 𝓛 (later (given (Told u) (raw (Counted y u)))) (tells_which y u) $ await ! tt $ learn ! (λ told.
        use1 𝓛 (‵ (flft y.0.0.0 y.0.1.0)) (token_back y u) $ use2 𝓛 (raw (Passed.pre (handed y))) (apply∗ 𝓤 (A.lft y.0.0.0 y.0.1.0) (Passed.pre (handed y))) $
        lands_as ! told.1 refl (tt, tt) $ first ! $ branches ! (get ! refl)
        (λ _. sets ! (agg ! (no_more !)) refl (tt, tt) $ sets_last ! (agg ! (and_then ! (lit ! tt) (and_then ! (get ! refl) (no_more !)))) refl (Answer-typed false 0 0) $
        exec ! 𝓣.C 𝓣.Λ (env (body inside).locals l) leaves (at_ret _ (Called.post y)) $ sets ! (of_opd ! (get ! refl)) refl (Answer-typed false 0 0) $ returns ! (look_at ! 0 refl) $ free_all ! refl $
        use1 𝓛 (raw (Back y refusal)) (refuses y) $ by ! (passes_back y refusal))
        (λ _. sets ! (addr ! (through ! refl (fld ! refl (stop !)))) refl (tt, tt) $
        calls_at_last ! framed Passed met (handed y) (and_then ! (get ! refl) (and_then ! (get ! refl) (and_then ! (get ! refl) (no_more !)))) (λ v.
        use1 𝓛 (later (given (Typed v) (raw (Back y v)))) (is_typed y v) $ await ! tt $ learn ! (λ typed. lands_last ! refl typed $
        exec ! 𝓣.C 𝓣.Λ (env (body inside).locals l) leaves (at_ret _ (Called.post y)) $ sets ! (of_opd ! (get ! refl)) refl typed $ returns ! (look_at ! 0 refl) $ free_all ! refl $ by ! (passes_back y v)))))))

pub allocate_spec : {M : Type 1} → statement M
unfolding tables_of
allocate_spec 𝓤 𝓛 𝓜 𝓡 wired row laws g d drops met _ =
    let inside : Al = record { row = row; laws = laws; g = g; d = d; drops = drops } in
    let 𝓣 : Tables 𝓤 𝓛.H = tables_of 𝓤 𝓛.H 𝓜 (tables 𝓤 𝓛.H 𝓜 𝓡 𝓡.env) in
    let counts = cited 𝓤 𝓛.H (Counts inside 𝓛 𝓜.mem 𝓡.returns) 𝓜 𝓡 𝓡.env count_symbol.name (𝓡.env count_symbol.name) refl (count_met.met 𝓤 𝓛 𝓜 𝓡 (code.calls-refusing::is_refused 𝓡.env wired)) in
    entered 𝓤 𝓛.H (Called inside 𝓛 𝓜.mem 𝓡.returns) 𝓣.C 𝓣.Λ (key.name (kinds inside)) (body inside) (code.unfolded 𝓤 𝓛.H 𝓜 𝓡 wired (row, tt) d drops)
    (met_if_spelt 𝓛 (S inside) (clauses inside 𝓛 𝓜.mem 𝓡.returns) (WpFn 𝓤 𝓛.H 𝓣.C 𝓣.Λ (body inside)) (spells inside) (tells inside) (walk inside 𝓛 𝓜.mem 𝓡.returns 𝓣 (met.allocate drops) counts))
