-- Counters moved by the permits that a rule lost, by those that it kept and by those that it got.
use Rattle.cil_rule_shifts.proofs.Common.{◌≡◌, ℕ, ◌+◌, ◌-◌, ◌^◌, ◌≤◌, ◌&&◌, Bool, true, false, List, min, refl, sym, ap, ◌∙◌, arith, zero-add, is_kind, SymbolKey, differs, has_permit, has_source, one_if, reaches, takes, Permit, Reach, RisesBy, rises-more}
use Rattle.cil_text.specs.declared.statement.RuleKind.{RuleKind}

-- In what follows a and b say whether a rule reached and reaches, q whether it is of the kind, and h and n whether it permitted and permits.

-- an access given by a permit that was had: it was lost or kept
had-parts : (a q h n : Bool) → one_if (a && (q && (h && differs n true))) + one_if (a && (q && (h && differs n false))) ≡ one_if (a && (q && h))
had-parts false q h n = refl
had-parts true false h n = refl
had-parts true true false n = refl
had-parts true true true true = refl
had-parts true true true false = refl

-- and by one that it has: it was kept or got
has-parts : (b q h n : Bool) → one_if (b && (q && (h && differs n false))) + one_if (b && (q && (n && differs h true))) ≡ one_if (b && (q && n))
has-parts b q h n = let parts = had-parts b q n h in omega (arith, parts, ap (λ x. one_if (b && (q && x))) (either-way h n))
  where
    either-way : (h n : Bool) → (h && differs n false) ≡ (n && differs h false)
    either-way true true = refl
    either-way true false = refl
    either-way false true = refl
    either-way false false = refl

-- where it moves, in three steps
lost-moves : (a b q h n : Bool) → one_if (differs (a && (q && (h && differs n true))) false) + one_if (differs (a && (q && (h && differs n false))) (b && (q && (h && differs n false))))
    ≡ one_if (differs (a && (q && h)) (b && (q && (h && differs n false))))
lost-moves false b q h n = zero-add (one_if (b && (q && (h && differs n false))))
lost-moves true b false h n = zero-add (one_if (b && false))
lost-moves true true true false n = refl
lost-moves true false true false n = refl
lost-moves true true true true true = refl
lost-moves true true true true false = refl
lost-moves true false true true true = refl
lost-moves true false true true false = refl

got-moves : (a b q h n : Bool) → one_if (differs (a && (q && h)) (b && (q && (h && differs n false)))) + one_if (differs false (b && (q && (n && differs h true)))) ≡ one_if (differs (a && (q && h)) (b && (q && n)))
got-moves true true true true true = refl
got-moves true true true true false = refl
got-moves true true true false true = refl
got-moves true true true false false = refl
got-moves true true false h n = refl
got-moves true false true true n = refl
got-moves true false true false n = refl
got-moves true false false h n = refl
got-moves false true true true true = refl
got-moves false true true true false = refl
got-moves false true true false true = refl
got-moves false true true false false = refl
got-moves false true false h n = refl
got-moves false false q h n = refl

-- whether a rule of a kind gives an access by permits
abbrev pub gives_by : {A : Type 0} → RuleKind → Reach A → List Permit → SymbolKey → ℕ → Bool
gives_by kind reach permits k t = reaches reach k.source t && (is_kind kind k.kind && has_permit permits k.class k.permission)

-- whether exactly one of two does
abbrev pub moves_by : {A : Type 0} → RuleKind → Reach A → List Permit → Reach A → List Permit → SymbolKey × ℕ → Bool
moves_by kind was had is has p = differs (gives_by kind was had p.0 p.1) (gives_by kind is has p.0 p.1)

module _ {A : Type 0} (kind : RuleKind) (was is none : Reach A) (had has gone kept come : List Permit) (empty : (s : ℕ) → has_source none s ≡ false)
    (lost : (c p : ℕ) → has_permit gone c p ≡ (has_permit had c p && differs (has_permit has c p) true)) (stayed : (c p : ℕ) → has_permit kept c p ≡ (has_permit had c p && differs (has_permit has c p) false))
    (got : (c p : ℕ) → has_permit come c p ≡ (has_permit has c p && differs (has_permit had c p) true)) where
  -- nothing is given by what has no source
  none-gives : (permits : List Permit) (k : SymbolKey) (t : ℕ) → gives_by kind none permits k t ≡ false
  none-gives permits k t = ap (λ b. (b && takes none.targets k.source t) && (is_kind kind k.kind && has_permit permits k.class k.permission)) (empty k.source)

  module _ (k : SymbolKey) (t : ℕ) where
    abbrev h : Bool
    h = has_permit had k.class k.permission

    abbrev n : Bool
    n = has_permit has k.class k.permission

    abbrev a : Bool
    a = reaches was k.source t

    abbrev b : Bool
    b = reaches is k.source t

    abbrev q : Bool
    q = is_kind kind k.kind

    gone-was : gives_by kind was gone k t ≡ (a && (q && (h && differs n true)))
    gone-was = ap (λ x. a && (q && x)) (lost k.class k.permission)

    kept-was : gives_by kind was kept k t ≡ (a && (q && (h && differs n false)))
    kept-was = ap (λ x. a && (q && x)) (stayed k.class k.permission)

    kept-is : gives_by kind is kept k t ≡ (b && (q && (h && differs n false)))
    kept-is = ap (λ x. b && (q && x)) (stayed k.class k.permission)

    come-is : gives_by kind is come k t ≡ (b && (q && (n && differs h true)))
    come-is = ap (λ x. b && (q && x)) (got k.class k.permission)

    had-all : one_if (gives_by kind was gone k t) + one_if (gives_by kind was kept k t) ≡ one_if (gives_by kind was had k t)
    had-all = (λ i. one_if (gone-was i) + one_if (kept-was i)) ∙ had-parts a q h n

    has-all : one_if (gives_by kind is kept k t) + one_if (gives_by kind is come k t) ≡ one_if (gives_by kind is has k t)
    has-all = (λ i. one_if (kept-is i) + one_if (come-is i)) ∙ has-parts b q h n

    -- what was lost and what was kept has counters
    pub lost-counted : (before : ℕ) → one_if (gives_by kind was had k t) ≤ before → one_if (gives_by kind was gone k t) ≤ before
    lost-counted before counted = omega (arith, counted, had-all)

    pub kept-counted : (before first : ℕ) → one_if (gives_by kind was had k t) ≤ before → first + one_if (gives_by kind was gone k t) ≡ before + one_if (gives_by kind none gone k t) → one_if (gives_by kind was kept k t) ≤ first
    kept-counted before first counted one = omega (arith, counted, one, had-all, ap one_if (none-gives gone k t))

    pub come-counted : (second : ℕ) → one_if (gives_by kind none come k t) ≤ second
    come-counted second = omega (arith, ap one_if (none-gives come k t))

    -- the counters after a step, or within it, are no further above those before
    pub lost-bounded : (before first : ℕ) → first ≤ before + one_if (gives_by kind none gone k t) → first ≤ before + one_if (gives_by kind is has k t)
    lost-bounded before first one = omega (arith, one, ap one_if (none-gives gone k t))

    pub kept-bounded : (before first second : ℕ) → first + one_if (gives_by kind was gone k t) ≡ before + one_if (gives_by kind none gone k t) → second ≤ first + one_if (gives_by kind is kept k t) → second ≤ before + one_if (gives_by kind is has k t)
    kept-bounded before first second one two = omega (arith, one, two, has-all, ap one_if (none-gives gone k t))

    pub come-bounded : (before first second after : ℕ) → first + one_if (gives_by kind was gone k t) ≡ before + one_if (gives_by kind none gone k t)
        → second + one_if (gives_by kind was kept k t) ≡ first + one_if (gives_by kind is kept k t) → after ≤ second + one_if (gives_by kind is come k t) → after ≤ before + one_if (gives_by kind is has k t)
    come-bounded before first second after one two three = omega (arith, one, two, three, has-all, ap one_if (none-gives gone k t))

    -- the counters after the three steps
    pub others-moved : (before first second after : ℕ) → first + one_if (gives_by kind was gone k t) ≡ before + one_if (gives_by kind none gone k t)
        → second + one_if (gives_by kind was kept k t) ≡ first + one_if (gives_by kind is kept k t) → after + one_if (gives_by kind none come k t) ≡ second + one_if (gives_by kind is come k t)
        → after + one_if (gives_by kind was had k t) ≡ before + one_if (gives_by kind is has k t)
    others-moved before first second after one two three =
        omega (arith, one, two, three, had-all, has-all, ap one_if (none-gives gone k t), ap one_if (none-gives come k t))

  -- how many moved
  pub others-rise : (first second third both after : ℕ) → RisesBy (moves_by kind was gone none gone) 0 first → RisesBy (moves_by kind was kept is kept) 0 second → RisesBy (moves_by kind none come is come) 0 third
      → both ≡ min (first + second) (2 ^ 128 - 1) → after ≡ min (both + third) (2 ^ 128 - 1) → RisesBy (moves_by kind was had is has) 0 after
  others-rise first second third both after one two three sum total =
      rises-more (moves_by kind was had is kept) (moves_by kind none come is come) (moves_by kind was had is has)
      (λ p. (λ i. one_if (differs (gives_by kind was had p.0 p.1) (kept-is p.0 p.1 i)) + one_if (differs (none-gives come p.0 p.1 i) (come-is p.0 p.1 i))) ∙ got-moves (a p.0 p.1) (b p.0 p.1) (q p.0 p.1) (h p.0 p.1) (n p.0 p.1))
      0 both third after
      (rises-more (moves_by kind was gone none gone) (moves_by kind was kept is kept) (moves_by kind was had is kept)
      (λ p. (λ i. one_if (differs (gone-was p.0 p.1 i) (none-gives gone p.0 p.1 i)) + one_if (differs (kept-was p.0 p.1 i) (kept-is p.0 p.1 i))) ∙ lost-moves (a p.0 p.1) (b p.0 p.1) (q p.0 p.1) (h p.0 p.1) (n p.0 p.1)
      ∙ sym (ap (λ x. one_if (differs (gives_by kind was had p.0 p.1) x)) (kept-is p.0 p.1)))
      0 first second both one two sum) three total
