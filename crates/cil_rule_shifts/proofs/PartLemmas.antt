-- Counters moved at the sources that a rule lost, at those that it kept and at those that it got.
use Rattle.cil_rule_shifts.proofs.Common.{add-zero, ◌≡◌, ℕ, ◌+◌, ◌-◌, ◌^◌, ◌&&◌, ◌||◌, Bool, true, false, min, refl, sym, ap, ◌∙◌, arith, AreTargetsOf, SymbolKey, differs, gives, gives_part, gives_to, has_head, has_source, in_part, is_among, moves_where, one_if, reaches, takes, Reach, RuleHead, Sources, Part, Permit, Targets, RisesBy, rises-more, rises-none, has_permit, is_kind, length, List, [], ◌∷◌}
use Rattle.std.proofs.Math.Bool.{and-false}
use Rattle.cil_rule_shifts.proofs.ReachLemmas.{and-no, no-first, no-second}
use Rattle.cil_rule_shifts.specs.declared.group.Group.{Group}
use Rattle.cil_rule_shifts.specs.declared.reach.Part.TheVariants.{Lost, Kept, Got}

-- ---- the parts

-- what is given to a source by one of two is given in one of the three parts
parts : (a b g : Bool) → ((a || b) ≡ false → g ≡ false) → one_if (in_part Lost a b && g) + (one_if (in_part Kept a b && g) + one_if (in_part Got a b && g)) ≡ one_if g
parts true true g none = omega arith
parts true false g none = omega arith
parts false true g none = omega arith
parts false false g none = sym (ap one_if (none refl))

parts-front : (a b g : Bool) → one_if (in_part Lost a b && g) + one_if (in_part Kept a b && g) ≡ one_if (a && g)
parts-front true true g = omega arith
parts-front true false g = omega arith
parts-front false b g = refl

parts-all : (a b g : Bool) → ((a || b) ≡ false → g ≡ false) → one_if (a && g) + one_if (in_part Got a b && g) ≡ one_if g
parts-all true true g none = omega arith
parts-all true false g none = omega arith
parts-all false true g none = omega arith
parts-all false false g none = sym (ap one_if (none refl))

-- a rule gives nothing to what is no source of it
pub gives-none : {A : Type 0} (reach : Reach A) (head : RuleHead) (k : SymbolKey) (t : ℕ) → has_source reach k.source ≡ false → gives reach head k t ≡ false
gives-none reach head k t none = ap (λ b. (b && takes reach.targets k.source t) && has_head head k) none

-- nor does it give anything by no permits
no-permits : (permits : List Permit) (c q : ℕ) → length permits ≡ 0 → has_permit permits c q ≡ false
no-permits [] c q none = refl
no-permits (permit ∷ permits) c q none = absurd (omega (arith, none))

gives-nothing : {A : Type 0} (reach : Reach A) (head : RuleHead) (k : SymbolKey) (t : ℕ) → length head.permits.now ≡ 0 → gives reach head k t ≡ false
gives-nothing reach head k t none =
    ap (λ b. reaches reach k.source t && (is_kind head.kind k.kind && b)) (no-permits head.permits.now k.class k.permission none)
    ∙ ap (λ b. reaches reach k.source t && b) (and-false (is_kind head.kind k.kind)) ∙ and-false (reaches reach k.source t)

pub none-move : {A : Type 0} (was is : Reach A) (head : RuleHead) → length head.permits.now ≡ 0 → RisesBy (moves_where was is head) 0 0
none-move was is head none =
    rises-none (moves_where was is head) 0 (λ p i. differs (gives-nothing was head p.0 p.1 none i) (gives-nothing is head p.0 p.1 none i))

-- ---- the targets of a part

-- what the sources of a group are given by their targets is what the rule gives them
pub part-gives : {A : Type 0} (head : RuleHead) (sources : Sources A) (group : Group A) → group.head ≡ head → group.sources ≡ sources → (reach : Reach A) (targets : Targets A) → AreTargetsOf sources reach targets
    → (p : SymbolKey × ℕ) → gives_to (is_among group.sources) group.head targets p ≡ gives_part sources reach head p
part-gives head sources group one those reach targets same p =
    (λ i. gives_to (is_among (those i)) (one i) targets p) ∙ ap (λ b. b && has_head head p.0) (same p.0.source p.1)
    ∙ grouped (is_among sources p.0.source) (reaches reach p.0.source p.1) (has_head head p.0)
  where
    grouped : (a b c : Bool) → ((a && b) && c) ≡ (a && (b && c))
    grouped true b c = refl
    grouped false b c = refl

-- ---- what a rule gives that wasn't there

module _ {A : Type 0} (none is : Reach A) (nowhere : (s : ℕ) → has_source none s ≡ false) (head : RuleHead) where
  pub got-gives : (k : SymbolKey) (t : ℕ) → (in_part Got (has_source none k.source) (has_source is k.source) && gives is head k t) ≡ gives is head k t
  got-gives k t =
      ap (λ b. in_part Got b (has_source is k.source) && gives is head k t) (nowhere k.source)
      ∙ by (has_source is k.source) (takes is.targets k.source t) (has_head head k)
    where
      by : (b x h : Bool) → (in_part Got false b && ((b && x) && h)) ≡ ((b && x) && h)
      by true x h = refl
      by false x h = refl

  pub got-raised : (k : SymbolKey) (t old new : ℕ)
      → new + one_if (in_part Got (has_source none k.source) (has_source is k.source) && gives none head k t) ≡ old + one_if (in_part Got (has_source none k.source) (has_source is k.source) && gives is head k t)
      → new ≡ old + one_if (gives is head k t)
  got-raised k t old new moved =
      let part = in_part Got (has_source none k.source) (has_source is k.source) in
      sym (ap (λ b. new + one_if (part && b)) (gives-none none head k t (nowhere k.source)) ∙ ap (λ n. new + n) (and-no part) ∙ add-zero new) ∙ moved ∙ ap (λ b. old + one_if b) (got-gives k t)

  pub got-moves : (p : SymbolKey × ℕ) → (in_part Got (has_source none p.0.source) (has_source is p.0.source) && moves_where none is head p) ≡ gives is head p.0 p.1
  got-moves p =
      ap (λ b. in_part Got (has_source none p.0.source) (has_source is p.0.source) && differs b (gives is head p.0 p.1)) (gives-none none head p.0 p.1 (nowhere p.0.source)) ∙ got-gives p.0 p.1

-- ---- three parts in turn

-- how many move
module _ {A : Type 0} (was is : Reach A) (head : RuleHead) where
  abbrev within : Part → SymbolKey × ℕ → Bool
  within part p = in_part part (has_source was p.0.source) (has_source is p.0.source) && moves_where was is head p

  pub parts-rise : (first second third both after : ℕ) → RisesBy (within Lost) 0 first → RisesBy (within Kept) 0 second → RisesBy (within Got) 0 third
      → both ≡ min (first + second) (2 ^ 128 - 1) → after ≡ min (both + third) (2 ^ 128 - 1) → RisesBy (moves_where was is head) 0 after
  parts-rise first second third both after one two three sum total =
      rises-more (λ p. has_source was p.0.source && moves_where was is head p) (within Got) (moves_where was is head) (λ p. parts-all (has_source was p.0.source) (has_source is p.0.source) (moves_where was is head p) (still p))
      0 both third after
      (rises-more (within Lost) (within Kept) (λ p. has_source was p.0.source && moves_where was is head p)
      (λ p. parts-front (has_source was p.0.source) (has_source is p.0.source) (moves_where was is head p)) 0 first second both one two sum) three total
    where
      still : (p : SymbolKey × ℕ) → (has_source was p.0.source || has_source is p.0.source) ≡ false → moves_where was is head p ≡ false
      still p none i = differs (gives-none was head p.0 p.1 (no-first (has_source was p.0.source) (has_source is p.0.source) none) i)
          (gives-none is head p.0 p.1 (no-second (has_source was p.0.source) (has_source is p.0.source) none) i)
