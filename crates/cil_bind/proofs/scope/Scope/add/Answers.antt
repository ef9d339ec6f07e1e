use Rattle.cil_parse.specs.Parsed.{statement_count}
use Rattle.std.proofs.Common.{◌≡◌, length, rules, [], refl, sym, ◌∙◌, append-nil, arith}
use Rattle.cil_bind.proofs.DeclareLemmas.{rows-length}
use Rattle.cil_bind.proofs.PlaceLemmas.{stands-start, stands-all, kept-next}
use Rattle.cil_bind.proofs.AroundLemmas.{around-start, around-all}
use Rattle.cil_bind.proofs.FromLemmas.{from-start, from-all}
use Rattle.cil_bind.proofs.scope.Scope.add.Goals as goal

pub loop-i-init : goal.loop-i-init
loop-i-init g c = record {
  stands = λ before name statements spells long stands. stands-start _ _ _ before _ refl stands;
  from = λ parsed before name statements spells have are. from-start parsed _ before _ refl are;
  around = λ before behind name statements spells long are. around-start _ _ before _ refl are;
  kinds = λ told. told;
  kept = ([], sym (append-nil _));
}

pub loop-i-preserved : goal.loop-i-preserved
loop-i-preserved g c = record {
  stands = λ before name statements spells long stands. c.in_ok-place.ensures.stands before name statements spells long (c.loop-i.invariant.stands before name statements spells long stands);
  from = λ parsed before name statements spells have are. c.in_ok-place.ensures.from parsed before name statements spells have (c.loop-i.invariant.from parsed before name statements spells have are);
  around = λ before behind name statements spells long are. c.in_ok-place.ensures.around before behind name statements spells long (c.loop-i.invariant.around before behind name statements spells long are);
  kinds = λ told. c.in_ok-place.ensures.kinds (c.loop-i.invariant.kinds told);
  kept = kept-next _ _ _ c.loop-i.invariant.kept c.in_ok-place.ensures.kept;
}

pub returns-clause-stands : goal.returns-clause-stands
returns-clause-stands g c = λ before name statements spells stands.
    stands-all c.args.«module».now statements name _ _ _ before c.loop-i.i spells (let n : statement_count c.args.«module».now ≡ c.in_ok-count.count = search rules in omega (arith, n))
    (c.loop-i.invariant.stands before name statements spells (sym (rows-length _ _ _ before stands.rows_are) ∙ (let n : length c.args.self.now.rows.items ≡ c.in_ok-start.start = search rules in n)) stands)

pub returns-clause-from : goal.returns-clause-from
returns-clause-from g c = λ parsed before name statements spells have are.
    from-all parsed c.args.«module».now statements name _ before c.loop-i.i spells (let n : statement_count c.args.«module».now ≡ c.in_ok-count.count = search rules in omega (arith, n)) (c.loop-i.invariant.from parsed before name statements spells have are)

pub returns-clause-around : goal.returns-clause-around
returns-clause-around g c = λ before behind name statements spells long are.
    let start : length c.args.self.now.rows.items ≡ c.in_ok-start.start = search rules in
    around-all c.args.«module».now statements name _ _ before c.loop-i.i spells (let n : statement_count c.args.«module».now ≡ c.in_ok-count.count = search rules in omega (arith, n)) (c.loop-i.invariant.around before behind name statements spells (long ∙ start) are)

pub returns-clause-kinds : goal.returns-clause-kinds
returns-clause-kinds g c = c.loop-i.invariant.kinds
