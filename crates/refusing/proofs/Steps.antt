-- What the proofs of the two calls cite of the logic, passed on from one place. Declares nothing.
pub use Rattle.std.proofs.Common.{◌≡◌, Bool, false, Err, [], ◌∷◌, ap, refl, T, w64}
pub use seplogic.Ra.Ura.{Ura}
pub use mir.Syntax.{Fn, named}
pub use mir.MapTy.{inst_fn}
pub use mir.Val.{Val, vbool, has_ty, WT, vunit}
pub use base.Logic.{SProp, ent, emp, sep, wand, fst∗, guard, via, apply∗, mono_l, mono_r}
pub use base.Fml.{flft}
pub use prog.Memory.{Memory}
pub use prog.Routine.{Routine}
pub use prog.Wp.{Tables, WpFn}
pub use types.Logic.{Logic, sem}
pub use types.Kit.{‵, raw, ◌⊛◌, later, given, ◌$◌, ◌∵◌, !, qed, by, move, use1, use2, split, join, await, learn, frame, assume, group, use0, show, at_ret, done, rewrite}
pub use types.Run.{stop, fld, addr, no_more, and_then, lit, of_opd, returns, enter, first, branches, exec, unit_lit}
pub use types.Part.{agg}
pub use types.ByLocal.{alloc_all, pass_all, free_all, look_at, get, through, sets, sets_last, lands_as, lands_last, env}
pub use contract.Lifetimes.{Lfts}
pub use contract.Monad.{Fun}
pub use contract.Running.{tables}
unfoldable pub use contract.Running.{tables_of}
pub use sound.WpLaws.{fm_of}
pub use denote.Builtin.{RawPtr, bool, usize}
pub use denote.Laws.{Spells, Tellss, Ises, Are}
pub use denote.Param.{layout, param}
pub use denote.Param.Laws.{Laws}
pub use denote.Plain.{bool_Tells, uint_vals, uint_Tells, Nothing-Tells}
pub use denote.RattleType.{owns}
pub use denote.Ref.{ShrRef, shr_vals, shr_Tells}
pub use denote.Signature.{Signature, types_at}
pub use denote.Steps.{only, nothing}
pub use denote.Triple.Call.{calls_at, calls_at_last}
pub use denote.Triple.Clauses.{Lasts, lasts}
pub use denote.Triple.Entry.{alive}
pub use denote.Triple.Spec.{Spec, triple_of}
pub use denote.Triple.Statement.{Contract, Triple}
pub use denote.Triple.Table.{cited, entered}
pub use Rattle.std.proofs.alloc.Calls.{Al, Answer, Answer-err, Answer-typed, Takes, answer_val, takes_key, Gives, gives_key}
pub use borrow.Table.RawPtr.{ptr_laws}
pub use Rattle.std.proofs.VecSteps.Shapes.{after}
pub use denote.RawPtr.{rawptr_vals, rawptr_Tells, rawptr_Lawful}
