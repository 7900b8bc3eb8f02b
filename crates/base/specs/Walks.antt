-- The names of the program logic that a walk by hand uses, passed on as they are but for five, whose names two modules have: `Names` (an
-- environment of routines), `Operand` and `Code` (of the MIR), `Steps` (`types.Run.Walks`) and `someone` (an item that somebody holds).
-- `Logic` is all that the library `types` takes for granted: a heap, the ghost state's atoms and their laws, in one.
pub use seplogic.Ra.Ura.{Ura}
pub use mir.Fields.{get_v}
pub use mir.Syntax.{Body as Code, Callee, Fn, Opd as Operand, Place, Ty, Width, call, copy, field, named, place, seq, ty_bool, w64}
pub use mir.Val.{Val, of_list, vbool, vint, vptr}
pub use base.Fml.{Fml, GName, Share, fat, fauth, fdies, flent, flft, fobor, fobs, fres, froom, fsep, ftrue}
pub use base.Fraction.{full_share}
pub use base.Logic.{SProp, emp, ent, ex, fst∗, id⊢, mono_r, sep, via}
pub use prog.Memory.{field_at}
pub use prog.Model.{Model}
pub use prog.Routine.{Env as Names, Routine}
pub use prog.Wp.{Calls, Closed, Env, Heap, Loops, Spot, WpFn, spot_of}
pub use ghost.Atoms.{Atoms}
pub use contract.Lifetimes.{Lfts, Shares}
pub use contract.Monad.{fact, fact_i}
pub use contract.Running.{Running, tables}
unfoldable pub use contract.Running.{tables_of}
pub use sound.WpLaws.{FmC, WpFn-mono, fm_of}
pub use types.Kit.{ !, Go, Goal, Item, Post, Seq, Soaks, Step, ◌$◌, ◌∵◌, ◌⊛◌, allocs, at_ret, await, by, del, done, drop, feq_i, fjoin}
pub use types.Kit.{fjoin3, fpack, fpick, frees, fsplit, fsplit3, given, group, join, keep, lands, later, learn, move, nth, params', pick}
pub use types.Kit.{qed, raw, runs, some as someone, split, step, suffices, use0, use1, use2, use3, ‵, ⋆}
pub use types.Logic.{Logic, sem}
pub use types.Part.{Part, agg, look_in, sub, whole}
pub use types.Run.{Opd, Opds, Walks as Steps, addr, alloc0, alloc1, and_then, assigns, enter, fld, forget, free0, free1, from, hop, init}
pub use types.Run.{land, load, look, look_raw, no_more, of_opd, params1, pass0, pass1, returns, stop, store_raw}
pub use types.SemTy.{Body}
pub use types.Tokens.{lft_end, lft_new}
pub use Rattle.std.specs.Borrow.{u8, usize}
pub use denote.Exit.{Last, left, yes}
pub use denote.Laws.{Is, Ises, Lawful, Spells, Tells, Tellss, Typed, shows, valss}
pub use denote.Lend.{lends_ref, ref_back}
pub use denote.Memory.{cell_at, mem}
unfoldable pub use denote.Memory.{part_of}
pub use denote.Plain.{Boolean, UInt, bool_Lawful, bool_Tells, uint_Lawful, uint_Makes, uint_Tells}
pub use denote.RattleType.{Denots, RattleType, Valss, flat, mirs, owns}
pub use denote.Ref.{MutRef, Bor, MutBor, mut_Tells}
pub use denote.Signature.{Slot, named_lft, plain, types_at}
pub use denote.Slice.{ShrSlice, shr_slice_copy, shr_slice_Lawful, shr_slice_Tells, slice_val}
pub use denote.Steps.{closes, heard, nothing, only, opens, owned, peeks}
pub use denote.Struct.Declared.{Declared, fields, row, shape}
pub use denote.Struct.Rest.{own_open, own_shut}
pub use denote.Struct.Steps.{spelt}
pub use denote.Struct.Struct.{Copies, Plains, layout, to_tys, twices}
pub use denote.Triple.Call.{calls_from}
pub use denote.Triple.Clauses.{Clauses, Ended, Lasts, at_exit, closing}
pub use denote.Triple.End.{Fins, all}
pub use denote.Triple.Entry.{alive, on_entry}
pub use denote.Triple.Spec.{Meets, triple_of}
pub use denote.Triple.Statement.{Contract, Triple}
pub use denote.Triple.Table.{cited, entered}
pub use denote.Triple.Walked.{AllGo, Goes, Stay, Stays, ends_at, fits_of, Goes-dropped, Goes-ref, has_of, walk_Meets, walked}
