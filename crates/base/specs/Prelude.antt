-- The names of the libraries that proofs use everywhere, passed on as they are. (The definitions of the model name the libraries
-- themselves.)
pub use Rattle.std.specs.Prelude.{max, min, pred, suc, zero, ℕ, refl, List, [], map}
pub use Rattle.std.specs.Prelude.{Bool, cond, false, not, true, drop, get_or, length, replicate, set, take, eqb, leb, ltb}
pub use Rattle.std.proofs.Common.{◌∙◌, ap, ap₂, subst, sym, append_assoc, append-nil, true≢false, inl, inr, ⊎_elim, arith, add_assoc}
pub use Rattle.std.proofs.Common.{add-suc, add-zero, div-add-mod', div-lt_iff_lt-mul, eq-or-lt_of_le, le_of_lt, le_of_suc-le-suc, le_refl}
pub use Rattle.std.proofs.Common.{le_trans, lt_of_not-le, mod-eq_of_lt, mod-lt, mul-le-mul, not-suc-le-zero, pow-suc, suc-add, zero-add}
pub use Rattle.std.proofs.Common.{add-one, drop_of_length-le, length-append, length-set, length-take, drop-cons, drop-drop, drop-set-lt}
pub use Rattle.std.proofs.Common.{get_or-append-add, get_or-set_other, get_or-set_same, length-take-le, take_all, take-suc, take-suc-set}
pub use Rattle.std.proofs.Common.{eq-eqb, eqb-true, le-leb, le-ltb, leb-false, leb-true, lt-ltb, ltb-false, ltb-true, ne_eqb, rules}
pub use Rattle.std.proofs.Math.Path.{subst₃}
pub use Rattle.std.proofs.Math.Bool.{and_assoc, and-false, and-true, or_assoc, or-false, or-true}
pub use Rattle.std.proofs.Math.Logic.{by_cases}
pub use Rattle.std.proofs.Math.Decide.{dec_le, dec_lt, ℕ_discrete}
pub use Rattle.std.proofs.Math.Nat.{div-add-mod, div-div-eq-div-mul, sub-zero, suc-sub-suc, zero-sub}
pub use Rattle.std.proofs.Math.Numerals.{add-three, add-two, unary_clauses}
pub use Rattle.std.proofs.Math.ListN.{get_or-append, get_or-eq_default}
pub use Rattle.std.proofs.lemmas.List.{length-map, length-replicate, set_at}
pub use Rattle.std.proofs.Math.Seq.{append_snoc, get_or-append_seam, set_out, take-append_seam}
pub use Rattle.std.proofs.lemmas.List.Edits.{sets, sets-eq}
pub use Rattle.std.proofs.lemmas.Bool.{eqb-false, lt-leb, not-false, not-true}
