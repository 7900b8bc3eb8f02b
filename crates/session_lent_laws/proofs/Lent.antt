-- A plain struct S that is lent as `&mut`: the steps of a walk by hand (`base_walk`) that looks behind the reference, and of one that lends
-- a local.
--     reference        the type of the parameter, `&mut S`
--     reads            a field of such a struct in a local
--     opened, closed   what the reference refers to is had, with its machine value written out, and the reference is had again, at another
--                      value
--     lent_out         a local that holds a value of S is lent.        taken_back      it is room again, once the reference's last value is
--                      known
-- Assumes `Logic`.
use Rattle.std.specs.Prelude.{◌≡◌, ◌+◌, ◌∷◌}
use denote.Ref.{MutBor}
use mathlib.Core.Option.{some, get_or}
use Rattle.base.specs.Prelude.{refl, sym, subst, ℕ, zero, [], List}
use Rattle.base.specs.Walks.{Ura, Logic, full_share, named, Val, vptr, GName, Share, flft, fobs, fauth, fobor, fat, froom, flent, fres}
use Rattle.base.specs.Walks.{fsep}
use Rattle.base.specs.Walks.{Lfts}
use Rattle.base.specs.Walks.{Goal, Soaks, Item, Seq, Step, step, ‵, ◌⊛◌, someone, later, ◌$◌, move, drop, use1, use3, split, pick}
use Rattle.base.specs.Walks.{fsplit, fsplit3, fjoin}
use Rattle.base.specs.Walks.{fjoin3, fpick, fpack, feq_i, await, forget, Body, lft_new, lft_end, Is, shows, lends_ref, ref_back, mem}
use Rattle.base.specs.Walks.{cell_at}
use Rattle.base.specs.Walks.{part_of, MutRef}
use Rattle.base.specs.Walks.{mut_Tells, plain, opens, closes, owned, peeks, spelt, Plains, layout, Declared, fields, shape, row}
use Rattle.base.specs.Walks.{Goes-ref}
use Rattle.base.specs.Walks.{Env, Spot, spot_of, Steps, Part, whole, sub, look_in, stop, fld, from, load, Opd, nth, copy, place, field}
use Rattle.base.specs.Walks.{field_at, to_tys, mirs, Ty, ty_bool}
use Rattle.base.specs.Walks.{get_v, of_list, flat, valss}
use base.Stored.{Gv}
use denote.Ref.{mut_Lawful, at_last}
use denote.Struct.Laws as LL
use Rattle.base_walk.proofs.Promise.{Row}

module _ (S : Declared) (laws : LL.Laws S) where
  abbrev pub reference : Row 1
  reference = record {
    row = λ κs. MutRef (named 0) κs.0 (row S);
    val = λ κs x. vptr x.ref_ptr.0 x.ref_ptr.1;
    tells = λ κs. mut_Tells (named 0) κs.0 (row S);
    lawful = λ 𝓛 κs. mut_Lawful 𝓛 (named 0) κs.0 (row S);
    has = λ κs x w. (MutRef (named 0) κs.0 (row S)).own_val (at_last x w);
    goes = λ 𝓛. Goes-ref 𝓛 1 0 tt (plain (λ κs. row S));
  }

  abbrev vals : S.D → List Val
  vals = LL.vals S laws

  -- field k's type and place
  abbrev field_place : ℕ → Ty × ℕ
  field_place k = get_or (field_at zero (to_tys (mirs (fields S))) k) (ty_bool, zero)

  -- of the struct x in local i, whose cell stands at n
  pub reads : {M : Type 1} {𝓤 : Ura M} {𝓛 : Logic 𝓤} {K : Type 0} {Γ : List (Item 𝓤)} {E : Env 𝓤 𝓛.H} → K →
      (x : S.D) (i n k : ℕ) {b : ℕ} → spot_of 𝓤 𝓛.H E i ≡ (layout (shape S), b, zero)
      → nth 𝓛 n Γ ≡ ‵ (fat full_share (layout (shape S)) b zero (LL.val S laws x)) →
      field_at zero (to_tys (mirs (fields S))) k ≡ some (field_place k)
      → Opd K 𝓛 Γ E (copy (place i (field k ∷ []))) (get_v (of_list
      (flat (fields S) (valss (fields S) (LL.spells S.parts laws) (S.to x)))) k)
  reads {𝓤 = 𝓤} {𝓛} {K = K} {Γ} {E} t x i n k {b} spot is placed =
      load t (from t (subst (λ (z : Spot 𝓤 𝓛.H). Steps K 𝓛 Γ E z (field k ∷ []) ((field_place k).0, b, zero + (field_place k).1)) (sym spot)
      (fld t placed (stop t))))
      (look_in t n (sub t k placed (subst (λ (j : Item 𝓤). Part K 𝓛 j full_share (layout (shape S)) b zero (LL.val S laws x)
      (λ u. ‵ (fat full_share (layout (shape S)) b zero u))) (sym is) (whole t))))

  module _ {M : Type 1} {𝓤 : Ura M} {𝓛 : Logic 𝓤} {K : Type 0} {Γ : List (Item 𝓤)} {G : Goal 𝓤 𝓛.H} where
    pub opened : K → Soaks G → (κs : Lfts 1) {q : Share} (x : MutBor S.D)
        → (Is (row S) x.now (vals x.now) → Seq K 𝓛 (‵ ((row S).own_val x.now (vals x.now))
        ∷ ‵ (cell_at full_share (row S).mir (vals x.now) x.ref_ptr.0 x.ref_ptr.1)
        ∷ ‵ (fobor κs.0 q (Body (mem (row S)) x.ref_ptr.0 x.ref_ptr.1 x.ghost_name))
        ∷ ‵ (fobs x.ghost_name ((row S).coded.code x.now)) ∷ ‵ (fauth x.ghost_name ((row S).coded.code x.now)) ∷ Γ) G)
        → Seq K 𝓛 (‵ ((reference.row κs).own_val x (reference.val κs x ∷ [])) ∷ ‵ (flft κs.0 q) ∷ Γ) G
    opened t z κs x k = fsplit3 t $ drop t $ opens t z (row S) {h = x.now} x.ref_ptr.0 x.ref_ptr.1 (λ vs.
        spelt t (row S) (Is (row S)) (shows 𝓛 (row S)) vals (LL.tells S laws) full_share x.now vs x.ref_ptr.0 x.ref_ptr.1 $ move t
        (1 ∷ []) $ peeks t (row S) (Is (row S)) (shows 𝓛 (row S)) x.now (vals x.now) k)

    pub closed : K → Soaks G → (κs : Lfts 1) {q : Share} {u v : Gv} (x : MutBor S.D) (d : S.D) → Plains (fields S) → Is (row S) d (vals d)
        → Step K 𝓛 (‵ ((reference.row κs).own_val (at_last x d) (reference.val κs x ∷ [])) ∷ ‵ (flft κs.0 q) ∷ Γ) G
        (‵ (cell_at full_share (row S).mir (vals d) x.ref_ptr.0 x.ref_ptr.1)
        ∷ ‵ (fobor κs.0 q (Body (mem (row S)) x.ref_ptr.0 x.ref_ptr.1 x.ghost_name)) ∷ ‵ (fobs x.ghost_name u)
        ∷ ‵ (fauth x.ghost_name v) ∷ Γ) G
    closed t z κs x d pure is = step (λ s. owned t (row S) (Is (row S)) (LL.makes S pure 𝓛) d (vals d) is $ move t
        (1 ∷ 0 ∷ []) $ closes t z (row S) d (vals d) x.ref_ptr.0 x.ref_ptr.1 $
        feq_i t (List Val) (reference.val κs x ∷ []) (reference.val κs x ∷ []) refl $ fjoin3 t $ s)

    pub lent_out : K → Soaks G → (c : S.D) (b : ℕ)
        → ((α : ℕ) (γ : GName) → Seq K 𝓛 (‵ ((reference.row (α ∷ [], tt)).own_val (record { ref_ptr = (b, zero); ghost_name = γ; now = c })
        (vptr b zero ∷ [])) ∷ ‵ (flent (α ∷ []) (Body (mem (row S)) b zero γ)) ∷ ‵ (flft (α ∷ []) full_share) ∷ Γ) G)
        → Seq K 𝓛 (‵ (fat full_share (layout (shape S)) b zero (LL.val S laws c)) ∷ ‵ ((row S).own_val c (vals c)) ∷ Γ) G
    unfolding part_of
    lent_out t z c b k =
        use1 𝓛 (‵ (cell_at full_share (row S).mir (vals c) b zero)) (𝓛.laws.at_raw full_share _ b zero _) $ fjoin t $ fpack t (List Val)
        (λ vs. fsep (cell_at full_share (row S).mir vs b zero) ((row S).own_val c vs)) (vals c) $ lft_new t z (λ α. move t (1 ∷ []) $
        use1 𝓛 (later (someone (λ (γ : GName). ‵ ((reference.row (α ∷ [], tt)).own_val (record { ref_ptr = (b, zero); ghost_name = γ; now = c })
        (vptr b zero ∷ [])) ⊛ ‵ (flent (α ∷ []) (Body (mem (row S)) b zero γ)))))
        (lends_ref 𝓛 (row S) (named 0) (α ∷ []) c b zero) $
        await t z $ pick t (λ γ. split t $ k α γ))

    pub taken_back : K → Soaks G → {α : ℕ} {γ : GName} (w : S.D) (b : ℕ)
        → Step K 𝓛 (‵ (froom (layout (shape S)) b zero) ∷ Γ) G
        (‵ (flft (α ∷ []) full_share) ∷ ‵ (flent (α ∷ []) (Body (mem (row S)) b zero γ)) ∷ ‵ (fres γ ((row S).coded.code w)) ∷ Γ) G
    unfolding part_of
    taken_back t z {α} {γ} w b = step (λ s. lft_end t z $ use3 𝓛 (later (‵ ((mem (row S)).own_at w b zero)))
        (ref_back 𝓛 (row S) (α ∷ []) γ w b zero) $ await t z $ fpick t (λ vs. fsplit t $
        spelt t (row S) (Is (row S)) (shows 𝓛 (row S)) vals (LL.tells S laws) full_share w vs b zero $ move t (1 ∷ []) $ drop t $
        use1 𝓛 (‵ (fat full_share (layout (shape S)) b zero (LL.val S laws w)))
        (𝓛.laws.raw_at full_share _ b zero _) $ forget t 0 refl $ s))
