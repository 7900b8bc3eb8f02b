-- A function that is lent the counts and calls the one that takes them:
--     let answer = CALLEE(s, p, *counts);          or, with the hint: CALLEE(s, p, hint, *counts)
--     *counts = answer.counts;
--     CHANGED { code: answer.code, s: answer.s }
-- Its code, what the two of them promise, and the walk of the one over the other, for whatever s is: a session or a house.
--     Lending          what s is, and the two answers, with the counts and without
--     takes_two, lent_two, walk_two            without the hint: two parameters before the counts
--     takes_three, lent_three, walk_three      with it
-- Assumes `Logic`.
use Rattle.std.specs.Prelude.{◌≡◌, ◌∷◌}
use mir.Syntax.{Sym, tnil, ty_int, ty_ref, mut, ty_named, local, value_local, deref, assign, rv_opd, aggregate, return, w32}
use mir.Val.{vstruct}
use Rattle.base.specs.Prelude.{refl, sym, subst, ap₂, ℕ, zero, Bool, [], map}
use Rattle.base.specs.Walks.{Ura, Logic, id⊢, flft, ftrue, ‵, raw, ◌⊛◌, ◌$◌, !, by, move, keep, use1, w64}
use Rattle.base.specs.Walks.{use2, split, fsplit, fjoin, ent, SProp, Val, vint, of_list, Typed, Last, left, yes, Denots, Plains}
use Rattle.base.specs.Walks.{layout, Declared}
use Rattle.base.specs.Walks.{fields, shape, row, Fn, Callee, Ty, named, ty_bool, place, copy, seq, call, field as part}
use Rattle.base.specs.Walks.{agg, look, look_raw, init, store_raw, stop, hop, from, load, of_opd, and_then, no_more, assigns, land}
use Rattle.base.specs.Walks.{returns, alloc1, alloc0, params1, pass1, pass0, free0, Is, owned, nothing}
use denote.Exit.{Exit}
use denote.Struct.Declared.{field}
use denote.Struct.Cover.{Cover}
use denote.Struct.Field.{rows, u32-field}
use denote.Struct.Laws as LL
use denote.Struct.Values.{Values}
use Rattle.base_walk.proofs.Promise.{Args, own_all, token, on_entry_of, Row, uint, truth, struct, Promise}
use Rattle.base_walk.proofs.Walk.{Walk, gone, asks}
use Rattle.model.specs.declared.Counts.{Counts}
use Rattle.model.specs.contracts.Counts as Ct
use Rattle.model.proofs.Counts.TheLaws as Ct'
use Rattle.session_lent_laws.proofs.Lent.{reads, opened, closed, reference}

-- Nothing is said at exit of a struct that is Copy.
pub silent : (D : Declared) → LL.Copyables D.parts → (x : D.D) (w : Last ((row D).exit yes) x) → left ((row D).exit yes) x w ≡ ftrue
silent D copies x = subst (λ (E : Exit D.D). (w : Last E x) → left E x w ≡ ftrue) (sym (LL.still D copies yes)) (λ w. refl)

-- What is operated on, S; the answer with the counts, T, which has a number, what is left of S, and the counts; and without them, R.
-- T and R are just these parts of theirs (T-cover, R-cover), as is asked of every declared type.
pub record Lending : Type 2 where
  pub S : Declared
  pub laws : LL.Laws S
  pub low : LL.Lowered S
  pub plain : Plains (fields S)
  pub copies : LL.Copyables S.parts
  pub last : (x : S.D) → Last ((row S).exit yes) x
  pub T-name : Sym
  pub T-D : Type 0
  pub code : T-D → ℕ
  pub subject : T-D → S.D
  pub counts : T-D → Counts
  pub T-one : (x y : T-D) →
      ◌≡◌ {A = Denots (rows (u32-field ∷ field S ∷ Ct.the_field ∷ []))} (code x, (S.to (subject x), ((Ct.the_type).to (counts x), tt)))
      (code y, (S.to (subject y), ((Ct.the_type).to (counts y), tt))) → x ≡ y
  pub T-cover : Cover T-D (Values (u32-field ∷ field S ∷ Ct.the_field ∷ [])) (λ x. (code x, (subject x, (counts x, tt))))
  pub T-propositions : (v : Values (u32-field ∷ field S ∷ Ct.the_field ∷ [])) → IsProp (T-cover.Ghost v)
  pub R-name : Sym
  pub R-D : Type 0
  pub R-code : R-D → ℕ
  pub R-subject : R-D → S.D
  pub R-one : (x y : R-D) →
      ◌≡◌ {A = Denots (rows (u32-field ∷ field S ∷ []))} (R-code x, (S.to (R-subject x), tt)) (R-code y, (S.to (R-subject y), tt)) → x ≡ y
  pub R-cover : Cover R-D (Values (u32-field ∷ field S ∷ [])) (λ x. (R-code x, (R-subject x, tt)))
  pub R-propositions : (v : Values (u32-field ∷ field S ∷ [])) → IsProp (R-cover.Ghost v)
  pub rest : T-D → R-D
  pub same_code : (x : T-D) → R-code (rest x) ≡ code x
  pub same_subject : (x : T-D) → R-subject (rest x) ≡ subject x

module _ (L : Lending) where
  abbrev pub stepped : Declared
  stepped = record {
    name = L.T-name;
    args = [];
    types = [];
    parts = u32-field ∷ field L.S ∷ Ct.the_field ∷ [];
    D = L.T-D;
    to = λ x. (L.code x, (L.S.to (L.subject x), ((Ct.the_type).to (L.counts x), tt)));
    to_one = L.T-one;
    as_values = λ x. (L.code x, (L.subject x, (L.counts x, tt)));
    to_is = λ x. refl;
    cover = L.T-cover;
    propositions = L.T-propositions;
  }

  abbrev pub stepped_laws : LL.Laws stepped
  stepped_laws = (LL.u32-laws, (LL.field_laws L.S L.laws L.low, (Ct'.the_field_laws, tt)))

  abbrev pub changed : Declared
  changed = record {
    name = L.R-name;
    args = [];
    types = [];
    parts = u32-field ∷ field L.S ∷ [];
    D = L.R-D;
    to = λ x. (L.R-code x, (L.S.to (L.R-subject x), tt));
    to_one = L.R-one;
    as_values = λ x. (L.R-code x, (L.R-subject x, tt));
    to_is = λ x. refl;
    cover = L.R-cover;
    propositions = L.R-propositions;
  }

  abbrev pub changed_laws : LL.Laws changed
  changed_laws = (LL.u32-laws, (LL.field_laws L.S L.laws L.low, tt))

  -- The code. A local for the result, for each parameter, for the answer, for the counts that the callee is given, and for the two parts of
  -- the answer that are copied out of it: the counts, and what is left of S.
  abbrev counts_ty : Ty
  counts_ty = layout (shape Ct.the_type)

  abbrev lent_ty : Ty
  lent_ty = ty_ref (named 0) mut (ty_named ((Ct.the_type).name, []) tnil)

  abbrev two_code : Callee → Fn
  two_code callee = record {
    lifetimes = 1;
    outlives = [];
    ty_params = [];
    givens = zero;
    params = 3;
    locals = map (λ τ. local τ value_local)
        (layout (shape changed) ∷ layout (shape L.S) ∷ ty_int w64 ∷ lent_ty ∷ layout (shape stepped) ∷ counts_ty ∷ counts_ty
        ∷ layout (shape L.S) ∷ []);
    body = seq (assign (place 5 []) (rv_opd (copy (place 3 (deref counts_ty ∷ [])))))
        (seq (call callee (copy (place 1 []) ∷ copy (place 2 []) ∷ copy (place 5 []) ∷ []) (place 4 []))
        (seq (assign (place 6 []) (rv_opd (copy (place 4 (part 2 ∷ [])))))
        (seq (assign (place 3 (deref counts_ty ∷ [])) (rv_opd (copy (place 6 []))))
        (seq (assign (place 7 []) (rv_opd (copy (place 4 (part 1 ∷ [])))))
        (seq (assign (place 0 []) (aggregate (copy (place 4 (part 0 ∷ [])) ∷ copy (place 7 []) ∷ []))) return)))));
  }

  abbrev three_code : Callee → Fn
  three_code callee = record {
    lifetimes = 1;
    outlives = [];
    ty_params = [];
    givens = zero;
    params = 4;
    locals = map (λ τ. local τ value_local)
        (layout (shape changed) ∷ layout (shape L.S) ∷ ty_int w64 ∷ ty_bool ∷ lent_ty ∷ layout (shape stepped) ∷ counts_ty ∷ counts_ty
        ∷ layout (shape L.S) ∷ []);
    body = seq (assign (place 6 []) (rv_opd (copy (place 4 (deref counts_ty ∷ [])))))
        (seq (call callee (copy (place 1 []) ∷ copy (place 2 []) ∷ copy (place 3 []) ∷ copy (place 6 []) ∷ []) (place 5 []))
        (seq (assign (place 7 []) (rv_opd (copy (place 5 (part 2 ∷ [])))))
        (seq (assign (place 4 (deref counts_ty ∷ [])) (rv_opd (copy (place 7 []))))
        (seq (assign (place 8 []) (rv_opd (copy (place 5 (part 1 ∷ [])))))
        (seq (assign (place 0 []) (aggregate (copy (place 5 (part 0 ∷ [])) ∷ copy (place 8 []) ∷ []))) return)))));
  }

  abbrev changed_plain : Plains (fields changed)
  changed_plain = (LL.u32-plain, (LL.field_plain L.S L.plain, tt))

  -- What each takes and gives.
  module _ {n : ℕ} where
    abbrev pub subject_row : Row n
    subject_row = struct (λ κs. L.S) (λ κs. L.laws) (λ κs. silent L.S L.copies)

    abbrev pub counts_row : Row n
    counts_row = struct (λ κs. Ct.the_type) (λ κs. Ct'.the_laws) (λ κs x w. refl)

    abbrev pub stepped_row : Row n
    stepped_row = struct (λ κs. stepped) (λ κs. stepped_laws)
        (λ κs. silent stepped (LL.u32-copy, (LL.field_copy L.S L.copies, (Ct'.the_field_copy, tt))))

    abbrev pub changed_row : Row n
    changed_row = struct (λ κs. changed) (λ κs. changed_laws) (λ κs. silent changed (LL.u32-copy, (LL.field_copy L.S L.copies, tt)))

  abbrev pub takes_two : (L.S.D → ℕ → Counts → L.T-D) → Promise 0
  takes_two answer = record {
    takes = subject_row ∷ uint w64 ∷ counts_row ∷ [];
    gives = stepped_row;
    answer = λ κs a. answer a.0 a.1.0 a.1.1.0;
    ends = λ κs a. (L.last a.0, (tt, (tt, tt)));
  }

  abbrev pub lent_two : (L.S.D → ℕ → Counts → L.T-D) → Promise 1
  lent_two answer = record {
    takes = subject_row ∷ uint w64 ∷ reference Ct.the_type Ct'.the_laws ∷ [];
    gives = changed_row;
    answer = λ κs a. L.rest (answer a.0 a.1.0 a.1.1.0.now);
    ends = λ κs a. (L.last a.0, (tt, (L.counts (answer a.0 a.1.0 a.1.1.0.now), tt)));
  }

  abbrev pub takes_three : (L.S.D → ℕ → Bool → Counts → L.T-D) → Promise 0
  takes_three answer = record {
    takes = subject_row ∷ uint w64 ∷ truth ∷ counts_row ∷ [];
    gives = stepped_row;
    answer = λ κs a. answer a.0 a.1.0 a.1.1.0 a.1.1.1.0;
    ends = λ κs a. (L.last a.0, (tt, (tt, (tt, tt))));
  }

  abbrev pub lent_three : (L.S.D → ℕ → Bool → Counts → L.T-D) → Promise 1
  lent_three answer = record {
    takes = subject_row ∷ uint w64 ∷ truth ∷ reference Ct.the_type Ct'.the_laws ∷ [];
    gives = changed_row;
    answer = λ κs a. L.rest (answer a.0 a.1.0 a.1.1.0 a.1.1.1.0.now);
    ends = λ κs a. (L.last a.0, (tt, (tt, (L.counts (answer a.0 a.1.0 a.1.1.0 a.1.1.1.0.now), tt))));
  }

  -- What is known of an answer is known of its counts, of what is left of S, and of the rest of it.
  pub counts_of : (x : L.T-D) → Is (row stepped) x (LL.vals stepped stepped_laws x) →
      Is Ct.the_row (L.counts x) (LL.vals Ct.the_type Ct'.the_laws (L.counts x))
  counts_of x is = (LL.owed stepped stepped_laws x _ is).1.1.0

  pub subject_of : (x : L.T-D) → Is (row stepped) x (LL.vals stepped stepped_laws x) →
      Is (row L.S) (L.subject x) (LL.vals L.S L.laws (L.subject x))
  subject_of x is = (LL.owed stepped stepped_laws x _ is).1.0

  pub rest_of : (x : L.T-D) → Is (row stepped) x (LL.vals stepped stepped_laws x) →
      Is (row changed) (L.rest x) (LL.vals changed changed_laws (L.rest x))
  rest_of x is =
      let known = LL.owed stepped stepped_laws x _ is in
      LL.owes changed changed_laws (L.rest x) (
        subst (λ (c : ℕ). Is u32-field.row c (vint w32 c ∷ [])) (sym (L.same_code x)) known.0,
        (
          subst (λ (d : L.S.D). Is (field L.S).row (L.S.to d) (LL.vals L.S L.laws d)) (sym (L.same_subject x)) known.1.0,
          tt,
        ),
      )

  -- The value that the code returns.
  abbrev given : L.T-D → Val
  given x = vstruct (of_list (vint w32 (L.code x) ∷ LL.val L.S L.laws (L.subject x) ∷ []))

  given_is : (x : L.T-D) → LL.val changed changed_laws (L.rest x) ≡ given x
  given_is x = ap₂ (λ c d. vstruct (of_list (vint w32 c ∷ LL.val L.S L.laws d ∷ []))) (L.same_code x) (L.same_subject x)

  module _ {M : Type 1} (𝓤 : Ura M) where
    given_for : (x : L.T-D) (Q : Val → SProp 𝓤) {P : SProp 𝓤} →
        ent 𝓤 P (Q (LL.val changed changed_laws (L.rest x))) → ent 𝓤 P (Q (given x))
    given_for x Q {P} = subst (λ (v : Val). ent 𝓤 P (Q v)) (given_is x)

    given_typed : (𝓛 : Logic 𝓤) → (x : L.T-D) → Is (row stepped) x (LL.vals stepped stepped_laws x) →
        Typed (row changed).mir (given x ∷ [])
    given_typed 𝓛 x is =
        subst (λ (v : Val). Typed (row changed).mir (v ∷ [])) (given_is x)
        ((LL.lawful changed changed_laws 𝓛).typed (L.rest x) _ (rest_of x is))

  pub walk_two : (answer : L.S.D → ℕ → Counts → L.T-D) (name : Callee) {M : Type 1} {𝓤 : Ura M} (𝓛 : Logic 𝓤)
      → Walk 𝓛 (two_code name) (lent_two answer) name (takes_two answer)
  walk_two answer name {𝓤 = 𝓤} 𝓛 C Λ callee κs qs a ty Q out =
      let e : Args (takes_two answer) tt = (a.0, (a.1.0, (a.1.1.0.now, tt))) in
      let x = (takes_two answer).answer tt e in
      alloc1 ! (λ l₀. alloc1 ! (λ l₁. alloc1 ! (λ l₂. alloc1 ! (λ l₃. alloc1 ! (λ l₄. alloc1 ! (λ l₅. alloc1 !
      (λ l₆. alloc1 ! (λ l₇. alloc0 ! $ params1 ! $
      pass1 ! (init ! 12 refl ty.0) $ pass1 ! (init ! 10 refl ty.1.0) $ pass1 ! (init ! 8 refl (tt, tt)) $ pass0 ! $ move ! (16 ∷ []) $
      use1 𝓛 ((‵ (flft κs.0 qs.0) ⊛ ‵ ftrue) ⊛ ‵ (own_all (lent_two answer) κs a)) (id⊢ 𝓤 _) $ split ! $ split ! $ move !
      (2 ∷ []) $ fsplit ! $ move ! (1 ∷ []) $ fsplit ! $ move ! (1 ∷ []) $ fsplit ! $ move ! (0 ∷ 4 ∷ []) $
      opened Ct.the_type Ct'.the_laws ! tt κs a.1.1.0 (λ is.
      -- [what the counts own; the counts; the open borrow; obs; auth; …; what p and s own; …; room for _7; …; _6; …; _5; …; _4; …; _3; …;
      -- _2; …; _1; …; room for _0; …]
      assigns ! (of_opd ! (load ! (from ! (hop ! (look ! 17 refl) (stop !))) (look_raw ! 1 refl))) (from ! (stop !))
      (init ! 13 refl (((counts_row {n = 1}).lawful 𝓛 κs).typed _ _ is).0) $
      move ! (0 ∷ 5 ∷ []) $ fjoin ! $ move ! (5 ∷ 0 ∷ []) $ fjoin ! $ move ! (5 ∷ 0 ∷ []) $ fjoin ! $ move ! (5 ∷ 0 ∷ []) $ use2 𝓛
      (raw (on_entry_of (takes_two answer) 𝓛 tt tt e)) (id⊢ 𝓤 _) $
      -- [what the callee is handed; the counts; the open borrow; obs; auth; room for _7; …; room for _6; …; _5; …; room for _4; …; _3; …;
      -- _2; …; _1; …; room for _0; …]
      asks ! callee tt tt e (and_then ! (load ! (from ! (stop !)) (look ! 17 refl))
      (and_then ! (load ! (from ! (stop !)) (look ! 15 refl)) (and_then ! (load ! (from ! (stop !)) (look ! 9 refl)) (no_more !))))
      (λ ws x-is wt.
      -- [the answer's own; …; …; the counts; the open borrow; obs; auth; room for _7; …; room for _6; …; _5; …; room for _4; …; _3; …; _2;
      -- …; _1; …; room for _0; …]
      land ! (from ! (stop !)) (init ! 13 refl wt.0) $
      assigns ! (of_opd ! (reads stepped stepped_laws ! x 4 13 2 refl refl refl)) (from ! (stop !))
      (init ! 9 refl (((counts_row {n = 1}).lawful 𝓛 κs).typed (L.counts x) _ (counts_of x x-is)).0) $
      assigns ! (of_opd ! (load ! (from ! (stop !)) (look ! 9 refl))) (from ! (hop ! (look ! 15 refl) (stop !)))
      (store_raw ! 3 refl (((counts_row {n = 1}).lawful 𝓛 κs).typed (L.counts x) _ (counts_of x x-is)).0) $
      assigns ! (of_opd ! (reads stepped stepped_laws ! x 4 13 1 refl refl refl)) (from ! (stop !))
      (init ! 7 refl (((subject_row {n = 1}).lawful 𝓛 κs).typed (L.subject x) _ (subject_of x x-is)).0) $
      assigns ! (agg ! (and_then ! (reads stepped stepped_laws ! x 4 13 0 refl refl refl)
      (and_then ! (load ! (from ! (stop !)) (look ! 7 refl)) (no_more !)))) (from ! (stop !))
      (init ! 21 refl (given_typed 𝓤 𝓛 x x-is).0) $
      move ! (3 ∷ 4 ∷ 5 ∷ 6 ∷ []) $ closed Ct.the_type Ct'.the_laws ! tt κs a.1.1.0 (L.counts x) Ct'.the_plain (counts_of x x-is) $
      -- [the reference; the token; …; …; …; _7; …; _6; …; _5; …; _4; …; _3; …; _2; …; _1; …; _0; …]
      returns ! (look ! 19 refl) $ gone ! 19 refl refl $ gone ! 17 refl refl $ gone ! 15 refl refl $ gone ! 13 refl refl $
      gone ! 11 refl refl $ gone ! 9 refl refl $ gone ! 7 refl refl $ gone ! 5 refl refl $ free0 ! $
      owned ! (row changed) (Is (row changed)) (LL.makes changed changed_plain 𝓛) (L.rest x) _ (rest_of x x-is) $
      nothing ! $ move ! (2 ∷ 0 ∷ []) $ fjoin ! $ nothing ! $ fjoin ! $ nothing ! $ fjoin ! $ nothing ! $ move ! (3 ∷ 0 ∷ []) $ use2 𝓛
      (raw (token (lent_two answer) 𝓛 κs qs)) (id⊢ 𝓤 _) $ keep ! (1 ∷ 2 ∷ 0 ∷ []) $
      by ! (given_for 𝓤 x Q (out _ refl))))))))))))

  pub walk_three : (answer : L.S.D → ℕ → Bool → Counts → L.T-D) (name : Callee) {M : Type 1} {𝓤 : Ura M} (𝓛 : Logic 𝓤)
      → Walk 𝓛 (three_code name) (lent_three answer) name (takes_three answer)
  walk_three answer name {𝓤 = 𝓤} 𝓛 C Λ callee κs qs a ty Q out =
      let e : Args (takes_three answer) tt = (a.0, (a.1.0, (a.1.1.0, (a.1.1.1.0.now, tt)))) in
      let x = (takes_three answer).answer tt e in
      alloc1 ! (λ l₀. alloc1 ! (λ l₁. alloc1 ! (λ l₂. alloc1 ! (λ l₃. alloc1 ! (λ l₄. alloc1 ! (λ l₅. alloc1 ! (λ l₆. alloc1 ! (λ l₇.
      alloc1 ! (λ l₈. alloc0 ! $ params1 ! $
      pass1 ! (init ! 14 refl ty.0) $ pass1 ! (init ! 12 refl ty.1.0) $ pass1 ! (init ! 10 refl ty.1.1.0) $ pass1 !
      (init ! 8 refl (tt, tt)) $ pass0 ! $ move ! (18 ∷ []) $
      use1 𝓛 ((‵ (flft κs.0 qs.0) ⊛ ‵ ftrue) ⊛ ‵ (own_all (lent_three answer) κs a)) (id⊢ 𝓤 _) $ split ! $ split ! $ move !
      (2 ∷ []) $ fsplit ! $ move ! (1 ∷ []) $ fsplit ! $ move ! (1 ∷ []) $ fsplit ! $ move ! (1 ∷ []) $ fsplit ! $ move ! (0 ∷ 5 ∷ []) $
      opened Ct.the_type Ct'.the_laws ! tt κs a.1.1.1.0 (λ is.
      -- [what the counts own; the counts; the open borrow; obs; auth; …; what hint, p and s own; …; room for _8; …; _7; …; _6; …; _5; …;
      -- _4; …; _3; …; _2; …; _1; …; room for _0; …]
      assigns ! (of_opd ! (load ! (from ! (hop ! (look ! 18 refl) (stop !))) (look_raw ! 1 refl))) (from ! (stop !))
      (init ! 14 refl (((counts_row {n = 1}).lawful 𝓛 κs).typed _ _ is).0) $
      move ! (0 ∷ 5 ∷ []) $ fjoin ! $ move ! (5 ∷ 0 ∷ []) $ fjoin ! $ move ! (5 ∷ 0 ∷ []) $ fjoin ! $ move ! (5 ∷ 0 ∷ []) $ fjoin ! $ move !
      (5 ∷ 0 ∷ []) $ use2 𝓛 (raw (on_entry_of (takes_three answer) 𝓛 tt tt e)) (id⊢ 𝓤 _) $
      -- [what the callee is handed; the counts; the open borrow; obs; auth; room for _8; …; room for _7; …; _6; …; room for _5; …; _4; …;
      -- _3; …; _2; …; _1; …; room for _0; …]
      asks ! callee tt tt e (and_then ! (load ! (from ! (stop !)) (look ! 19 refl))
      (and_then ! (load ! (from ! (stop !)) (look ! 17 refl))
      (and_then ! (load ! (from ! (stop !)) (look ! 15 refl)) (and_then ! (load ! (from ! (stop !)) (look ! 9 refl)) (no_more !)))))
      (λ ws x-is wt.
      -- [the answer's own; …; …; the counts; the open borrow; obs; auth; room for _8; …; room for _7; …; _6; …; room for _5; …; _4; …; _3;
      -- …; _2; …; _1; …; room for _0; …]
      land ! (from ! (stop !)) (init ! 13 refl wt.0) $
      assigns ! (of_opd ! (reads stepped stepped_laws ! x 5 13 2 refl refl refl)) (from ! (stop !))
      (init ! 9 refl (((counts_row {n = 1}).lawful 𝓛 κs).typed (L.counts x) _ (counts_of x x-is)).0) $
      assigns ! (of_opd ! (load ! (from ! (stop !)) (look ! 9 refl))) (from ! (hop ! (look ! 15 refl) (stop !)))
      (store_raw ! 3 refl (((counts_row {n = 1}).lawful 𝓛 κs).typed (L.counts x) _ (counts_of x x-is)).0) $
      assigns ! (of_opd ! (reads stepped stepped_laws ! x 5 13 1 refl refl refl)) (from ! (stop !))
      (init ! 7 refl (((subject_row {n = 1}).lawful 𝓛 κs).typed (L.subject x) _ (subject_of x x-is)).0) $
      assigns ! (agg ! (and_then ! (reads stepped stepped_laws ! x 5 13 0 refl refl refl)
      (and_then ! (load ! (from ! (stop !)) (look ! 7 refl)) (no_more !)))) (from ! (stop !))
      (init ! 23 refl (given_typed 𝓤 𝓛 x x-is).0) $
      move ! (3 ∷ 4 ∷ 5 ∷ 6 ∷ []) $ closed Ct.the_type Ct'.the_laws ! tt κs a.1.1.1.0 (L.counts x) Ct'.the_plain (counts_of x x-is) $
      -- [the reference; the token; …; …; …; _8; …; _7; …; _6; …; _5; …; _4; …; _3; …; _2; …; _1; …; _0; …]
      returns ! (look ! 21 refl) $ gone ! 21 refl refl $ gone ! 19 refl refl $ gone ! 17 refl refl $ gone ! 15 refl refl $
      gone ! 13 refl refl $ gone ! 11 refl refl $ gone ! 9 refl refl $ gone ! 7 refl refl $ gone ! 5 refl refl $ free0 ! $
      owned ! (row changed) (Is (row changed)) (LL.makes changed changed_plain 𝓛) (L.rest x) _ (rest_of x x-is) $
      nothing ! $ move ! (2 ∷ 0 ∷ []) $ fjoin ! $ nothing ! $ fjoin ! $ nothing ! $ fjoin ! $ nothing ! $ fjoin ! $ nothing ! $ move !
      (3 ∷ 0 ∷ []) $ use2 𝓛 (raw (token (lent_three answer) 𝓛 κs qs)) (id⊢ 𝓤 _) $ keep ! (1 ∷ 2 ∷ 0 ∷ []) $
      by ! (given_for 𝓤 x Q (out _ refl)))))))))))))
