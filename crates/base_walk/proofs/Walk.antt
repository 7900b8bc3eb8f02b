-- A function that makes one call: its code is walked to the call, the callee keeps its promise, and the code is walked to the exit.
--     Known            the callee, by its name in a table of calls: it meets a contract, which says what it answers
--     Walk             what a function's proof shows: its code, from what it is handed to what is had at exit
--     asks             the call. Its result is the callee's answer, spelled out
--     passes_on        what a function is handed gives what its callee is handed.        copied      it is kept besides
--     gone             a local is freed, whatever it holds
--     proved           the walk, taken to the function's own routine, for whatever its contract says that its promise gives
-- Assumes `Logic`, and that the table of calls is monotone under a frame, as every `Tables` is.
use Rattle.std.specs.Prelude.{◌≡◌, ◌∷◌}
use Rattle.base.specs.Prelude.{refl, sym, subst, ap, ℕ, zero, suc, List, []}
use Rattle.base.specs.Walks.{Ura, Logic, full_share, Ty, Callee, Place, Operand, Code as Body, Fn, seq, call, Val, SProp, ent, emp, via}
use Rattle.base.specs.Walks.{fst∗, mono_r}
use Rattle.base.specs.Walks.{id⊢, fat, fdies, sem, Copies, twices}
use Rattle.base.specs.Walks.{Model, Routine, Names, Env, Calls, Loops, WpFn, Closed, Lfts, Shares, fact, Running}
use Rattle.base.specs.Walks.{tables}
use Rattle.base.specs.Walks.{tables_of, Go, Item, ‵, raw, ◌⊛◌, someone, later, nth, del, Goal, Post, runs, lands, allocs, params'}
use Rattle.base.specs.Walks.{frees, at_ret, Seq}
use Rattle.base.specs.Walks.{Step, step, ⋆, ◌$◌, ◌∵◌, !, qed, move, use0, use1, use2, split, group, pick, suffices, await, done, Opds}
use Rattle.base.specs.Walks.{enter, forget, free1, FmC, fm_of}
use Rattle.base.specs.Walks.{WpFn-mono, flat, mirs, Is, Typed, shows, only, peeks, heard, calls_from, Clauses, Lasts, at_exit, closing}
use Rattle.base.specs.Walks.{Meets, triple_of, Triple, entered, cited}
use Rattle.base.specs.Walks.{ends_at, walked, walk_Meets}
use types.Kit.{pop, rewrite}
use denote.Laws.{all_Typed}
use denote.Triple.Clauses.{lasts}
use Rattle.base_walk.proofs.Promise.{stays, rows, spells, all_tell, fits, all_go, lawfuls, Promise, ended, Args, Claim, vals}
use Rattle.base_walk.proofs.Promise.{own_all, had, triple, token, on_entry_of, bound}

module _ {M : Type 1} {𝓤 : Ura M} (𝓛 : Logic 𝓤) {n : ℕ} where
  open 𝓛 use {H}

  pub record Known (C : Calls 𝓤 H) (k : Callee) (p : Promise n) : Type 2 where
    pub framed : FmC 𝓤 H 𝓛.laws C
    pub claim : Claim p
    pub told : (κs : Lfts n) (a : Args p κs) (r : (p.gives.row κs).Denot) (ws : Lasts (ended p) κs a) → claim κs a r ws →
        r ≡ p.answer κs a
    pub met : Triple 𝓤 (C k) (triple p 𝓛 claim)

  -- of a function of the code f and the promise p, over any tables in which k keeps its promise p'
  abbrev pub Walk : {m : ℕ} → Fn → Promise m → Callee → Promise n → Type 2
  Walk {m} f p k p' =
      (C : Calls 𝓤 H) (Λ : Loops 𝓤 H) → Known C k p' → (κs : Lfts m) (qs : Shares m) (a : Args p κs) →
      Typed (mirs (rows κs p.takes)) (flat (rows κs p.takes) (vals p κs a))
      → (Q : Val → SProp 𝓤)
      → ((r : (p.gives.row κs).Denot) → r ≡ p.answer κs a →
      ent 𝓤 (⋆ 𝓛 (‵ (had p κs a) ∷ ‵ ((p.gives.row κs).own_val r (p.gives.val κs r ∷ [])) ∷ raw (token p 𝓛 κs qs) ∷ []))
      (Q (p.gives.val κs r)))
      → Seq (Go {0}) 𝓛 (raw (on_entry_of p 𝓛 κs qs a) ∷ [])
      (allocs f.locals (λ E. params' E (flat (rows κs p.takes) (vals p κs a)) (runs C Λ E f.body (at_ret E Q))))

module _ {M : Type 1} {𝓤 : Ura M} {𝓛 : Logic 𝓤} {K : Type 0} {Γ : List (Item 𝓤)} where
  -- the cell of a local stands at n, and what frees it behind it
  open 𝓛 use {H}

  pub gone : K → (n : ℕ) {τ : Ty} {b : ℕ} {v : Val} {E : Env 𝓤 H} {g : Goal 𝓤 H} → nth 𝓛 n Γ ≡ ‵ (fat full_share τ b zero v) →
      nth 𝓛 n (del 𝓛 n Γ) ≡ ‵ (fdies τ b)
      → Step K 𝓛 (del 𝓛 n (del 𝓛 n Γ)) (frees E g) Γ (frees ((τ, b) ∷ E) g)
  gone t n cell dies = step (λ s.
      move t (n ∷ []) $ rewrite t 0 (λ (j : Item 𝓤). j) cell refl $ forget t 0 refl $ move t (suc n ∷ []) $ rewrite t 0
      (λ (j : Item 𝓤). j) dies refl $ move t (1 ∷ 0 ∷ []) $ free1 t $ s)

  module _ {G : Goal 𝓤 H} {n : ℕ} where
    pub passes_on : K → (p p' : Promise n) (κs : Lfts n) (qs : Shares n) (a : Args p κs) (a' : Args p' κs) →
        ent 𝓤 (sem 𝓛 (own_all p κs a)) (sem 𝓛 (own_all p' κs a'))
        → Step K 𝓛 (raw (on_entry_of p' 𝓛 κs qs a') ∷ Γ) G (raw (on_entry_of p 𝓛 κs qs a) ∷ Γ) G
    passes_on t p p' κs qs a a' gives = use1 𝓛 (raw (on_entry_of p' 𝓛 κs qs a')) (mono_r 𝓤 (token p 𝓛 κs qs) gives)

    pub copied : K → (p : Promise n) (κs : Lfts n) (qs : Shares n) (a : Args p κs) → Copies 𝓛 (rows κs p.takes) →
        Step K 𝓛 (raw (on_entry_of p 𝓛 κs qs a) ∷ ‵ (own_all p κs a) ∷ Γ) G (raw (on_entry_of p 𝓛 κs qs a) ∷ Γ) G
    copied t p κs qs a copies = step (λ s. use1 𝓛 (raw (token p 𝓛 κs qs) ⊛ (‵ (own_all p κs a) ⊛ ‵ (own_all p κs a)))
        (mono_r 𝓤 (token p 𝓛 κs qs) (twices 𝓛 (rows κs p.takes) copies a (vals p κs a))) $
        split t $ move t (1 ∷ []) $ split t $ move t (2 ∷ 0 ∷ []) $ use2 𝓛 (raw (on_entry_of p 𝓛 κs qs a)) (id⊢ 𝓤 _) $ s)

  module _ {E : Env 𝓤 H} {C : Calls 𝓤 H} {Λ : Loops 𝓤 H} {f : Callee} {xs : List Operand} {q : Post 𝓤 H} {d : Place} {rest : Body} {n : ℕ} {p : Promise n} where
    pub asks : K → Known 𝓛 C f p → (κs : Lfts n) (qs : Shares n) (a : Args p κs) →
        Opds K 𝓛 (raw (on_entry_of p 𝓛 κs qs a) ∷ Γ) E xs (flat (rows κs p.takes) (vals p κs a))
        → ((ws : Lasts (ended p) κs a) → Is (p.gives.row κs) (p.answer κs a) (p.gives.val κs (p.answer κs a) ∷ []) →
        Typed (p.gives.row κs).mir (p.gives.val κs (p.answer κs a) ∷ [])
        → Seq K 𝓛 (‵ ((p.gives.row κs).own_val (p.answer κs a) (p.gives.val κs (p.answer κs a) ∷ [])) ∷ raw (token p 𝓛 κs qs)
        ∷ ‵ (lasts (ended p) κs a ws) ∷ Γ) (lands C Λ E d (p.gives.val κs (p.answer κs a)) rest q))
        → Seq K 𝓛 (raw (on_entry_of p 𝓛 κs qs a) ∷ Γ) (runs C Λ E (seq (call f xs d) rest) q)
    asks t callee κs qs a os k =
        let R = p.gives.row κs in
        calls_from t callee.framed (raw (on_entry_of p 𝓛 κs qs a)) (flat (rows κs p.takes) (vals p κs a))
        ((triple p 𝓛 callee.claim).post (bound p 𝓛 callee.claim κs qs a))
        (via 𝓤 _ (pop 𝓛 (raw (on_entry_of p 𝓛 κs qs a)) []) (callee.met (bound p 𝓛 callee.claim κs qs a))) os (λ u.
        use1 𝓛 (later (someone (λ (r : R.Denot). (raw (token p 𝓛 κs qs) ⊛ ‵ (R.own_val r (u ∷ []))) ⊛ someone
        (λ (ws : Lasts (ended p) κs a). ‵ (lasts (ended p) κs a ws) ⊛ raw (fact 𝓤 (callee.claim κs a r ws)))))) (id⊢ 𝓤 _) $
        await t tt $ pick t (λ r. split t $ move t (1 ∷ []) $ pick t
        (λ ws. split t $ move t (1 ∷ []) $ heard t (callee.claim κs a r ws) (λ said.
        move t (1 ∷ []) $ split t $ move t (1 ∷ 0 ∷ []) $ peeks t R (Is R) (shows 𝓛 R) r (u ∷ []) (λ is.
        subst (λ (w : Val). (Is R r (w ∷ []) → Seq K 𝓛 (‵ (R.own_val r (w ∷ [])) ∷ raw (token p 𝓛 κs qs) ∷ ‵ (lasts (ended p) κs a ws)
        ∷ Γ) (lands C Λ E d w rest q))) (sym (ap only (p.gives.tells κs r (u ∷ []) is)))
        (subst (λ (z : R.Denot). (Is R z (p.gives.val κs z ∷ []) →
        Seq K 𝓛 (‵ (R.own_val z (p.gives.val κs z ∷ [])) ∷ raw (token p 𝓛 κs qs) ∷ ‵ (lasts (ended p) κs a ws) ∷ Γ)
        (lands C Λ E d (p.gives.val κs z) rest q)))
        (sym (callee.told κs a r ws said)) (λ is'. k ws is' ((p.gives.lawful 𝓛 κs).typed _ _ is'))) is)))))

-- k' is the callee's name and r' its routine
pub proved : {M : Type 1} {𝓤 : Ura M} (𝓛 : Logic 𝓤) (𝓜 : Model 𝓤 𝓛.H) (𝓡 : Running 𝓤 𝓛.H 𝓜) (γ : Names) (k : Callee)
    (f : Fn) → Closed 𝓤 𝓛.H (tables 𝓤 𝓛.H 𝓜 𝓡 γ).C (tables 𝓤 𝓛.H 𝓜 𝓡 γ).Λ k f
    → {m n : ℕ} (p : Promise m) (c : Clauses 𝓤 (ended p)) →
    ((κs : Lfts m) (a : Args p κs) (g : (c κs a).ghost) → ent 𝓤 (emp 𝓤)
    ((c κs a).ensures g (p.answer κs a) (at_exit (ended p) κs a (p.ends κs a))))
    → (k' : Callee) (r' : Routine) → γ k' ≡ r' → (p' : Promise n) (claim : Claim p') →
    ((κs : Lfts n) (a : Args p' κs) (r : (p'.gives.row κs).Denot) (ws : Lasts (ended p') κs a) → claim κs a r ws → r ≡ p'.answer κs a)
    → Triple 𝓤 (𝓡.run r') (triple p' 𝓛 claim) → Walk 𝓛 f p k' p' →
    Meets 𝓛 (ended p).signature ((tables 𝓤 𝓛.H 𝓜 𝓡 γ).C k) (closing 𝓛 (ended p) c)
unfolding tables_of
proved {𝓤 = 𝓤} 𝓛 𝓜 𝓡 γ k f closed p c so k' r' calls p' claim told met walk =
    let 𝓣 = tables_of 𝓤 𝓛.H 𝓜 (tables 𝓤 𝓛.H 𝓜 𝓡 γ) in
    let A = 𝓛.A in
    entered 𝓤 𝓛.H (triple_of 𝓛 (ended p).signature (closing 𝓛 (ended p) c)) 𝓣.C 𝓣.Λ k f closed
    (walk_Meets 𝓛 (ended p) (stays p.takes) (all_go 𝓛 p.takes) c (WpFn 𝓤 𝓛.H 𝓣.C 𝓣.Λ f) (WpFn-mono 𝓤 𝓛.H 𝓛.laws 𝓣 f)
    (walked 𝓛 (ended p) (stays p.takes) c (WpFn 𝓤 𝓛.H 𝓣.C 𝓣.Λ f) (λ κs. spells κs p.takes) (λ κs. all_tell κs p.takes)
    (λ κs qs bounds a g are. via 𝓤 _ (fst∗ 𝓤 _ ((c κs a).requires g))
    (qed 𝓛 (raw (on_entry_of p 𝓛 κs qs a) ∷ []) ∵ enter ! 𝓣.C 𝓣.Λ f (flat (rows κs p.takes) (vals p κs a)) _ $
    walk 𝓣.C 𝓣.Λ (record {
      framed = fm_of 𝓤 𝓛.H 𝓛.laws 𝓣;
      claim = claim;
      told = told;
      met = cited 𝓤 𝓛.H (triple p' 𝓛 claim) 𝓜 𝓡 γ k' r' calls met;
    }) κs qs a
    (all_Typed 𝓛 (rows κs p.takes) (lawfuls 𝓛 κs p.takes) a (vals p κs a) are) _ (λ r e.
    let ensures : (p.gives.row κs).Denot → SProp 𝓤 = λ z. (c κs a).ensures g z (at_exit (ended p) κs a (p.ends κs a)) in
    qed 𝓛 (‵ (had p κs a) ∷ ‵ ((p.gives.row κs).own_val r (p.gives.val κs r ∷ [])) ∷ raw (token p 𝓛 κs qs) ∷ []) ∵
    suffices ! _ (ends_at 𝓛 (ended p) (stays p.takes) c ((κs, qs, bounds, a, vals p κs a), g) (p.gives.val κs r) r
    (p.ends κs a) (fits κs p.takes a (p.ends κs a))) $
    use0 𝓛 (raw (ensures r)) (subst (λ (z : (p.gives.row κs).Denot). ent 𝓤 (emp 𝓤) (ensures z)) (sym e) (so κs a g)) $ move !
    (3 ∷ 1 ∷ 2 ∷ []) $ group ! 3 $ done !)))))
