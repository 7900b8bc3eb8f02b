-- Lists of calls on any machine: what each operation keeps, a list keeps; and calls that answer as the machine does follow it.
use Rattle.std.specs.Prelude.{◌≡◌, ◌∷◌, ◌++◌}
use Rattle.base.specs.Prelude.{refl, sym, ◌∙◌, ap, List, []}
use Rattle.model.specs.Numbers.{unsound}
use Rattle.model_rule.specs.System.{System, Call, inputs, Run, none, call, machine, events, past, EachAsTheMachine, AfterEach}

module _ {State Input Answer Event : Type 0} (M : System State Input Answer Event) (Kept : State → List Event → Type 0)
    (keeps : (s : State) (h : List Event) (f : Input) → Kept s h → Kept (M.state (M.perform s f)) (events M s f ++ h)) where
  pub machine_kept : {start : State} → Kept start [] → (fs : List Input) → Kept (machine M start fs) (past M start fs)
  machine_kept i [] = i
  machine_kept i (f ∷ fs) = keeps _ _ f (machine_kept i fs)

  module _ {promised : State → Input → Answer}
      (answers : (s : State) (h : List Event) (f : Input) → Kept s h →
      (promised s f ≡ M.perform s f) × (M.code (M.perform s f) ≡ unsound → ⊥)) where
    pub followed : {start s : State} {cs : List (Call Input Answer)} → Kept start [] → Run M.state promised start cs s →
        EachAsTheMachine M start cs × (s ≡ machine M start (inputs cs))
    followed i none = (tt, refl)
    followed {start} i (call {cs} run c promise) =
        let f = followed i run in
        let a = answers _ _ c.input (machine_kept i (inputs cs)) in
        let e = (rw f.1 at promise) ∙ a.0 in
        ((e, λ three. a.1 (sym (ap M.code e) ∙ three), f.0), ap M.state e)

-- What holds at the end of every list holds after each call of a list: the calls up to it are a list too.
pub after_each : {State Input Answer Event : Type 0} (M : System State Input Answer Event) (P : State → List (Call Input Answer) → Type 0)
    {promised : State → Input → Answer} {start s : State} {cs : List (Call Input Answer)} →
    ((cs : List (Call Input Answer)) (s : State) → Run M.state promised start cs s → P s cs) → Run M.state promised start cs s →
    AfterEach M P start cs
after_each M P all none = all _ _ none
after_each M P all (call run c e) = (all _ _ (call run c e), after_each M P all run)
