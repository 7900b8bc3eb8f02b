-- Which events stand in a past: a test of it, by computation, and what it says.
use Rattle.std.specs.Prelude.{◌≡◌, ◌&&◌, ◌∷◌}
use Rattle.base.specs.Prelude.{ℕ, zero, suc, refl, sym, ◌∙◌, subst, Bool, true, false, cond, true≢false, List, [], eqb}
use Rattle.base.specs.Prelude.{eqb-true, eq-eqb}
use Rattle.base.specs.Bools.{and_left, and_right, cond_cases}
use Rattle.model_rule.specs.Event.{Event, proposal, write, flag, commit, decision, Past, here, there, Happened}

-- An event as four numbers, the first of which says its kind, and back.
abbrev numbers : Event → ℕ × ℕ × ℕ × ℕ
numbers (proposal v) = (0, v, 0, 0)
numbers (write p r v) = (1, p, r, v)
numbers (flag r) = (2, r, 0, 0)
numbers (commit r v) = (3, r, v, 0)
numbers (decision p v) = (4, p, v, 0)

abbrev event : (kind a b c : ℕ) → Event
event zero a b c = proposal a
event (suc zero) a b c = write a b c
event (suc (suc zero)) a b c = flag a
event (suc (suc (suc zero))) a b c = commit a b
event (suc (suc (suc (suc k)))) a b c = decision a b

back : (e : Event) → let a = numbers e in event a.0 a.1 a.2 a.3 ≡ e
back (proposal v) = refl
back (write p r v) = refl
back (flag r) = refl
back (commit r v) = refl
back (decision p v) = refl

-- Whether e is the event x.
abbrev is : (x e : Event) → Bool
is x e = let a = numbers x in let b = numbers e in eqb b.0 a.0 && eqb b.1 a.1 && eqb b.2 a.2 && eqb b.3 a.3

is_only : (x e : Event) → is x e ≡ true → e ≡ x
is_only x e t =
    let a = numbers x in
    let b = numbers e in
    let kind = eqb b.0 a.0 in
    let two = kind && eqb b.1 a.1 in
    let three = two && eqb b.2 a.2 in
    let u = and_left three (eqb b.3 a.3) t in
    let v = and_left two (eqb b.2 a.2) u in
    sym (back e)
    ∙ rw (
      eqb-true b.0 a.0 (and_left kind (eqb b.1 a.1) v),
      eqb-true b.1 a.1 (and_right kind (eqb b.1 a.1) v),
      eqb-true b.2 a.2 (and_right two (eqb b.2 a.2) u),
      eqb-true b.3 a.3 (and_right three (eqb b.3 a.3) t),
    ) (back x)

is_itself : (x : Event) → is x x ≡ true
is_itself x = let a = numbers x in rw (
  eq-eqb a.0 a.0 refl,
  eq-eqb a.1 a.1 refl,
  eq-eqb a.2 a.2 refl,
  eq-eqb a.3 a.3 refl,
) refl

-- Whether x stands in a past.
abbrev pub occurs : (x : Event) → List Event → Bool
occurs x [] = false
occurs x (e ∷ h) = cond (is x e) true (occurs x h)

pub occurs_happened : (x : Event) (h : List Event) → occurs x h ≡ true → Happened x h
occurs_happened x [] = λ t. absurd (true≢false (sym t))
occurs_happened x (e ∷ h) =
    cond_cases (λ (b : Bool). b ≡ true → Happened x (e ∷ h)) (is x e)
    (λ t u. subst (λ (y : Event). Happened y (e ∷ h)) (is_only x e t) (record { before = h; past = here }))
    (λ t u. let a = occurs_happened x h u in record { before = a.before; past = there a.past })

pub past_occurs : (x : Event) {h' h : List Event} → Past (x ∷ h') h → occurs x h ≡ true
past_occurs x here = rw (is_itself x) refl
past_occurs x (there {e = e} {h = h} k) = cond_cases (λ (b : Bool). b ≡ true) (is x e) (λ t. refl) (λ t. past_occurs x k)
